use Rattle.std.proofs.Common.{◌∙◌, sym, subst, OnOk, is_some, map, string_bytes}
use Rattle.inspect_words.specs.Named.{TellsOf}
use Rattle.inspect_text.specs.Gathered.{Gathers}
use Rattle.inspect_text.proofs.Gathering.{gathers}
use Rattle.inspect_text.proofs.run_text.RunText.tell.Goals as goal

pub returns : goal.returns
returns c named live =
    let run = c.args.run.account.now in
    let names = c.args.run.names.now in
    let told : TellsOf run names c.args.moment.now c.as_str.result.now = subst (λ t. TellsOf run names c.args.moment.now t) (sym c.as_str.ensures.value) (c.in_ok-lines.ensures named live) in
    subst
    (λ old. OnOk c.add-2.result (Gathers run names c.args.moment.now old (record { threads = map string_bytes c.add-2.new.threads.items; notes = is_some c.notes_behind.new.noted })))
    c.self.view_is
    (gathers c.add-2.result run names c.args.moment.now c.as_str.result.now c.as_str-2.result.now (map string_bytes c.self.inside.threads.items) (map string_bytes c.add.new.threads.items) (map string_bytes c.add-2.new.threads.items)
    (is_some c.self.inside.noted) (is_some c.notes_behind.new.noted) told (λ none. c.as_str-2.ensures.value ∙ c.in_ok-notes.ensures.text none) c.notes_behind.ensures.asked c.in_ok-add.ensures.text c.add-2.ensures.text)
