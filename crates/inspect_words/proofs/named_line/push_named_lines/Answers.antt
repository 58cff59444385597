use Rattle.std.proofs.Common.{◌≡◌, ◌∙◌, ◌++◌, ap, string_bytes}
use Rattle.named_lines.specs.Lines.{line_text}
use Rattle.inspect_words.proofs.Telling.{one_more}
use Rattle.inspect_words.proofs.named_line.push_named_lines.Goals as goal

pub loop-line-preserved : goal.loop-line-preserved
loop-line-preserved c =
    let tick_us : c.tick_us-tick_us.result ≡ c.args.run.account.now.script.tick_us = c.tick_us-tick_us.ensures.tick_us ∙ ap (λ s. s.tick_us) c.script.ensures in
    let added = rw c.in_ok-push_line.was at c.push_line.ensures in
    one_more c.args.run.account.now.script.tick_us c.args.run.names.now c.args.moment.now.lane c.args.lines.now c.loop-line.line-index c.told_of-told.result _ (string_bytes c.args.out.now) (string_bytes c.loop-line.out) (string_bytes c.push_line.new.out)
    c.loop-line.invariant c.loop-line-test.true c.told_of-told.ensures.line c.told_of-told.ensures.lane
    (added ∙ ap (λ n. string_bytes c.loop-line.out ++ line_text n c.args.run.names.now c.told_of-told.result) tick_us)
