use Rattle.std.proofs.Common.{◌≡◌, ◌∙◌, Bool, true, false, not, refl, ap, sym}
use Rattle.std.specs.List.{list_any}
use Rattle.task_steps.specs.declared.mark.Mark.{Mark}
use Rattle.task_steps.specs.BookInside.{heeds, entries_below}
use Rattle.task_steps.proofs.Heeding.{none_heeds, owes_none}
use Rattle.task_steps.proofs.tasks.Tree.+reply_next.Goals as goal

none : (b : Bool) → not b ≡ true → b ≡ false
none true h = sym h
none false h = refl

pub returns-then-not-mark : goal.returns-then-not-mark
returns-then-not-mark t c =
    let es = entries_below c.args.self.now in
    let quiet : list_any heeds es ≡ false = sym (ap (λ (m : Mark). m.heeds) c.requires.known) ∙ none c.args.mark.heeds c.if-not-mark.true in
    sym (owes_none c.args.view.now es (none_heeds c.args.view.now es quiet))
