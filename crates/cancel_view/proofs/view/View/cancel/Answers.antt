use Rattle.std.proofs.Common.{ℕ, ap, ◌∙◌}
use Rattle.std.specs.Prelude.{bit_or}
use Rattle.cancel_view.specs.Marks.{opening}
use Rattle.cancel_view.proofs.Kept.{fired_rise}
use Rattle.cancel_view.proofs.Marked.{marked_more}
use Rattle.cancel_view.proofs.view.View.cancel.Goals as goal

pub invariant_of-self : goal.invariant_of-self
invariant_of-self c =
    marked_more c.args.c c.self.inside.members.items _ c.self.inside.marks _ c.self.invariant c.add_member.ensures (c.add.ensures ∙ ap (λ (n : ℕ). bit_or c.self.inside.marks (opening n)) c.cancel_number.ensures)

pub returns-then-has_member-clause-rising : goal.returns-then-has_member-clause-rising
returns-then-has_member-clause-rising c = rw (← c.self.view_is) (fired_rise c.args.c c.self.inside.handlers)

pub returns-in_err-fired-clause-rising : goal.returns-in_err-fired-clause-rising
returns-in_err-fired-clause-rising c = rw (← c.self.view_is) (fired_rise c.args.c c.self.inside.handlers)

pub returns-clause-rising : goal.returns-clause-rising
returns-clause-rising c = rw (← c.self.view_is) (fired_rise c.args.c c.self.inside.handlers)
