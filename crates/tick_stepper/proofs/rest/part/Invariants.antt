use Rattle.std.proofs.Common.{◌≡◌, not}
use Rattle.std.specs.List.{filter}
use Rattle.tick_stepper.specs.Rest.{is_due}
use Rattle.tick_stepper.proofs.rest.part.Given as goal

abbrev pub invariant-loop-one : goal.invariant-loop-one
invariant-loop-one l =
    goal.iterator-loop-one.can_next l.one-iterator × goal.iterator-loop-one.is_finite l.one-iterator
    × (l.due.items ≡ filter (is_due l.tick) l.yielded) × (l.resting.items ≡ filter (λ one. not (is_due l.tick one)) l.yielded)
