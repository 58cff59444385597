use Rattle.std.proofs.Common.{◌≡◌, ◌++◌}
use Rattle.tick_stepper.specs.Rest.{all_woken}
use Rattle.tick_stepper.proofs.rest.wake_all.Given as goal

abbrev pub invariant-loop-one : goal.invariant-loop-one
invariant-loop-one l =
    goal.iterator-loop-one.can_next l.one-iterator × goal.iterator-loop-one.is_finite l.one-iterator
    × (l.lanes.items ≡ l.fn.lanes.items ++ all_woken l.tick l.yielded)
