use Rattle.std.proofs.Common.{◌≡◌, ◌++◌, length}
use Rattle.tick_stepper.specs.Rest.{IsSettled}
use Rattle.tick_stepper.proofs.known.settle.Given as goal

abbrev pub invariant-loop-lane : goal.invariant-loop-lane
invariant-loop-lane l =
    goal.iterator-loop-lane.can_next l.lane-iterator × goal.iterator-loop-lane.is_finite l.lane-iterator
    × IsSettled l.script l.tick l.yielded l.ones.items × (length l.ones.items ≡ length l.yielded)
    × (l.fn.lanes.items ≡ l.yielded ++ l.lane-iterator.rest.items)
