use Rattle.std.proofs.Common.{◌≡◌, ◌++◌, map}
use Rattle.tick_stepper.specs.Known.{turned_known, rested_known}
use Rattle.tick_stepper.proofs.known.awake.Given as goal

abbrev pub invariant-loop-lane : goal.invariant-loop-lane
invariant-loop-lane l =
    goal.iterator-loop-lane.can_next l.lane-iterator × goal.iterator-loop-lane.is_finite l.lane-iterator
    × (l.all.items ≡ map turned_known l.yielded)

abbrev pub invariant-loop-one : goal.invariant-loop-one
invariant-loop-one l =
    goal.iterator-loop-one.can_next l.one-iterator × goal.iterator-loop-one.is_finite l.one-iterator
    × (l.all.items ≡ map turned_known l.fn.done.items ++ map (rested_known l.tick l.letters) l.yielded)
