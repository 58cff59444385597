use Rattle.std.proofs.Common.{◌≡◌}
use Rattle.tick_stepper.specs.Queue.{filled}
use Rattle.tick_stepper.proofs.queue.fill.Given as goal

abbrev pub invariant-loop-lane : goal.invariant-loop-lane
invariant-loop-lane g l =
    (goal.iterator-loop-lane g).can_next l.lane-iterator × (goal.iterator-loop-lane g).is_finite l.lane-iterator
    × (l.list ≡ filled l.list.home l.yielded)
