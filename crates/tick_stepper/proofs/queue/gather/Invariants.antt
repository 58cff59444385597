use Rattle.tick_stepper.specs.Queue.{IsTakenIn}
use Rattle.tick_stepper.proofs.queue.gather.Given as goal

abbrev pub invariant-loop-haul : goal.invariant-loop-haul
invariant-loop-haul l =
    goal.iterator-loop-haul.can_next l.haul-iterator × goal.iterator-loop-haul.is_finite l.haul-iterator
    × IsTakenIn l.yielded l.fn.list l.list l.fn.office l.office l.lanes.items
