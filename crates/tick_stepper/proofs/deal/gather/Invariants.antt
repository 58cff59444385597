use Rattle.tick_stepper.specs.Share.{IsGathered}
use Rattle.tick_stepper.proofs.deal.gather.Given as goal

abbrev pub invariant-loop-haul : goal.invariant-loop-haul
invariant-loop-haul l =
    goal.iterator-loop-haul.can_next l.haul-iterator × goal.iterator-loop-haul.is_finite l.haul-iterator
    × IsGathered l.yielded l.lanes.items l.letters.items
