use Rattle.std.proofs.Common.{◌≡◌, map}
use Rattle.tick_stepper.specs.declared.known.Known.{Known}
use Rattle.tick_stepper.proofs.known.apart.Given as goal

abbrev pub invariant-loop-one : goal.invariant-loop-one
invariant-loop-one l =
    goal.iterator-loop-one.can_next l.one-iterator × goal.iterator-loop-one.is_finite l.one-iterator
    × (l.lanes.items ≡ map (λ (one : Known). one.lane) l.yielded) × (l.rested.items ≡ map (λ (one : Known). one.rested) l.yielded)
