use Rattle.std.proofs.Common.{◌≡◌, map, take}
use Rattle.lane_turn.specs.Lane.{State}
use Rattle.tick_stepper.proofs.stay.numbers_of.Given as goal

abbrev pub invariant-loop-lane : goal.invariant-loop-lane
invariant-loop-lane l = l.numbers.items ≡ map (λ (s : State). s.lane.number) (take l.lane-index l.lanes)
