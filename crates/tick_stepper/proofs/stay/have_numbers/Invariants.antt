use Rattle.std.proofs.Common.{◌≡◌, map, take, length}
use Rattle.lane_turn.specs.Lane.{State}
use Rattle.tick_stepper.proofs.stay.have_numbers.Given as goal

abbrev pub invariant-loop-i : goal.invariant-loop-i
invariant-loop-i l = record {
  long : length l.lanes ≡ length l.numbers;
  same : map (λ (s : State). s.lane.number) (take l.i l.lanes) ≡ take l.i l.numbers;
}
