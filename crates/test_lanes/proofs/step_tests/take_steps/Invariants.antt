use Rattle.std.proofs.Common.{◌≡◌, ◌+◌, ◌^◌, false}
use Rattle.lane_turn.specs.Meaning.{turn_at, IsTurnOf}
use Rattle.lane_turn.specs.Sound.{IsGoing}
use Rattle.test_lanes.proofs.step_tests.take_steps.Given as goal

abbrev pub invariant-steps : goal.invariant-steps
invariant-steps g l = record {
  unspent : l.lane.spent ≡ false;
  own : IsTurnOf l.lane.lane l.turn;
  going : IsGoing l.script 0 (2 ^ 61 + 20001) (turn_at l.lane.lane l.turn l.tray);
}
