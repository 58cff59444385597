use Rattle.std.proofs.Common.{◌^◌, arith}
use Rattle.lane_turn.proofs.Delivered.{ready_weaker}
use Rattle.test_lanes.proofs.lane_tests.two_turns.Goals as goal

pub turn-requires-clause-ready : goal.turn-requires-clause-ready
turn-requires-clause-ready c = λ _. ready_weaker _ 0 1 (2 ^ 61) _ (omega arith) c.requires.ready

pub turn-requires-2-clause-ready : goal.turn-requires-2-clause-ready
turn-requires-2-clause-ready c = λ _. ready_weaker _ 1 20002 (2 ^ 61) _ (omega arith) (c.in_ok-turn.ensures.ready 1 c.requires.ready)
