use Rattle.std.proofs.Common.{◌+◌, ◌*◌, ◌^◌, ◌≤◌, length, arith, rules}
use Rattle.lane_turn.proofs.Delivered.{ready_weaker}
use Rattle.test_lanes.proofs.lane_tests.take_reply.Goals as goal

pub turn-requires-clause-ready : goal.turn-requires-clause-ready
turn-requires-clause-ready c = λ _. ready_weaker _ 0 1 (2 ^ 61) _ (omega arith) c.requires.ready

pub deliver-requires-clause-ready : goal.deliver-requires-clause-ready
deliver-requires-clause-ready c = λ _. ready_weaker _ 1 20002 (2 ^ 61) _ (omega arith) (c.in_ok-turn.ensures.ready 1 c.requires.ready)

pub turn-requires-2-clause-ready : goal.turn-requires-2-clause-ready
turn-requires-2-clause-ready c = λ _. ready_weaker _ 1 20002 (2 ^ 61) _ (omega arith) (c.in_ok-deliver.ensures.ready 20002 (c.in_ok-turn.ensures.ready 1 c.requires.ready))

pub deliver-requires-2-clause-ready : goal.deliver-requires-2-clause-ready
deliver-requires-2-clause-ready c = λ _. ready_weaker _ 2 40003 (2 ^ 61) _ (omega arith) (c.in_ok-turn-2.ensures.ready 20002 (c.in_ok-deliver.ensures.ready 20002 (c.in_ok-turn.ensures.ready 1 c.requires.ready)))

pub turn-requires-3-clause-ready : goal.turn-requires-3-clause-ready
turn-requires-3-clause-ready c =
    let few : length c.deref.result.now ≤ 100 = search rules in
    let before = c.in_ok-turn-2.ensures.ready 20002 (c.in_ok-deliver.ensures.ready 20002 (c.in_ok-turn.ensures.ready 1 c.requires.ready)) in
    λ _. ready_weaker _ 2 (40003 + 2 * length c.deref.result.now) (2 ^ 61) _ (omega (arith, few)) (c.in_ok-deliver-2.ensures.ready 40003 before)
