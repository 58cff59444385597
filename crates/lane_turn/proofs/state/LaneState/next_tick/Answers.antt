use Rattle.std.proofs.Common.{◌≡◌, ◌≤◌, ◌+◌, ◌^◌, ap, sym, subst, arith, rules}
use Rattle.lane_turn.specs.Lane.{State, Lane}
use Rattle.lane_turn.specs.Meaning.{lane_of}
use Rattle.lane_turn.specs.Sound.{IsReady}
use Rattle.lane_watch.specs.Watch.{GivesNothing}
use Rattle.lane_turn.specs.declared.lane.Lane.{Lane as Fields}
use Rattle.lane_turn.specs.Quiet.{IsIdle, IsQuietUntil}
use Rattle.lane_turn.proofs.Quiet.{quiet_turn}
use Rattle.lane_turn.proofs.state.LaneState.next_tick.Goals as goal

pub returns-clause-quiet : goal.returns-clause-quiet
returns-clause-quiet c = λ unspent.
    let script = c.args.script.now in
    let lane : Lane = lane_of c.self.inside.lane.value in
    let is : lane ≡ c.args.self.now.lane = ap (λ (k : State). k.lane) c.self.view_is in
    let ready = subst (IsReady script (c.args.tick + 1) (2 ^ 61)) (sym is) (c.requires.ready unspent) in
    subst (IsQuietUntil script c.args.tick c.tick_of.result) is
    (λ k low high after.
    let tasks : c.deref.result.now ≡ c.self.inside.lane.value = search rules in
    let steps : c.deref-2.result.now ≡ c.self.inside.lane.value = search rules in
    let both = c.sooner_turn-wake.ensures k (c.tick_of.ensures.before k (omega (arith, low)) (omega (arith, high, c.ticks.ensures.ticks)) after) in
    quiet_turn script k lane
    (subst (λ (p : Fields). GivesNothing k (lane_of p).tasks) tasks (c.next_wake.ensures k (subst (λ (p : Fields). (lane_of p).tasks.tick ≤ k) (sym tasks) (omega (arith, low, ready.now))) both.0))
    (subst (λ (p : Fields). IsIdle script k (lane_of p)) steps (c.step_wake.ensures k (omega (arith, low)) both.1)))
