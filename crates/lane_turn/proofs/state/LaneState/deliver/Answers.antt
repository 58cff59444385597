use Rattle.std.proofs.Common.{◌≡◌, ◌+◌, ◌*◌, ◌∙◌, sym, ap, subst, length, rules}
use Rattle.lane_turn.specs.Lane.{State}
use Rattle.lane_turn.specs.Meaning.{lane_of}
use Rattle.lane_turn.specs.Sound.{IsReady}
use Rattle.lane_turn.proofs.Delivered.{ready-received_all}
use Rattle.lane_turn.proofs.state.LaneState.deliver.Goals as goal

pub returns-in-Ok-clause-ready : goal.returns-in-Ok-clause-ready
returns-in-Ok-clause-ready c m r =
    let script = c.args.script.now in
    let next = c.args.tick + 1 in
    let same : c.deref_mut.result.now ≡ c.self.inside.lane.value = search rules in
    subst (IsReady script next (m + 2 * length c.args.letters.now)) (sym c.in-Ok.ensures.delivered)
    (ready-received_all script c.args.tick next m c.args.letters.now (lane_of c.deref_mut.result.now) (subst (IsReady script next m) (sym (ap lane_of same ∙ ap (λ (k : State). k.lane) c.self.view_is)) r))
