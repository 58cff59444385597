use Rattle.std.proofs.Common.{ap, sym, ◌∙◌, List}
use Rattle.std.specs.Prelude.{slice_get, option_map}
use Rattle.lane_turn.specs.Lane.{Lane, State}
use Rattle.tick_stepper.specs.Account.{lanes_in}
use Rattle.account.specs.Course.{Course}
use Rattle.account.proofs.Goings.{got, got_by, lent_unspent, lanes_in_place}
use Rattle.account.proofs.account.Account.lane.Goals as goal

pub returns-clause-lane : goal.returns-clause-lane
returns-clause-lane c _ =
    let s = c.self.inside in
    let n = c.args.number in
    ap (option_map (λ (k : State). k.lane)) (got_by c.deref.result.now _ c.get.result c.get.ensures.lookup.0 c.get.ensures.lookup.1 ∙ ap (λ (ss : List State). slice_get ss n) c.deref.ensures.value)
    ∙ (got (λ (k : State). k.lane) s.going.lanes.items n
    ∙ (ap (λ (ls : List Lane). slice_get ls n) (sym (lanes_in_place s.going)) ∙ ap (λ (v : Course). slice_get (lanes_in v.place) n) c.self.view_is))

pub returns-clause-unspent : goal.returns-clause-unspent
returns-clause-unspent c u =
    let s = c.self.inside in
    let is = ap (λ (v : Course). v.spent) c.self.view_is ∙ u in
    lent_unspent s.going.lanes.items c.args.number c.get.result (c.self.invariant.2 is).stands.unspent (got_by c.deref.result.now _ c.get.result c.get.ensures.lookup.0 c.get.ensures.lookup.1 ∙ ap (λ (ss : List State). slice_get ss c.args.number) c.deref.ensures.value)
