use Rattle.std.proofs.Common.{◌≡◌, [], true, List, ap, ◌∙◌, subst, sym}
use Rattle.std.proofs.lemmas.List.Elements.{All-filter}
use Rattle.std.specs.Prelude.{IsPermutation}
use Rattle.std.specs.List.{All}
use Rattle.lane_turn.specs.Lane.{State}
use Rattle.tick_stepper.specs.Share.{has_lanes, handed, HasTheirs}
use Rattle.tick_stepper.specs.declared.share.Share.{Share}
use Rattle.tick_stepper.proofs.Handed.{filtered_same, none_there, kept_have}
use Rattle.tick_stepper.proofs.deal.deal.Goals as goal

pub returns-clause-lanes : goal.returns-clause-lanes
returns-clause-lanes c =
    let same : handed c.leave_out_idle.new.shares.items ≡ handed c.in_ok-shares.shares.items =
    ap handed c.leave_out_idle.ensures ∙ filtered_same (λ (share : Share). share.lanes.items) has_lanes none_there c.in_ok-shares.shares.items in
    subst (λ (l : List State). IsPermutation c.args.lanes.items l) (sym same) c.in_ok-shares.ensures.lanes

pub returns-clause-trays : goal.returns-clause-trays
returns-clause-trays c =
    let P : Share → Type 0 = λ share. share.tray ≡ [] in
    subst (λ (l : List Share). All P l) (sym c.leave_out_idle.ensures) (All-filter has_lanes P c.in_ok-shares.shares.items c.in_ok-shares.ensures.trays)

pub returns-clause-busy : goal.returns-clause-busy
returns-clause-busy c = subst (λ (l : List Share). All (λ share. has_lanes share ≡ true) l) (sym c.leave_out_idle.ensures) (kept_have has_lanes c.in_ok-shares.shares.items)

pub returns-clause-theirs : goal.returns-clause-theirs
returns-clause-theirs c =
    let P : Share → Type 0 = HasTheirs c.args.crew.now c.args.lanes.items in
    subst (λ (l : List Share). All P l) (sym c.leave_out_idle.ensures) (All-filter has_lanes P c.in_ok-shares.shares.items c.in_ok-shares.ensures.theirs)
