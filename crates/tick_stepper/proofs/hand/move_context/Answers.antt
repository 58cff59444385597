use Rattle.std.proofs.Common.{◌≡◌, ap, sym, ◌∙◌, subst, List, map, is_some}
use Rattle.lane_turn.specs.Lane.{Lane}
use Rattle.lane_turn.specs.Handover.{left_by, taken_over, handing, moved}
use Rattle.tick_stepper.specs.Share.{unspent_all, lanes_in, at_number, AreLined}
use Rattle.tick_stepper.proofs.Lined.{counted_left, over_none, over_some, lanes_unspent, lined, counted_in}
use Rattle.tick_stepper.proofs.hand.move_context.Goals as goal

pub take_over-requires : goal.take_over-requires
take_over-requires c =
    let lanes : List Lane = lanes_in c.args.lanes.now in
    let left : List Lane = map (at_number c.args.sender (left_by c.args.context)) lanes in
    record { lined = subst AreLined (sym c.in_ok-hand_over.ensures.left) (lined left (counted_left c.args.sender c.args.context lanes (counted_in c.args.lanes.now c.requires.lined))) }

pub returns-in-None-clause-gone : goal.returns-in-None-clause-gone
returns-in-None-clause-gone c =
    let lanes : List Lane = lanes_in c.args.lanes.now in
    let none = sym c.in_ok-hand_over.ensures.held ∙ c.in-None.is in
    c.in_ok-hand_over.ensures.left
    ∙ ap unspent_all (over_none c.args.sender c.args.context lanes (counted_in c.args.lanes.now c.requires.lined) none
    ∙ ap (λ o. moved c.args.tick (handing c.args.sender c.args.to o) lanes) (sym none))

pub returns-in_ok-take_over-in-Some-clause-gone : goal.returns-in_ok-take_over-in-Some-clause-gone
returns-in_ok-take_over-in-Some-clause-gone c =
    let lanes : List Lane = lanes_in c.args.lanes.now in
    let left : List Lane = map (at_number c.args.sender (left_by c.args.context)) lanes in
    let some = sym c.in_ok-hand_over.ensures.held ∙ c.in-Some.is in
    let same : lanes_in c.hand_over.new.lanes ≡ left = ap lanes_in c.in_ok-hand_over.ensures.left ∙ lanes_unspent left in
    let goes =
    ap unspent_all (ap (map (at_number c.args.to (taken_over c.args.tick c.in-Some.held))) same
    ∙ (over_some c.args.tick c.args.sender c.args.context c.args.to lanes c.in-Some.held (counted_in c.args.lanes.now c.requires.lined) some
    ∙ ap (λ o. moved c.args.tick (handing c.args.sender c.args.to o) lanes) (sym some))) in
    c.in_ok-take_over-in-Some.ensures ∙ goes

pub returns-in-None-clause-went : goal.returns-in-None-clause-went
returns-in-None-clause-went c =
    let none = sym c.in_ok-hand_over.ensures.held ∙ c.in-None.is in
    ap (λ o. is_some (handing c.args.sender c.args.to o)) (sym none)

pub returns-in_ok-take_over-in-Some-clause-went : goal.returns-in_ok-take_over-in-Some-clause-went
returns-in_ok-take_over-in-Some-clause-went c =
    let some = sym c.in_ok-hand_over.ensures.held ∙ c.in-Some.is in
    ap (λ o. is_some (handing c.args.sender c.args.to o)) (sym some)
