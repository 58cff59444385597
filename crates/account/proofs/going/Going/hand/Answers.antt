use Rattle.std.proofs.lemmas.Grind.{common_steps}
use Rattle.std.proofs.Common.{◌≡◌, ◌+◌, List, length, is_some, ap, sym, ◌∙◌, subst, arith, take_at}
use Rattle.std.specs.Vec.{with_items}
use Rattle.lane_turn.specs.Lane.{State}
use Rattle.post_office.specs.declared.letter.Body.TheVariants as mails
use Rattle.lane_turn.specs.Handover.{handing_by}
use Rattle.account.specs.declared.going.Going.{Going}
use Rattle.account.specs.declared.going.Phase.TheVariants as phases
use Rattle.account.specs.declared.moment.Deed.TheVariants as deeds
use Rattle.account.specs.Gifts.{gift_of}
use Rattle.account.specs.Standing.{place_of}
use Rattle.tick_stepper.specs.Share.{lanes_in as lanes_of}
use Rattle.account.specs.Told.{trace_at, IsMoment}
use Rattle.account.proofs.Quiet.{hand_moment}
use Rattle.account.proofs.Goings.{handed_place, handed_lanes, handed_unspent}
use Rattle.account.proofs.Within.{stand_from}
use Rattle.tick_stepper.proofs.Lined.{counted_in}
use Rattle.account.proofs.going.Going.hand.Goals as goal

pub returns-then-not-branch-clause-moved : goal.returns-then-not-branch-clause-moved
returns-then-not-branch-clause-moved c script =
    let g = c.args.self.now in
    let states = c.move_context.new.lanes in
    let same = take_at states _ g.lanes.len (omega (arith, c.move_context.auto.lanes, c.as_mut_slice.ensures.len)) in
    handed_place script c.args.tick c.args.place g c.as_mut_slice.result.now states _ c.index.result.now c.in-Some.gift c.requires.phase c.requires.place c.as_mut_slice.ensures.value c.in_ok-move_context.ensures.gone
    (ap gift_of (sym c.index.ensures) ∙ sym c.in-Some.ensures) same

pub returns-then-not-branch-clause-unspent : goal.returns-then-not-branch-clause-unspent
returns-then-not-branch-clause-unspent c =
    let states = c.move_context.new.lanes in
    handed_unspent _ states _ c.in_ok-move_context.ensures.gone (take_at states _ c.args.self.now.lanes.len (omega (arith, c.move_context.auto.lanes, c.as_mut_slice.ensures.len)))

pub returns-clause-moved : goal.returns-clause-moved
returns-clause-moved c script =
    let g = c.args.self.now in
    let states = c.move_context.new.lanes in
    let same = take_at states _ g.lanes.len (omega (arith, c.move_context.auto.lanes, c.as_mut_slice.ensures.len)) in
    handed_place script c.args.tick c.args.place g c.as_mut_slice.result.now states _ c.index.result.now c.in-Some.gift c.requires.phase c.requires.place c.as_mut_slice.ensures.value c.in_ok-move_context.ensures.gone
    (ap gift_of (sym c.index.ensures) ∙ sym c.in-Some.ensures) same

pub returns-clause-unspent : goal.returns-clause-unspent
returns-clause-unspent c =
    let states = c.move_context.new.lanes in
    handed_unspent _ states _ c.in_ok-move_context.ensures.gone (take_at states _ c.args.self.now.lanes.len (omega (arith, c.move_context.auto.lanes, c.as_mut_slice.ensures.len)))

pub returns-clause-moment : goal.returns-clause-moment
returns-clause-moment c script =
    let tick = c.args.tick in
    let k = c.args.place in
    let g : Going = c.args.self.now in
    let states = c.move_context.new.lanes in
    let h : Going = record { lanes = with_items g.lanes states; letters = g.letters; phase = phases.Giving (k + 1); begun = g.begun } in
    let was = c.as_mut_slice.ensures.value in
    let same : h.lanes.items ≡ states = take_at states _ g.lanes.len (omega (arith, c.move_context.auto.lanes, c.as_mut_slice.ensures.len)) in
    let one = c.index.result.now in
    let gift = c.in-Some.gift in
    let gives = ap gift_of (sym c.index.ensures) ∙ sym c.in-Some.ensures in
    let goes = handed_place script tick k g c.as_mut_slice.result.now states h.lanes.items one gift c.requires.phase c.requires.place was c.in_ok-move_context.ensures.gone gives same in
    let there = handed_lanes tick k g c.as_mut_slice.result.now states h.lanes.items one gift was c.in_ok-move_context.ensures.gone gives same in
    let went = sym (c.in_ok-move_context.ensures.went ∙ ap (λ (ss : List State). is_some (handing_by gift.from (mails.Give gift.context gift.to) (lanes_of ss))) was) ∙ c.if-not-branch.false in
    let found = c.moment.ensures ∙ (λ j. record { tick = tick; lane = gift.to; deed = deeds.HandedOver gift.context gift.from; from = c.lines_of-from.ensures j; to = length (trace_at gift.to (lanes_of h.lanes.items)) }) in
    subst (IsMoment script tick (place_of g) (place_of h)) (sym found) (hand_moment script tick k g h one gift c.requires.phase c.requires.place gives went goes there (stand_from 0 (lanes_of g.lanes.items) (counted_in g.lanes.items c.requires.lined)))

pub returns-in_default-clause-moved : goal.returns-in_default-clause-moved
returns-in_default-clause-moved c = grind (arith, common_steps)

pub returns-in_default-clause-quiet : goal.returns-in_default-clause-quiet
returns-in_default-clause-quiet c = grind (arith, common_steps)

pub returns-then-not-branch-clause-count : goal.returns-then-not-branch-clause-count
returns-then-not-branch-clause-count c = grind (arith, common_steps)

pub returns-then-not-branch-clause-quiet : goal.returns-then-not-branch-clause-quiet
returns-then-not-branch-clause-quiet c = grind (arith, common_steps)

pub returns-then-not-branch-clause-still : goal.returns-then-not-branch-clause-still
returns-then-not-branch-clause-still c = grind (arith, common_steps)

pub returns-clause-count : goal.returns-clause-count
returns-clause-count c = grind (arith, common_steps)
