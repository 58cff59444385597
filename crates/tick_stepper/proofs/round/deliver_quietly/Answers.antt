use Rattle.std.proofs.Common.{◌≡◌, ◌+◌, ◌∙◌, sym, ap, subst, List, map, arith, take_at}
use Rattle.std.specs.Prelude.{IsPermutation}
use Rattle.std.specs.List.{AllByRecursion}
use Rattle.std.proofs.lemmas.List.Sorted.{IsPermutation-map, All-permutation}
use Rattle.lane_turn.specs.Lane.{State}
use Rattle.lane_turn.specs.Turn.{turned}
use Rattle.lane_turn.specs.Tick.{lanes_at}
use Rattle.tick_stepper.specs.declared.known.Known.{Known}
use Rattle.tick_stepper.specs.Known.{AreKnown}
use Rattle.tick_stepper.specs.Rest.{IsSettled}
use Rattle.tick_stepper.specs.Share.{unspent_all, IsReadyOne}
use Rattle.tick_stepper.proofs.Handed.{of_rec, rec_of}
use Rattle.tick_stepper.proofs.Resting.{order_seen, sorted_turns, settled_at}
use Rattle.tick_stepper.proofs.RestsOn.{Was, all_were, known_lanes, known_next}
use Rattle.tick_stepper.proofs.Rounds.{ready_next}
use Rattle.tick_stepper.proofs.round.deliver_quietly.Goals as goal

-- the lanes stand by number
turns : (c : goal.After-as_mut_slice) → map (λ (one : Known). one.lane) c.in_ok-by_lane.field-0.items ≡ unspent_all (map (turned c.args.script.now c.args.tick) (lanes_at c.args.script.now c.args.tick))
turns c =
    let script = c.args.script.now in
    let tick = c.args.tick in
    let all = c.in_ok-all.all.items in
    let sorted = c.in_ok-by_lane.field-0.items in
    let is = ap (map (λ (one : Known). one.lane)) c.in_ok-all.ensures ∙ known_lanes (tick + 1) c.args.letters.now c.args.done.items c.args.resting.items in
    let perm = subst (IsPermutation (unspent_all (map (turned script tick) (lanes_at script tick)))) (sym is) c.requires.lanes in
    sorted_turns script tick (map (λ (one : Known). one.lane) all) (map (λ (one : Known). one.lane) sorted) perm (IsPermutation-map (λ (one : Known). one.lane) all sorted c.in_ok-by_lane.ensures.same)
    (order_seen (λ (one : Known). one.lane) (λ (s : State). s.lane.number) sorted c.in_ok-by_lane.ensures.order)

pub hand_and_deliver-requires-clause-lanes : goal.hand_and_deliver-requires-clause-lanes
hand_and_deliver-requires-clause-lanes c = c.as_mut_slice.ensures.value ∙ (c.in_ok-lanes.ensures.lanes ∙ turns c)

pub settle-requires-clause-ready : goal.settle-requires-clause-ready
settle-requires-clause-ready c =
    let script = c.args.script.now in
    let tick = c.args.tick in
    let P : State → Type 0 = IsReadyOne script (tick + 1) in
    let all = take_at c.hand_and_deliver.new.lanes _ c.in_ok-lanes.lanes.len (omega (arith, c.hand_and_deliver.auto.lanes, c.as_mut_slice.ensures.len)) ∙ c.in_ok-hand_and_deliver.ensures in
    of_rec P _ (subst (AllByRecursion P) (sym all) (ready_next script tick c.requires.few c.requires.tick))

pub settle-requires-clause-known : goal.settle-requires-clause-known
settle-requires-clause-known c =
    let script = c.args.script.now in
    let tick = c.args.tick in
    let P : Known → Type 0 = Was script tick c.args.letters.now in
    let all = take_at c.hand_and_deliver.new.lanes _ c.in_ok-lanes.lanes.len (omega (arith, c.hand_and_deliver.auto.lanes, c.as_mut_slice.ensures.len)) ∙ c.in_ok-hand_and_deliver.ensures in
    let were : AllByRecursion P c.in_ok-all.all.items = subst (AllByRecursion P) (sym c.in_ok-all.ensures) (all_were script tick c.args.letters.now c.args.done.items c.args.resting.items c.requires.rest) in
    let sorted : AllByRecursion P c.in_ok-by_lane.field-0.items = rec_of P _ (All-permutation P c.in_ok-all.all.items _ c.in_ok-by_lane.ensures.same (of_rec P _ were)) in
    let known = known_next script tick c.args.letters.now c.in_ok-by_lane.field-0.items (sym c.requires.letters) c.requires.quiet (turns c.before.before.before.before.before.before) sorted in
    subst (λ (s : List State). AreKnown script tick s c.as_slice.result.now) (sym all)
    (subst (AreKnown script tick (unspent_all (lanes_at script (tick + 1)))) (sym (c.as_slice.ensures.value ∙ c.in_ok-lanes.ensures.rested)) known)

pub returns : goal.returns
returns c =
    let script = c.args.script.now in
    let tick = c.args.tick in
    let all = take_at c.hand_and_deliver.new.lanes _ c.in_ok-lanes.lanes.len (omega (arith, c.hand_and_deliver.auto.lanes, c.as_mut_slice.ensures.len)) ∙ c.in_ok-hand_and_deliver.ensures in
    settled_at script tick c.in_ok-settle.field-0.items c.requires.few c.requires.tick (subst (λ (l : List State). IsSettled script tick l c.in_ok-settle.field-0.items) all c.in_ok-settle.ensures)
