use Rattle.std.proofs.Common.{◌+◌, ◌∙◌, sym, subst, List, map, arith, take_at}
use Rattle.std.specs.Prelude.{IsPermutation}
use Rattle.std.specs.List.{AllByRecursion}
use Rattle.lane_turn.specs.Lane.{State}
use Rattle.lane_turn.specs.Turn.{turned}
use Rattle.lane_turn.specs.Tick.{lanes_at}
use Rattle.tick_stepper.specs.Share.{unspent_all, IsReadyOne}
use Rattle.tick_stepper.specs.Rest.{IsSettled}
use Rattle.tick_stepper.proofs.Handed.{of_rec}
use Rattle.tick_stepper.proofs.Rounds.{ready_next}
use Rattle.tick_stepper.proofs.RestsOn.{none_known}
use Rattle.tick_stepper.proofs.Resting.{sorted_turns, settled_at}
use Rattle.tick_stepper.proofs.round.deliver_to_all.Goals as goal

pub hand_and_deliver-requires-clause-lanes : goal.hand_and_deliver-requires-clause-lanes
hand_and_deliver-requires-clause-lanes c =
    let script = c.args.script.now in
    let turns = unspent_all (map (turned script c.args.tick) (lanes_at script c.args.tick)) in
    let sorted = sorted_turns script c.args.tick c.in_ok-lanes.lanes.items c.in_ok-lanes-2.lanes.items (subst (IsPermutation turns) (sym c.in_ok-lanes.ensures) c.requires.lanes) c.in_ok-lanes-2.ensures.same c.in_ok-lanes-2.ensures.order in
    c.as_mut_slice.ensures.value ∙ sorted

pub settle-requires-clause-ready : goal.settle-requires-clause-ready
settle-requires-clause-ready c =
    let script = c.args.script.now in
    let tick = c.args.tick in
    let P : State → Type 0 = IsReadyOne script (tick + 1) in
    let all = take_at c.hand_and_deliver.new.lanes _ c.in_ok-lanes-2.lanes.len (omega (arith, c.hand_and_deliver.auto.lanes, c.as_mut_slice.ensures.len)) ∙ c.in_ok-hand_and_deliver.ensures in
    of_rec P _ (subst (AllByRecursion P) (sym all) (ready_next script tick c.requires.few c.requires.tick))

pub settle-requires-clause-known : goal.settle-requires-clause-known
settle-requires-clause-known c = none_known c.args.script.now c.args.tick _

pub returns : goal.returns
returns c =
    let script = c.args.script.now in
    let tick = c.args.tick in
    let all = take_at c.hand_and_deliver.new.lanes _ c.in_ok-lanes-2.lanes.len (omega (arith, c.hand_and_deliver.auto.lanes, c.as_mut_slice.ensures.len)) ∙ c.in_ok-hand_and_deliver.ensures in
    settled_at script tick c.in_ok-settle.field-0.items c.requires.few c.requires.tick (subst (λ (l : List State). IsSettled script tick l c.in_ok-settle.field-0.items) all c.in_ok-settle.ensures)
