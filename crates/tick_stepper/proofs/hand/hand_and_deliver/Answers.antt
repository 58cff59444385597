use Rattle.std.proofs.Common.{◌+◌, sym, subst, List, map}
use Rattle.std.specs.List.{AllByRecursion}
use Rattle.lane_turn.specs.Lane.{Lane, State}
use Rattle.lane_turn.specs.Turn.{turned}
use Rattle.lane_turn.specs.Tick.{lanes_at}
use Rattle.tick_stepper.specs.Share.{AreLined, IsReadyOne}
use Rattle.tick_stepper.proofs.Counted.{counted_turned}
use Rattle.tick_stepper.proofs.Lined.{lined}
use Rattle.tick_stepper.proofs.Rounds.{ready_over_at}
use Rattle.tick_stepper.proofs.Resting.{handed_at, delivered_at}
use Rattle.tick_stepper.proofs.hand.hand_and_deliver.Goals as goal

pub hand_all-requires : goal.hand_all-requires
hand_all-requires c =
    let turns : List Lane = map (turned c.args.script.now c.args.tick) (lanes_at c.args.script.now c.args.tick) in
    record { lined = subst AreLined (sym c.requires.lanes) (lined turns (counted_turned c.args.script.now c.args.tick)) }

pub deliver_all-requires-clause-ready : goal.deliver_all-requires-clause-ready
deliver_all-requires-clause-ready c =
    let went = handed_at c.args.script.now c.args.tick c.args.lanes.now c.hand_all.new.lanes c.args.letters.now c.requires.lanes c.requires.letters c.in_ok-hand_all.ensures in
    subst (λ (l : List State). AllByRecursion (IsReadyOne c.args.script.now (c.args.tick + 1)) l) (sym went) (ready_over_at c.args.script.now c.args.tick c.requires.few c.requires.tick)

pub returns : goal.returns
returns c =
    let went = handed_at c.args.script.now c.args.tick c.args.lanes.now c.hand_all.new.lanes c.args.letters.now c.requires.lanes c.requires.letters c.in_ok-hand_all.ensures in
    delivered_at c.args.script.now c.args.tick c.hand_all.new.lanes c.deliver_all.new.lanes c.args.letters.now went c.requires.letters c.in_ok-deliver_all.ensures
