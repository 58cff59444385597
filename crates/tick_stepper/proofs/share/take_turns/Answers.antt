use Rattle.std.proofs.Common.{◌≡◌, ◌∙◌, arith, get_or}
use Rattle.lane_turn.specs.Lane.{State}
use Rattle.lane_turn.specs.Turn.{turned}
use Rattle.tick_stepper.specs.Share.{turned_one, out_of_one, unspent}
use Rattle.tick_stepper.proofs.Along.{one_is, one_more, stepped_all, gives_on}
use Rattle.tick_stepper.proofs.Ready.{ready_here, kept_is}
use Rattle.tick_stepper.proofs.share.take_turns.Goals as goal

pub turn-requires-clause-ready : goal.turn-requires-clause-ready
turn-requires-clause-ready g c _ =
    ready_here c.args.script.now c.args.tick c.loop-lane.lane-index (turned_one c.args.script.now c.args.tick) c.args.lanes.now c.loop-lane.lanes c.lane-item.result c.requires.ready c.loop-lane.invariant.lanes (omega arith)

pub loop-lane-preserved : goal.loop-lane-preserved
loop-lane-preserved g c =
    let script = c.args.script.now in
    let tick = c.args.tick in
    let i = c.loop-lane.lane-index in
    let old = c.args.lanes.now in
    let d : State = c.lane-item.result in
    let it : State = get_or c.loop-lane.lanes i d in
    let done = c.in_ok-turn.ensures in
    let now : State = c.turn.new.state in
    let is = one_is (turned_one script tick) i old c.loop-lane.lanes d c.loop-lane.invariant.lanes (omega arith) in
    let took : now ≡ unspent (turned script tick it.lane) = kept_is now (turned script tick it.lane) done.turned done.lasts in
    record {
      lanes = one_more (turned_one script tick) i old c.loop-lane.lanes d now c.loop-lane.invariant.lanes (omega arith) took;
      letters = gives_on (out_of_one script tick) i old d it c.args.tray.now c.loop-lane.tray c.turn.new.post (omega arith) is c.loop-lane.invariant.letters done.letters;
    }

pub returns-clause-turned : goal.returns-clause-turned
returns-clause-turned g c =
    c.loop-lane.invariant.lanes ∙ stepped_all (turned_one c.args.script.now c.args.tick) c.loop-lane.lane-index c.args.lanes.now (omega arith)
