use Rattle.std.proofs.Common.{◌≡◌, ◌+◌, ◌∙◌, arith, get_or}
use Rattle.lane_turn.specs.Lane.{State}
use Rattle.lane_turn.specs.Deliver.{received_all}
use Rattle.tick_stepper.specs.Share.{stepped_one, unspent}
use Rattle.tick_stepper.proofs.Along.{one_more, stepped_all}
use Rattle.tick_stepper.proofs.Ready.{ready_here, kept_is}
use Rattle.tick_stepper.proofs.deliver.deliver_all.Goals as goal

pub deliver-requires-clause-ready : goal.deliver-requires-clause-ready
deliver-requires-clause-ready c _ =
    ready_here c.args.script.now (c.args.tick + 1) c.loop-lane.lane-index (stepped_one (received_all c.args.script.now c.args.tick c.args.letters.now)) c.args.lanes.now c.loop-lane.lanes c.lane-item.result c.requires.ready c.loop-lane.invariant (omega arith)

pub loop-lane-preserved : goal.loop-lane-preserved
loop-lane-preserved c =
    let step = received_all c.args.script.now c.args.tick c.args.letters.now in
    let d : State = c.lane-item.result in
    let it : State = get_or c.loop-lane.lanes c.loop-lane.lane-index d in
    let done = c.in_ok-deliver.ensures in
    let now : State = c.deliver.new.self in
    let took : now ≡ unspent (step it.lane) = kept_is now (step it.lane) done.delivered done.lasts in
    one_more (stepped_one step) c.loop-lane.lane-index c.args.lanes.now c.loop-lane.lanes d now c.loop-lane.invariant (omega arith) took

pub returns : goal.returns
returns c = c.loop-lane.invariant ∙ stepped_all (stepped_one (received_all c.args.script.now c.args.tick c.args.letters.now)) c.loop-lane.lane-index c.args.lanes.now (omega arith)
