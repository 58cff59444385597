use Rattle.std.proofs.Common.{◌≡◌}
use Rattle.lane_turn.specs.Deliver.{received_all}
use Rattle.tick_stepper.specs.Share.{stepped_one}
use Rattle.tick_stepper.proofs.Along.{stepped_to}
use Rattle.tick_stepper.proofs.deliver.deliver_all.Given as goal

abbrev pub invariant-loop-lane : goal.invariant-loop-lane
invariant-loop-lane l = l.lanes ≡ stepped_to (stepped_one (received_all l.script l.tick l.letters)) l.lane-index l.fn.lanes
