use Rattle.std.proofs.Common.{◌≡◌, ◌++◌, take}
use Rattle.std.specs.List.{flat_map}
use Rattle.tick_stepper.specs.Share.{turned_one, out_of_one}
use Rattle.tick_stepper.proofs.Along.{stepped_to}
use Rattle.tick_stepper.proofs.share.take_turns.Given as goal

abbrev pub invariant-loop-lane : goal.invariant-loop-lane
invariant-loop-lane g l = record {
  lanes : l.lanes ≡ stepped_to (turned_one l.script l.tick) l.lane-index l.fn.lanes;
  letters : l.tray ≡ l.fn.tray ++ flat_map (out_of_one l.script l.tick) (take l.lane-index l.fn.lanes);
}
