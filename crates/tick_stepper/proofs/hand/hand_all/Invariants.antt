use Rattle.std.proofs.Common.{◌≡◌, drop}
use Rattle.lane_turn.specs.Handover.{handed_over}
use Rattle.tick_stepper.specs.Share.{lanes_in, AreLined}
use Rattle.tick_stepper.proofs.hand.hand_all.Given as goal

abbrev pub invariant-letters : goal.invariant-letters
invariant-letters l = record {
  same : handed_over l.tick (drop l.letter-index l.letters) (lanes_in l.lanes) ≡ handed_over l.tick l.letters (lanes_in l.fn.lanes);
  lined : AreLined l.lanes;
}
