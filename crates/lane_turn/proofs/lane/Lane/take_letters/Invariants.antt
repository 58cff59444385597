use Rattle.std.proofs.Common.{◌≡◌, ◌+◌, ◌*◌, ◌^◌, drop}
use Rattle.lane_turn.specs.Deliver.{received_all}
use Rattle.lane_turn.specs.Sound.{IsReady}
use Rattle.lane_turn.specs.Meaning.{lane_of}
use Rattle.lane_turn.proofs.lane.Lane.take_letters.Given as goal

abbrev pub invariant-letters : goal.invariant-letters
invariant-letters l = record {
  same : received_all l.script l.tick (drop l.letter-index l.letters) (lane_of l.self) ≡ received_all l.script l.tick l.letters (lane_of l.fn.self);
  ready : IsReady l.script (l.tick + 1) (2 ^ 61 + 2 * l.letter-index) (lane_of l.self);
}
