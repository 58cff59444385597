use Rattle.std.proofs.Common.{◌≡◌, drop}
use Rattle.lane_turn.specs.Acted.{all_handled}
use Rattle.lane_turn.specs.Meaning.{lane_of}
use Rattle.lane_turn.proofs.lane.Lane.call_handlers.Given as goal

abbrev pub invariant-handlers : goal.invariant-handlers
invariant-handlers l = all_handled l.script l.tick (drop l.fired-index l.list) (lane_of l.self) ≡ all_handled l.script l.tick l.list (lane_of l.fn.self)
