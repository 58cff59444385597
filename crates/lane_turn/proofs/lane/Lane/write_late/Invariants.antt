use Rattle.std.proofs.Common.{◌≡◌, ◌++◌, drop, map}
use Rattle.lane_turn.specs.Step.{late_line}
use Rattle.lane_turn.specs.Meaning.{lane_of}
use Rattle.lane_turn.proofs.lane.Lane.write_late.Given as goal

abbrev pub invariant-numbers : goal.invariant-numbers
invariant-numbers l =
    record (lane_of l.self) { trace = (lane_of l.self).trace ++ map (late_line l.tick (lane_of l.self).number) (drop l.number-index l.numbers) }
    ≡ record (lane_of l.fn.self) { trace = (lane_of l.fn.self).trace ++ map (late_line l.tick (lane_of l.fn.self).number) l.numbers }
