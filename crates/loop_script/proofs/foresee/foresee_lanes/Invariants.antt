use Rattle.std.proofs.Common.{◌≡◌}
use Rattle.loop_script.proofs.foresee.foresee_lanes.Given as goal

abbrev pub invariant-loop-lane : goal.invariant-loop-lane
invariant-loop-lane l = l.lane-items ≡ l.initial.lane-items
