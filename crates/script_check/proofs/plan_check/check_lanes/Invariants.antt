-- what was found, and what is left
use Rattle.std.proofs.Common.{◌≡◌, ◌++◌, drop, map}
use Rattle.script_check.specs.PlanFaults.{in_lanes}
use Rattle.script_check.specs.Seen.{found_of}
use Rattle.script_check.proofs.plan_check.check_lanes.Given as goal

abbrev pub invariant-loop-n : goal.invariant-loop-n
invariant-loop-n l = map found_of l.faults.items ++ in_lanes l.counts l.procs l.n (drop l.n l.lanes) ≡ map found_of l.initial.faults.items ++ in_lanes l.counts l.procs 0 l.lanes
