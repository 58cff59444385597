-- what was found, and what is left
use Rattle.std.proofs.Common.{◌≡◌, ◌++◌, drop, map}
use Rattle.script_check.specs.PlanFaults.{in_fds}
use Rattle.script_check.specs.Seen.{found_of}
use Rattle.script_check.proofs.plan_check.check_fds.Given as goal

abbrev pub invariant-loop-n : goal.invariant-loop-n
invariant-loop-n l = map found_of l.faults.items ++ in_fds l.n (drop l.n l.fds) ≡ map found_of l.initial.faults.items ++ in_fds 0 l.fds
