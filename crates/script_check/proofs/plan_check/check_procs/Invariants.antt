-- what was found, and what is left
use Rattle.std.proofs.Common.{◌≡◌, ◌++◌, drop, map}
use Rattle.script_check.specs.PlanFaults.{in_procs}
use Rattle.script_check.specs.Seen.{found_of}
use Rattle.script_check.proofs.plan_check.check_procs.Given as goal

abbrev pub invariant-loop-n : goal.invariant-loop-n
invariant-loop-n l = map found_of l.faults.items ++ in_procs l.counts l.procs l.n (drop l.n l.some) ≡ map found_of l.initial.faults.items ++ in_procs l.counts l.procs 0 l.some
