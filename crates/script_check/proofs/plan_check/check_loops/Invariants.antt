-- what was found, and what is left
use Rattle.std.proofs.Common.{◌≡◌, ◌++◌, drop, map}
use Rattle.script_check.specs.PlanFaults.{in_loops}
use Rattle.script_check.specs.Seen.{found_of}
use Rattle.script_check.proofs.plan_check.check_loops.Given as goal

abbrev pub invariant-loop-n : goal.invariant-loop-n
invariant-loop-n l = record {
  found : map found_of l.faults.items ++ in_loops l.counts l.n (drop l.n l.loops) ≡ map found_of l.initial.faults.items ++ in_loops l.counts 0 l.loops;
  back : l.place ≡ l.initial.place;
}
