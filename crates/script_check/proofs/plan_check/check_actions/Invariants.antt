-- what was found, and what is left
use Rattle.std.proofs.Common.{◌≡◌, ◌++◌, drop, map}
use Rattle.script_check.specs.PlanFaults.{in_actions}
use Rattle.script_check.specs.Seen.{found_of}
use Rattle.script_check.proofs.plan_check.check_actions.Given as goal

abbrev pub invariant-loop-n : goal.invariant-loop-n
invariant-loop-n l = record {
  found : map found_of l.faults.items ++ in_actions l.counts l.procs l.initial.place l.n (drop l.n l.actions) ≡ map found_of l.initial.faults.items ++ in_actions l.counts l.procs l.initial.place 0 l.actions;
  back : l.place ≡ l.initial.place;
}
