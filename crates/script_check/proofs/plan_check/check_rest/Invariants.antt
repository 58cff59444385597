-- what was found, and what is left
use Rattle.std.proofs.Common.{◌≡◌, ◌++◌, ◌+◌, drop, map}
use Rattle.script_check.specs.PlanFaults.{not_above}
use Rattle.script_check.specs.Seen.{found_of}
use Rattle.script_check.proofs.plan_check.check_rest.Given as goal

abbrev pub invariant-loop-level : goal.invariant-loop-level
invariant-loop-level l = record {
  found : map found_of l.faults.items ++ not_above l.initial.place l.before (l.n + 1) (drop l.level-index l.levels) ≡ map found_of l.initial.faults.items ++ not_above l.initial.place l.first 1 l.levels;
  back : l.place ≡ l.initial.place;
  place : l.n ≡ l.level-index;
}
