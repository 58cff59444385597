-- what is left tells
use Rattle.std.proofs.Common.{◌≡◌, drop}
use Rattle.script_check.specs.PlanFaults.{first_not_plain}
use Rattle.script_check.proofs.rule_check.first_not_plain.Given as goal

abbrev pub invariant-loop-n : goal.invariant-loop-n
invariant-loop-n l = first_not_plain l.n (drop l.n l.actions) ≡ first_not_plain 0 l.actions
