-- what was found, and what is left
use Rattle.std.proofs.Common.{◌≡◌, ◌++◌, drop}
use Rattle.json.specs.Value.{members_view}
use Rattle.named.specs.Faults.{other_keys}
use Rattle.named.proofs.own.push_other_keys.Given as goal

abbrev pub invariant-loop-n : goal.invariant-loop-n
invariant-loop-n l = l.causes.items ++ other_keys l.allowed l.n (members_view (drop l.n l.members)) ≡ l.initial.causes.items ++ other_keys l.allowed 0 (members_view l.members)
