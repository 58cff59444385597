-- what was found, and what is left
use Rattle.std.proofs.Common.{◌≡◌, ◌++◌, drop}
use Rattle.json.specs.Value.{value_view}
use Rattle.named.specs.Faults.{lacks}
use Rattle.named.proofs.own.push_lacks.Given as goal

abbrev pub invariant-loop-part : goal.invariant-loop-part
invariant-loop-part l = l.causes.items ++ lacks (drop l.part-index l.parts) (value_view l.value) ≡ l.initial.causes.items ++ lacks l.parts (value_view l.value)
