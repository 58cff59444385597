-- what was found, and what is left
use Rattle.std.proofs.Common.{◌≡◌, ◌++◌, drop}
use Rattle.json.specs.Value.{value_view}
use Rattle.named.specs.Faults.{field_lacks}
use Rattle.named.proofs.own.push_field_lacks.Given as goal

abbrev pub invariant-loop-field : goal.invariant-loop-field
invariant-loop-field l = l.causes.items ++ field_lacks (drop l.field-index l.fields) (value_view l.value) ≡ l.initial.causes.items ++ field_lacks l.fields (value_view l.value)
