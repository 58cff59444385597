-- what was found, and what is left
use Rattle.std.proofs.Common.{◌≡◌, ◌++◌, drop}
use Rattle.json.specs.Value.{value_view}
use Rattle.named.specs.Faults.{twice}
use Rattle.named.specs.Views.{names_of}
use Rattle.named.proofs.own.push_twice_of.Given as goal

abbrev pub invariant-loop-kind : goal.invariant-loop-kind
invariant-loop-kind l = l.causes.items ++ twice (drop l.kind-index l.kinds) (names_of l.names) (value_view l.script) ≡ l.initial.causes.items ++ twice l.kinds (names_of l.names) (value_view l.script)
