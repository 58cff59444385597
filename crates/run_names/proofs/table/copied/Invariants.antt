-- those that are copied, and those that are left
use Rattle.std.proofs.Common.{◌≡◌, ◌++◌, drop}
use Rattle.named.specs.Views as views
use Rattle.run_names.specs.Called.{as_texts}
use Rattle.run_names.proofs.table.copied.Given as goal

abbrev pub invariant-loop-name : goal.invariant-loop-name
invariant-loop-name l = as_texts l.list.items ++ views.texts (drop l.name-index l.names) ≡ views.texts l.names
