use Rattle.std.proofs.Common.{◌≡◌, ◌++◌}
use Rattle.bench_rows.proofs.orders.ids_in_order.Given as goal

abbrev pub invariant-loop-id : goal.invariant-loop-id
invariant-loop-id l = l.ids.items ++ l.id-iterator ≡ l.initial.id-iterator
