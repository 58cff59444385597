use Rattle.std.proofs.Common.{◌≡◌, pos, filter}
use Rattle.std.specs.Prelude.{int_lt, IfSome, IsTrue}
use Rattle.source_rows.specs.Rows.{in_order, next_ready}
use Rattle.context_core.specs.Ready.{is_free}
use Rattle.context_core.proofs.Wait.{joined}
use Rattle.context_core.proofs.context.Context.wait.Given as goal

abbrev pub invariant-rows : goal.invariant-rows
invariant-rows l = record {
  same : joined l.least (next_ready l.now (filter (is_free l.busy) l.row-iterator)) ≡ next_ready l.now (filter (is_free l.busy) (in_order l.self.rows.rows));
  later : IfSome l.least (λ t. IsTrue (int_lt (pos l.now) t));
}
