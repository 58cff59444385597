use Rattle.std.proofs.Common.{◌≡◌, ℕ, ◌++◌}
use Rattle.std.specs.Ordering.{nat_cmp}
use Rattle.std.specs.BTreeSet.{contains}
use Rattle.source_rows.specs.Rows.{in_order}
use Rattle.source_rows.specs.declared.sight.Sight.{Sight}
use Rattle.context_core.specs.Ready.{in_view, own_ready, is_ready}
use Rattle.context_core.specs.Phases.{shown, walk}
use Rattle.context_core.proofs.Candidates.{Sees}
use Rattle.context_core.proofs.Unblocked.{AllFree, free_may}
use Rattle.context_core.proofs.Lent.{Passed}
use Rattle.context_core.proofs.context.Context.walk.Given as goal

abbrev pub invariant-rows : goal.invariant-rows
invariant-rows l = record {
  sight : Sight;
  sees : Sees (shown l.polled) (in_view l.view) l.now sight;
  passed : Passed (own_ready (shown l.polled) (in_view l.view) l.now) l.fn.busy (free_may sight l.fn.busy l.self.rows.rows) l.self.rows.rows l.row-iterator (λ (id : ℕ). contains nat_cmp l.lent id);
  free : AllFree l.fn.busy l.row-iterator;
  ids : l.ids.items ++ walk (is_ready (own_ready (shown l.polled) (in_view l.view) l.now) l.fn.busy l.self.rows.rows) l.bound l.row-iterator
      ≡ walk (is_ready (own_ready (shown l.polled) (in_view l.view) l.now) l.fn.busy l.self.rows.rows) l.fn.least (in_order l.self.rows.rows);
}
