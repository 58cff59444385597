use Rattle.std.proofs.Common.{◌≡◌, ℕ, ◌++◌, map, true}
use Rattle.std.specs.List.{find}
use Rattle.std.specs.Ordering.{nat_cmp}
use Rattle.std.specs.BTreeSet.{contains}
use Rattle.source_rows.specs.Rows.{in_order}
use Rattle.context_core.specs.Ready.{in_view, own_ready, is_ready}
use Rattle.context_core.specs.Phases.{shown}
use Rattle.context_core.specs.Standing.{first_ready, standing}
use Rattle.context_core.proofs.Lent.{Passed}
use Rattle.context_core.proofs.Standings.{else_later}
use Rattle.context_core.proofs.context.Context.all_standings.Given as goal

abbrev pub invariant-rows : goal.invariant-rows
invariant-rows l = record {
  passed : Passed (own_ready (shown l.polled) (in_view l.view) l.now) l.busy (λ _. true) l.self.rows.rows l.row-iterator (λ (id : ℕ). contains nat_cmp l.lent id);
  first : first_ready (own_ready (shown l.polled) (in_view l.view) l.now) l.busy l.self.rows.rows
      ≡ else_later l.first (find (is_ready (own_ready (shown l.polled) (in_view l.view) l.now) l.busy l.self.rows.rows) l.row-iterator);
  told : l.list.items ++ map (standing (shown l.polled) (in_view l.view) l.now l.busy l.self.rows.rows) l.row-iterator
      ≡ map (standing (shown l.polled) (in_view l.view) l.now l.busy l.self.rows.rows) (in_order l.self.rows.rows);
}
