use Rattle.std.proofs.Common.{◌≡◌, []}
use Rattle.std.specs.List.{find}
use Rattle.source_rows.specs.Rows.{in_order}
use Rattle.context_core.specs.Ready.{in_view, own_ready, is_callable}
use Rattle.context_core.specs.Phases.{shown}
use Rattle.context_core.proofs.context.Context.ready_priority.Given as goal

abbrev pub invariant-rows : goal.invariant-rows
invariant-rows l = find (own_ready (shown []) (in_view l.view) l.now) l.row-iterator ≡ find (is_callable (own_ready (shown []) (in_view l.view) l.now) l.fn.busy) (in_order l.self.rows.rows)
