use Rattle.std.proofs.Common.{◌≡◌, ◌∷◌, filter, length}
use Rattle.context_core.specs.Ready.{is_free}
use Rattle.context_core.proofs.free.FreeRowsIterator.next.Given as goal

abbrev pub invariant-loop-id : goal.invariant-loop-id
invariant-loop-id l = record {
  busy : l.self-inside.busy ≡ l.initial.self-inside.busy;
  rows : filter (is_free l.self-inside.busy.now) (l.row ∷ l.self-inside.rows) ≡ filter (is_free l.initial.self-inside.busy.now) (l.initial.row ∷ l.initial.self-inside.rows);
}

abbrev pub decreases-loop-id : goal.decreases-loop-id
decreases-loop-id l = length l.self-inside.rows
