-- the rows of the ids that are left have still to be moved
use Rattle.std.proofs.Common.{◌≡◌, drop, map}
use Rattle.source_rows.specs.InOrder.{rows_of}
use Rattle.source_rows.specs.Moves.{with_each, moved_row, NoneTwice}
use Rattle.source_rows.proofs.moves.move_rows.Given as goal

abbrev pub invariant-loop-id : goal.invariant-loop-id
invariant-loop-id l = record {
  apart : NoneTwice (drop l.id-index l.ids);
  same : with_each (map (moved_row l.root l.priority l.order) (rows_of l.table (drop l.id-index l.ids))) l.table ≡ with_each (map (moved_row l.root l.priority l.order) (rows_of l.initial.table l.ids)) l.initial.table;
}
