use Rattle.std.proofs.Common.{ap, sym, ◌∙◌, subst}
use Rattle.std.specs.Borrow.{Bor}
use Rattle.std_collections.proofs.IterRuns.{shows_in_order}
use Rattle.source_rows.specs.declared.row.Row.{Row}
use Rattle.source_rows.specs.Rows.{RowSet, in_order}
use Rattle.source_rows.specs.Tree.{IsOneTree}
use Rattle.source_rows.specs.InOrder.{AllFound, ids_of, rows_of}
use Rattle.source_rows.proofs.Listed.{all_listed, listed}
use Rattle.source_rows.proofs.Walked.{all_seats}
use Rattle.source_rows.proofs.Post.{one_tree}
use Rattle.source_rows.proofs.rows.Rows.in_order.Goals as goal

pub walk-requires : goal.walk-requires
walk-requires c = c.self.invariant.apart

pub new-requires : goal.new-requires
new-requires c =
    let ids = ap ids_of c.walk.ensures ∙ all_seats c.self.inside.table in
    subst (AllFound c.self.inside.table) (sym ids) (all_listed c.self.inside.table c.self.invariant.rising)

pub returns-clause-rows : goal.returns-clause-rows
returns-clause-rows c =
    let ids = ap ids_of c.walk.ensures ∙ all_seats c.self.inside.table in
    c.new.ensures ∙ (ap (rows_of c.self.inside.table) ids ∙ (listed c.self.inside.table c.self.invariant.rising ∙ ap (λ (s : RowSet). in_order s.rows) c.self.view_is))

pub returns-clause-one_tree : goal.returns-clause-one_tree
returns-clause-one_tree c = subst (λ (s : RowSet). IsOneTree s.rows) c.self.view_is (one_tree c.self.inside.table c.self.invariant.forest)

pub returns-clause-runs : goal.returns-clause-runs
returns-clause-runs c = shows_in_order (λ (r : Bor Row). r.now)
