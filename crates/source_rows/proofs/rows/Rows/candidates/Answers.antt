use Rattle.std.proofs.Common.{subst}
use Rattle.std.specs.Borrow.{Bor}
use Rattle.std_collections.proofs.IterRuns.{shows_in_order}
use Rattle.source_rows.specs.declared.row.Row.{Row}
use Rattle.source_rows.specs.Rows.{RowSet}
use Rattle.source_rows.specs.Tree.{IsOneTree}
use Rattle.source_rows.proofs.Post.{one_tree}
use Rattle.source_rows.proofs.rows.Rows.candidates.Goals as goal

pub returns-clause-one_tree : goal.returns-clause-one_tree
returns-clause-one_tree c = subst (λ (s : RowSet). IsOneTree s.rows) c.self.view_is (one_tree c.self.inside.table c.self.invariant.forest)

pub returns-clause-runs : goal.returns-clause-runs
returns-clause-runs c = shows_in_order (λ (r : Bor Row). r.now)
