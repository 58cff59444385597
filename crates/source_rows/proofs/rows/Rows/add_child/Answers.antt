use Rattle.std.proofs.Common.{ℕ, refl, ◌≡◌, ◌<◌, ◌≤◌, Some, ap, sym, subst, ◌∙◌, arith}
use Rattle.source_rows.specs.Rows.{RowSet, row_of, level_count}
use Rattle.source_rows.specs.Row.{no_number, child_row}
use Rattle.source_rows.specs.declared.row.Row.{Row}
use Rattle.source_rows.specs.New.{IsNew}
use Rattle.source_rows.specs.Kept.{IsBelow}
use Rattle.source_rows.proofs.Forest.{found}
use Rattle.source_rows.proofs.Kept.{child_new, found_id}
use Rattle.source_rows.proofs.rows.Rows.add_child.Goals as goal

pub make_child-row-requires-clause-level : goal.make_child-row-requires-clause-level
make_child-row-requires-clause-level c =
    let inside = c.self.inside in
    let is : row_of c.args.parent inside.table ≡ Some c.in-Some.above = ap (λ (s : RowSet). row_of c.args.parent s.rows) c.self.view_is ∙ (sym c.row.ensures ∙ c.in-Some.is) in
    let within = found (λ r. r.level ≤ level_count inside.levels) c.args.parent c.in-Some.above inside.table c.self.invariant.within is in
    let few = c.self.invariant.few in
    let differ = c.if-above-count.false in
    omega arith

pub add-requires-clause-new : goal.add-requires-clause-new
add-requires-clause-new c =
    let inside = c.self.inside in
    let is : row_of c.args.parent inside.table ≡ Some c.in-Some.above = ap (λ (s : RowSet). row_of c.args.parent s.rows) c.self.view_is ∙ (sym c.row.ensures ∙ c.in-Some.is) in
    let below = found (λ r. IsBelow inside.next_order r.path) c.args.parent c.in-Some.above inside.table c.self.invariant.below is in
    let small : inside.next_order < no_number = omega (arith, ap (λ (s : RowSet). s.next_order) c.self.view_is) in
    let row : Row = child_row c.in-Some.above c.args.spec c.args.now inside.next_id inside.next_order in
    rw c.make_child-row.ensures (subst (λ (s : RowSet). IsNew row s.next_order) c.self.view_is (child_new c.in-Some.above c.args.spec c.args.now inside.next_id inside.next_order small below))

pub add-requires-clause-level : goal.add-requires-clause-level
add-requires-clause-level c =
    let inside = c.self.inside in
    let is : row_of c.args.parent inside.table ≡ Some c.in-Some.above = ap (λ (s : RowSet). row_of c.args.parent s.rows) c.self.view_is ∙ (sym c.row.ensures ∙ c.in-Some.is) in
    let within = found (λ r. r.level ≤ level_count inside.levels) c.args.parent c.in-Some.above inside.table c.self.invariant.within is in
    let differ = c.if-above-count.false in
    let levels = ap (λ (s : RowSet). s.levels) c.self.view_is in
    rw c.make_child-row.ensures (omega arith)

pub add-requires-clause-place : goal.add-requires-clause-place
add-requires-clause-place c =
    let above = c.in-Some.above in
    let is : row_of c.args.parent c.args.self.now.rows ≡ Some above = sym c.row.ensures ∙ c.in-Some.is in
    let id = found_id c.args.parent above c.args.self.now.rows is in
    rw c.make_child-row.ensures (above, ap (λ (n : ℕ). row_of n c.args.self.now.rows) id ∙ is, record { level = refl; lineage = refl; path = refl; priority = refl })
