use Rattle.std.proofs.Common.{◌≡◌, ◌∙◌, Some, ap, sym, subst, rules, w32}
use Rattle.std.proofs.lemmas.Int.{to_z-of_z}
use mir.Val.{SFits}
use Rattle.std.specs.Prelude.{ℕ}
use Rattle.source_rows.specs.Rows.{row_of, reprioritised}
use Rattle.source_rows.proofs.Kept.{found_id}
use Rattle.source_rows.proofs.rows.Rows.set_priority.Goals as goal

pub move_tree-requires-clause-root : goal.move_tree-requires-clause-root
move_tree-requires-clause-root c =
    let is : row_of c.args.id c.args.self.now.rows ≡ Some c.in-Some.root = sym c.row.ensures ∙ c.in-Some.is in
    let same = found_id c.args.id c.in-Some.root c.args.self.now.rows is in
    subst (λ (i : ℕ). row_of i c.args.self.now.rows ≡ Some c.in-Some.root) (sym same) is

pub returns-in-Ok-clause-ok : goal.returns-in-Ok-clause-ok
returns-in-Ok-clause-ok c =
    let is : row_of c.args.id c.args.self.now.rows ≡ Some c.in-Some.root = sym c.row.ensures ∙ c.in-Some.is in
    let same = found_id c.args.id c.in-Some.root c.args.self.now.rows is in
    let priority : SFits w32 c.args.priority = search rules in
    let moves = simp to_z-of_z at c.in-Ok.ensures.ok in
    moves ∙ ap (λ (i : ℕ). reprioritised i c.args.priority c.args.self.now) same
