use Rattle.std.proofs.Common.{◌≡◌, ◌<◌, ◌+◌, ◌^◌, Option, Some, List, map, refl, ap, sym, subst, ◌∙◌, arith, rules, w32}
use Rattle.std.proofs.lemmas.Int.{to_z-of_z}
use mir.Val.{SFits}
use Rattle.std.specs.List.{AllByRecursion}
use Rattle.source_rows.specs.declared.row.Row.{Row}
use Rattle.source_rows.specs.declared.rows.Rows.TheInside.{Inside}
use Rattle.source_rows.specs.Kept.{IsSound}
use Rattle.source_rows.specs.Rows.{RowSet, row_of, moved, changed, reprioritised, level_count}
use Rattle.source_rows.specs.Band.{stands_between}
use Rattle.source_rows.specs.InOrder.{rows_of}
use Rattle.source_rows.specs.Moves.{moved_row, with_moved}
use Rattle.source_rows.proofs.MayBe.{NoParent}
use Rattle.source_rows.proofs.TreeMoves.{none_twice, tree_picked, tree_moves, root_moves, TreeMoves}
use Rattle.source_rows.proofs.rows.Rows.move_tree.Goals as goal
use Rattle.source_rows.proofs.rows.Rows.move_tree.Goals.{After-may_nest, Joined-may_nest, then-may_nest+in_ok-ids, else-may_nest}

pub ids_between-requires : goal.ids_between-requires
ids_between-requires c = c.self.invariant.apart

pub move_rows-requires : goal.move_rows-requires
move_rows-requires c = rw (c.as_slice.ensures.value, c.in_ok-ids.ensures) (none_twice (stands_between c.tree_keys.result.0 c.tree_keys.result.1) c.self.inside.table c.self.invariant.rising)

small : (c : After-may_nest) → c.self.inside.next_order < 2 ^ 63
small c =
    let same = ap (λ (s : RowSet). s.next_order) c.self.view_is in
    let limit = c.requires.orders in
    omega (arith, same, limit)

root : (c : After-may_nest) → row_of c.args.root.id c.self.inside.table ≡ Some c.args.root
root c = ap (λ (s : RowSet). row_of c.args.root.id s.rows) c.self.view_is ∙ c.requires.root

moves : (c : Joined-may_nest) → TreeMoves c.args.root c.args.priority c.self.inside.table c.self.inside.next_id c.self.inside.next_order (level_count c.self.inside.levels) c.if-may_nest.self-inside.table
moves c =
    let inside = c.self.inside in
    let before = c.before in
    let priority : SFits w32 c.args.priority = search rules in
    elim c.if-may_nest.branch [
      | then-may_nest+in_ok-ids w ↦
          let picked = tree_picked c.args.root inside.table inside.next_id inside.next_order (level_count inside.levels) w.tree_keys.result c.self.invariant (root before) c.requires.level w.tree_keys.ensures in
          let made = simp to_z-of_z at w.move_rows.ensures in
          let ids = w.as_slice.ensures.value ∙ w.in_ok-ids.ensures in
          rw w.self-inside-is (tree_moves c.args.root c.args.priority inside.table inside.next_id inside.next_order (level_count inside.levels) w.as_slice.result.now w.move_rows.new.table (small before) c.self.invariant (root before) c.requires.level
          (ap (rows_of inside.table) ids ∙ picked) made)
      | else-may_nest w ↦
          let flat : AllByRecursion NoParent inside.table = c.may_nest.ensures w.if-may_nest.false in
          let priority : SFits w32 c.args.priority = search rules in
          let made : w.move_row.new.self ≡ changed c.args.root.id (λ _. moved_row c.args.root.id c.args.priority inside.next_order c.args.root) inside.table
          = (simp to_z-of_z at w.move_row.ensures) ∙ ap (λ (o : Option Row). with_moved c.args.root.id c.args.priority inside.next_order o inside.table) (root before) in
          rw w.self-inside-is (root_moves c.args.root c.args.priority inside.table inside.next_id inside.next_order (level_count inside.levels) w.move_row.new.self (small before) c.self.invariant (root before) c.requires.level flat made)
    ]

-- the rows alone were changed
done : (c : Joined-may_nest) → c.if-may_nest.self-inside ≡ record c.self.inside { table = map (moved c.args.root.id c.args.priority c.self.inside.next_order) c.self.inside.table }
done c =
    let inside = c.self.inside in
    let rest : c.if-may_nest.self-inside ≡ record inside { table = c.if-may_nest.self-inside.table } = elim c.if-may_nest.branch [
      | then-may_nest+in_ok-ids w ↦ rw w.self-inside-is refl
      | else-may_nest w ↦ rw w.self-inside-is refl
    ] in
    rest ∙ ap (λ (rows : List Row). record inside { table = rows }) (moves c).table

pub invariant_of-self : goal.invariant_of-self
invariant_of-self c =
    subst (λ (i : Inside). IsSound i.table i.next_id (i.next_order + 1) (level_count i.levels)) (sym (done c.before)) (moves c.before).sound

pub returns-clause-ok : goal.returns-clause-ok
returns-clause-ok c =
    ap (λ (i : Inside). record { rows = i.table; next_id = i.next_id; next_order = i.next_order + 1; levels = level_count i.levels }) (done c.before)
    ∙ ap (reprioritised c.args.root.id c.args.priority) c.self.view_is
