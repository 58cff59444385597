use Rattle.std.proofs.Common.{rules, ◌≡◌, ◌<◌, ◌≤◌, ◌^◌, [], ◌∷◌, ◌++◌, ap, sym, subst, ◌∙◌, arith}
use Rattle.std.specs.List.{AllByRecursion}
use Rattle.source_rows.specs.Rows.{RowSet, level_count}
use Rattle.source_rows.specs.Tree.{HasPlace}
use Rattle.source_rows.specs.New.{IsNew}
use Rattle.source_rows.proofs.Kept.{sound-push}
use Rattle.source_rows.proofs.rows.Rows.add.Goals as goal

pub push-requires-clause-last : goal.push-requires-clause-last
push-requires-clause-last c =
    let id : c.self.inside.next_id ≡ c.args.row.id = ap (λ (s : RowSet). s.next_id) c.self.view_is ∙ sym c.requires.id in
    subst (λ (n : _). AllByRecursion (λ r. r.id < n) c.self.inside.table) id c.self.invariant.fresh

pub invariant_of-self-2 : goal.invariant_of-self-2
invariant_of-self-2 c =
    let inside = c.self.inside in
    let rows : c.push.new.self ≡ inside.table ++ c.args.row ∷ [] = search rules in
    let new : IsNew c.args.row inside.next_order = subst (λ (s : RowSet). IsNew c.args.row s.next_order) (sym c.self.view_is) c.requires.new in
    let same = ap (λ (s : RowSet). s.next_order) c.self.view_is in
    let limit = c.requires.orders in
    let small : inside.next_order < 2 ^ 63 = omega (arith, same, limit) in
    let order : c.args.row.order ≡ inside.next_order = c.requires.order ∙ sym same in
    let place : HasPlace inside.table c.args.row.parent c.args.row = subst (λ (s : RowSet). HasPlace s.rows c.args.row.parent c.args.row) (sym c.self.view_is) c.requires.place in
    let id : c.args.row.id ≡ inside.next_id = c.requires.id ∙ sym (ap (λ (s : RowSet). s.next_id) c.self.view_is) in
    let level : c.args.row.level ≤ level_count inside.levels = subst (λ (s : RowSet). c.args.row.level ≤ s.levels) (sym c.self.view_is) c.requires.level in
    rw rows (sound-push inside.table inside.next_id inside.next_order c.args.row (level_count inside.levels) small c.self.invariant new id level order place)
