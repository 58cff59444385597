use Rattle.std.proofs.Common.{◌≡◌, ap, sym, ◌∙◌, Some, None, List, subst, not, filter}
use Rattle.std.specs.List.{AllByRecursion}
use Rattle.source_rows.specs.declared.row.Row.{Row}
use Rattle.source_rows.specs.Rows.{RowSet, row_of, is_under, destroyed, level_count}
use Rattle.source_rows.specs.Kept.{IsSound}
use Rattle.source_rows.proofs.Alone.{all_own, one_gone}
use Rattle.source_rows.proofs.Gone.{near, sound_filter, none_gone}
use Rattle.source_rows.proofs.rows.Rows.destroy.Goals as goal

pub remove_under-requires-clause-distinct : goal.remove_under-requires-clause-distinct
remove_under-requires-clause-distinct c = record { rising = c.self.invariant.rising; apart = c.self.invariant.apart }

pub remove_under-requires-clause-near : goal.remove_under-requires-clause-near
remove_under-requires-clause-near c =
    let is : row_of c.args.id c.self.inside.table ≡ Some c.in-Some.found = sym c.row.ensures ∙ c.in-Some.is in
    rw c.key.ensures (near c.self.inside.table c.args.id c.in-Some.found c.self.invariant.forest is)

pub invariant_of-self : goal.invariant_of-self
invariant_of-self c =
    let inside = c.self.inside in
    subst (λ (rows : List Row). IsSound rows inside.next_id inside.next_order (level_count inside.levels)) (sym c.remove_under.ensures)
    (sound_filter c.args.id inside.table inside.next_id inside.next_order (level_count inside.levels) c.self.invariant)

pub returns-in-None-clause-rows : goal.returns-in-None-clause-rows
returns-in-None-clause-rows c =
    let none : row_of c.args.id c.self.inside.table ≡ None = sym c.row.ensures ∙ c.in-None.is in
    subst (λ (s : RowSet). s ≡ destroyed c.args.id s) c.self.view_is
    (ap (λ (rows : List Row). record { rows = rows; next_id = c.self.inside.next_id; next_order = c.self.inside.next_order; levels = level_count c.self.inside.levels })
    (sym (none_gone c.args.id c.self.inside.table c.self.invariant.forest none)))

gone : (c : goal.After-remove) → c.remove.new.self ≡ filter (λ r. not (is_under c.args.id r)) c.self.inside.table
gone c =
    let flat : AllByRecursion (λ r. r.parent ≡ None) c.self.inside.table = c.may_nest.ensures c.if-may_nest.false in
    c.remove.ensures ∙ one_gone c.args.id c.self.inside.table (all_own c.args.id c.self.inside.table c.self.invariant.forest flat)

pub invariant_of-self-else-may_nest : goal.invariant_of-self-else-may_nest
invariant_of-self-else-may_nest c =
    let inside = c.self.inside in
    subst (λ (rows : List Row). IsSound rows inside.next_id inside.next_order (level_count inside.levels)) (sym (gone c))
    (sound_filter c.args.id inside.table inside.next_id inside.next_order (level_count inside.levels) c.self.invariant)

pub returns-else-may_nest-clause-rows : goal.returns-else-may_nest-clause-rows
returns-else-may_nest-clause-rows c =
    ap (λ (rows : List Row). record { rows = rows; next_id = c.self.inside.next_id; next_order = c.self.inside.next_order; levels = level_count c.self.inside.levels }) (gone c)
    ∙ ap (destroyed c.args.id) c.self.view_is
