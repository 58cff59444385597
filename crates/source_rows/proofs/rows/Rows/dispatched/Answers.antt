use Rattle.std.proofs.Common.{◌+◌, ap, ◌∙◌, refl, List}
use Rattle.source_rows.specs.declared.row.Row.{Row}
use Rattle.source_rows.specs.Rows.{counted, level_count}
use Rattle.source_rows.proofs.Edits.{Stays}
use Rattle.source_rows.proofs.Kept.{stays_at, at_id, sound_map}
use Rattle.source_rows.proofs.rows.Rows.dispatched.Goals as goal

stays : Stays (λ r. record r { count = r.count + 1 })
stays = record { key = λ r. refl; id = λ r. refl; level = λ r. refl; order = λ r. refl; parent = λ r. refl; lineage = λ r. refl }

pub invariant_of-self : goal.invariant_of-self
invariant_of-self c =
    rw c.count_one.ensures.rows (sound_map (at_id c.args.id (λ r. record r { count = r.count + 1 })) (stays_at c.args.id (λ r. record r { count = r.count + 1 }) stays)
    c.self.inside.table c.self.inside.next_id c.self.inside.next_order (level_count c.self.inside.levels) c.self.invariant)

pub returns-clause-rows : goal.returns-clause-rows
returns-clause-rows c =
    ap (λ (rows : List Row). record { rows = rows; next_id = c.self.inside.next_id; next_order = c.self.inside.next_order; levels = level_count c.self.inside.levels }) c.count_one.ensures.rows
    ∙ ap (counted c.args.id) c.self.view_is
