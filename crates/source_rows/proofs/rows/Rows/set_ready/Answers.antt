use Rattle.std.proofs.Common.{rules, ◌≡◌, ap, ◌∙◌, refl, ℤ, List, w64}
use Rattle.std.proofs.lemmas.Int.{to_z-of_z}
use mir.Val.{SFits}
use Rattle.source_rows.specs.declared.row.Row.{Row}
use Rattle.source_rows.specs.Rows.{changed, ready_set, level_count}
use Rattle.source_rows.proofs.Edits.{Stays}
use Rattle.source_rows.proofs.Kept.{stays_at, at_id, sound_map}
use Rattle.source_rows.proofs.rows.Rows.set_ready.Goals as goal

stays : (t : ℤ) → Stays (λ r. record r { ready = t })
stays t = record { key = λ r. refl; id = λ r. refl; level = λ r. refl; order = λ r. refl; parent = λ r. refl; lineage = λ r. refl }

done : (c : goal.After-set_ready) → c.set_ready.new.self ≡ changed c.args.id (λ r. record r { ready = c.args.ready }) c.self.inside.table
done c =
    let fits : SFits w64 c.args.ready = search rules in
    simp to_z-of_z at c.set_ready.ensures.set

pub invariant_of-self : goal.invariant_of-self
invariant_of-self c =
    rw (done c) (sound_map (at_id c.args.id (λ r. record r { ready = c.args.ready })) (stays_at c.args.id (λ r. record r { ready = c.args.ready }) (stays c.args.ready))
    c.self.inside.table c.self.inside.next_id c.self.inside.next_order (level_count c.self.inside.levels) c.self.invariant)

pub returns-clause-rows : goal.returns-clause-rows
returns-clause-rows c =
    ap (λ (rows : List Row). record { rows = rows; next_id = c.self.inside.next_id; next_order = c.self.inside.next_order; levels = level_count c.self.inside.levels }) (done c)
    ∙ ap (ready_set c.args.id c.args.ready) c.self.view_is
