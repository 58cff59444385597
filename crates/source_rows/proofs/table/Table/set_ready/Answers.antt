use Rattle.std.proofs.Common.{rules, ◌≡◌, ℤ, ◌==◌, true, ap, sym, ◌∙◌, refl, Some, None, List, w64}
use Rattle.std.proofs.lemmas.Int.{to_z-of_z}
use mir.Val.{SFits}
use Rattle.std.specs.Option.{option_map, is_some}
use Rattle.slab.specs.Slab.{get}
use Rattle.source_rows.specs.declared.row.Row.{Row}
use Rattle.source_rows.specs.Candidates.{due_at}
use Rattle.source_rows.specs.Rows.{row_of, changed}
use Rattle.source_rows.specs.Seats.{seat_of, swapped}
use Rattle.source_rows.specs.Slots.{IsTime}
use Rattle.source_rows.proofs.Compared.{are_same}
use Rattle.source_rows.proofs.InPlace.{InPlace, in_place, kept_in_place, set_in_place, held_in_place}
use Rattle.source_rows.proofs.Kept.{none_changed}
use Rattle.source_rows.proofs.Seated.{rises_seats, seat_kept}
use Rattle.source_rows.proofs.Slots.{looked, none_there, id_of}
use Rattle.source_rows.proofs.table.Table.set_ready.Goals as goal
use Rattle.source_rows.proofs.table.Table.set_ready.Goals.{In-Some-get_mut, After-set}

abbrev ready_at : ℤ → Row → Row
ready_at t r = record r { ready = t }

set : (c : In-Some-get_mut) → InPlace (ready_at c.args.ready) c.self.inside.slots c.self.inside.keys c.args.id c.in-Some.key c.in-Some-get_mut.slot.now
set c =
    let at : get c.self.inside.slots c.in-Some.key ≡ Some c.in-Some-get_mut.slot.now = search rules in
    in_place (ready_at c.args.ready) (λ r. refl) c.self.inside.slots c.self.inside.keys c.args.id c.in-Some.key c.in-Some-get_mut.slot.now c.self.invariant.filled.table
    (sym c.slot_of.ensures ∙ c.in-Some.is) at

set_else : (c : After-set) → InPlace (ready_at c.args.ready) c.self.inside.slots c.self.inside.keys c.args.id c.in-Some.key c.in-Some-get_mut.slot.now
set_else c =
    let at : get c.self.inside.slots c.in-Some.key ≡ Some c.in-Some-get_mut.slot.now = search rules in
    in_place (ready_at c.args.ready) (λ r. refl) c.self.inside.slots c.self.inside.keys c.args.id c.in-Some.key c.in-Some-get_mut.slot.now c.self.invariant.filled.table
    (sym c.slot_of.ensures ∙ c.in-Some.is) at

pub set-requires-clause-rises : goal.set-requires-clause-rises
set-requires-clause-rises c = rises_seats c.self.inside.slots c.self.inside.keys c.self.inside.seats c.self.invariant.filled.table c.self.invariant.seated

pub invariant_of-self : goal.invariant_of-self
invariant_of-self c =
    let i = c.self.inside in
    let old = c.in-Some-get_mut.slot.now in
    let f = ready_at c.args.ready in
    let fits : SFits w64 c.args.ready = search rules in
    let time : IsTime (f old) = search rules in
    let tested : (due_at old.ready == due_at c.args.ready) ≡ true = search (rules, to_z-of_z, c.if-keeps_times.true) in
    let at : get i.slots c.in-Some.key ≡ Some old = search rules in
    let p = set c.before.before.before.before in
    rw to_z-of_z (held_in_place f (λ r. refl) (λ r. refl) i.slots i.keys c.args.id c.in-Some.key old i.seats i.seats i.may_ask i.may_nest c.self.invariant at p time
    (kept_in_place f i.slots i.keys c.args.id c.in-Some.key old i.seats c.self.invariant.filled.table c.self.invariant.seated p (seat_kept old c.args.ready (are_same (due_at old.ready) (due_at c.args.ready) tested))))

pub invariant_of-self-else-keeps_times : goal.invariant_of-self-else-keeps_times
invariant_of-self-else-keeps_times c =
    let i = c.self.inside in
    let old = c.in-Some-get_mut.slot.now in
    let f = ready_at c.args.ready in
    let fits : SFits w64 c.args.ready = search rules in
    let time : IsTime (f old) = search rules in
    let seats : c.set.new.self.0 ≡ swapped (seat_of old) (seat_of (f old)) i.seats.0 = search (rules, to_z-of_z) in
    let at : get i.slots c.in-Some.key ≡ Some old = search rules in
    let p = set_else c in
    rw to_z-of_z (held_in_place f (λ r. refl) (λ r. refl) i.slots i.keys c.args.id c.in-Some.key old i.seats c.set.new.self i.may_ask i.may_nest c.self.invariant at p time
    (set_in_place f (λ r. refl) i.slots i.keys c.args.id c.in-Some.key old i.seats c.set.new.self c.self.invariant.filled.table c.self.invariant.seated p seats c.set.ensures.height))

pub returns-then-keeps_times-clause-there : goal.returns-then-keeps_times-clause-there
returns-then-keeps_times-clause-there c = sym (ap (λ (rows : List Row). is_some (row_of c.args.id rows)) (sym c.self.view_is) ∙ ap is_some (set c.before.before.before.before).there)

pub returns-else-keeps_times-clause-there : goal.returns-else-keeps_times-clause-there
returns-else-keeps_times-clause-there c = sym (ap (λ (rows : List Row). is_some (row_of c.args.id rows)) (sym c.self.view_is) ∙ ap is_some (set_else c).there)

pub returns-then-keeps_times-clause-set : goal.returns-then-keeps_times-clause-set
returns-then-keeps_times-clause-set c =
    let fits : SFits w64 c.args.ready = search rules in
    rw to_z-of_z ((set c.before.before.before.before).changes ∙ ap (changed c.args.id (ready_at c.args.ready)) c.self.view_is)

pub returns-else-keeps_times-clause-set : goal.returns-else-keeps_times-clause-set
returns-else-keeps_times-clause-set c =
    let fits : SFits w64 c.args.ready = search rules in
    rw to_z-of_z ((set_else c).changes ∙ ap (changed c.args.id (ready_at c.args.ready)) c.self.view_is)

pub returns-in_default-get_mut-clause-there : goal.returns-in_default-get_mut-clause-there
returns-in_default-get_mut-clause-there c =
    let k = looked c.self.inside.slots c.args.id c.in-Some.key c.self.inside.keys c.self.invariant.filled.table.named (sym c.slot_of.ensures ∙ c.in-Some.is) in
    let nothing : get c.self.inside.slots c.in-Some.key ≡ None = search rules in
    let never : None ≡ Some c.args.id = ap (option_map id_of) (sym nothing) ∙ k in
    cc

pub returns-in_default-get_mut-clause-set : goal.returns-in_default-get_mut-clause-set
returns-in_default-get_mut-clause-set c =
    let k = looked c.self.inside.slots c.args.id c.in-Some.key c.self.inside.keys c.self.invariant.filled.table.named (sym c.slot_of.ensures ∙ c.in-Some.is) in
    let nothing : get c.self.inside.slots c.in-Some.key ≡ None = search rules in
    let never : None ≡ Some c.args.id = ap (option_map id_of) (sym nothing) ∙ k in
    cc

pub returns-in_default-clause-there : goal.returns-in_default-clause-there
returns-in_default-clause-there c =
    let nothing : c.slot_of.result ≡ None = search rules in
    let gone = ap (row_of c.args.id) (sym c.self.view_is) ∙ none_there c.self.inside.slots c.args.id c.self.inside.keys c.self.invariant.filled.table (sym c.slot_of.ensures ∙ nothing) in
    sym (ap is_some gone)

pub returns-in_default-clause-set : goal.returns-in_default-clause-set
returns-in_default-clause-set c =
    let nothing : c.slot_of.result ≡ None = search rules in
    let gone = ap (row_of c.args.id) (sym c.self.view_is) ∙ none_there c.self.inside.slots c.args.id c.self.inside.keys c.self.invariant.filled.table (sym c.slot_of.ensures ∙ nothing) in
    sym (none_changed c.args.id (λ r. record r { ready = c.args.ready }) c.args.self.now gone)
