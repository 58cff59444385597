use Rattle.std.proofs.Common.{rules, ◌≡◌, ap, sym, ◌∙◌, refl, subst, Option, Some, None, true, w32}
use Rattle.std.proofs.lemmas.Int.{to_z-of_z}
use mir.Val.{SFits}
use Rattle.std.specs.List.{list_any}
use Rattle.std.specs.Option.{option_map}
use Rattle.std.specs.Ordering.{is_eq}
use Rattle.slab.specs.Slab.{get}
use Rattle.source_rows.specs.declared.row.Row.{Row}
use Rattle.source_rows.specs.declared.seats.Seat.{Seat}
use Rattle.source_rows.specs.Moves.{moved_row, with_moved}
use Rattle.source_rows.specs.Rows.{row_of}
use Rattle.source_rows.specs.Seats.{seat_cmp, seat_of, replaced}
use Rattle.source_rows.specs.Slots.{rows_at, IsTime}
use Rattle.source_rows.proofs.Forest.{found}
use Rattle.source_rows.proofs.InPlace.{InPlace, in_place, put_in_place, held_in_place}
use Rattle.source_rows.proofs.Seated.{rises_seats, there_seated}
use Rattle.source_rows.proofs.Slots.{looked, none_there, id_of}
use Rattle.source_rows.proofs.table.Table.move_row.Goals as goal
use Rattle.source_rows.proofs.table.Table.move_row.Goals.{After-seat-after}

abbrev move : After-seat-after → Row → Row
move c = moved_row c.args.root c.args.priority c.args.order

moves : (c : After-seat-after) → InPlace (move c) c.self.inside.slots c.self.inside.keys c.args.id c.in-Some.key c.in-Some-get_mut.slot.now
moves c =
    let at : get c.self.inside.slots c.in-Some.key ≡ Some c.in-Some-get_mut.slot.now = search rules in
    in_place (move c) (λ r. refl) c.self.inside.slots c.self.inside.keys c.args.id c.in-Some.key c.in-Some-get_mut.slot.now c.self.invariant.filled.table
    (sym c.slot_of.ensures ∙ c.in-Some.is) at

pub replace-requires-clause-rises : goal.replace-requires-clause-rises
replace-requires-clause-rises c = rises_seats c.self.inside.slots c.self.inside.keys c.self.inside.seats c.self.invariant.filled.table c.self.invariant.seated

pub replace-requires-clause-there : goal.replace-requires-clause-there
replace-requires-clause-there c =
    let p = moves c.before.before.before.before in
    let there = there_seated (rows_at c.self.inside.slots c.self.inside.keys) c.args.id c.in-Some-get_mut.slot.now c.self.inside.seats c.self.invariant.seated p.there in
    subst (λ (s : Seat). list_any (λ u. is_eq (seat_cmp s u)) c.self.inside.seats.0 ≡ true) (sym c.seat-before.ensures) there

pub invariant_of-self : goal.invariant_of-self
invariant_of-self c =
    let i = c.self.inside in
    let old = c.in-Some-get_mut.slot.now in
    let priority : SFits w32 c.args.priority = search rules in
    let f = moved_row c.args.root c.args.priority c.args.order in
    let at : get i.slots c.in-Some.key ≡ Some old = search rules in
    let moved : c.moved.result ≡ f old = simp to_z-of_z at c.moved.ensures in
    let seats : c.replace.new.self.0 ≡ replaced (seat_of old) (seat_of c.moved.result) i.seats.0 = search rules in
    let p = moves c.before.before.before.before.before in
    rw moved (held_in_place f (λ r. refl) (λ r. refl) i.slots i.keys c.args.id c.in-Some.key old i.seats c.replace.new.self i.may_ask i.may_nest c.self.invariant at p
    (found IsTime c.args.id old (rows_at i.slots i.keys) c.self.invariant.times p.there)
    (put_in_place f i.slots i.keys c.args.id c.in-Some.key old i.seats c.replace.new.self c.self.invariant.filled.table c.self.invariant.seated p (seats ∙ ap (λ (r : Row). replaced (seat_of old) (seat_of r) i.seats.0) moved) c.replace.ensures.low))

pub returns-in-Some-get_mut : goal.returns-in-Some-get_mut
returns-in-Some-get_mut c =
    let old = c.in-Some-get_mut.slot.now in
    let priority : SFits w32 c.args.priority = search rules in
    let moved : c.moved.result ≡ moved_row c.args.root c.args.priority c.args.order old = simp to_z-of_z at c.moved.ensures in
    let p = moves c.before.before.before.before.before in
    rw moved (p.put ∙ ap (with_moved c.args.root c.args.priority c.args.order (Some old)) c.self.view_is
    ∙ sym (ap (λ (o : Option Row). with_moved c.args.root c.args.priority c.args.order o c.args.self.now) (ap (row_of c.args.id) (sym c.self.view_is) ∙ p.there)))

pub returns-in_default-get_mut : goal.returns-in_default-get_mut
returns-in_default-get_mut c =
    let k = looked c.self.inside.slots c.args.id c.in-Some.key c.self.inside.keys c.self.invariant.filled.table.named (sym c.slot_of.ensures ∙ c.in-Some.is) in
    let nothing : get c.self.inside.slots c.in-Some.key ≡ None = search rules in
    let never : None ≡ Some c.args.id = ap (option_map id_of) (sym nothing) ∙ k in
    cc

pub returns-in_default : goal.returns-in_default
returns-in_default c =
    let nothing : c.slot_of.result ≡ None = search rules in
    let gone = ap (row_of c.args.id) (sym c.self.view_is) ∙ none_there c.self.inside.slots c.args.id c.self.inside.keys c.self.invariant.filled.table (sym c.slot_of.ensures ∙ nothing) in
    sym (ap (λ (o : Option Row). with_moved c.args.root c.args.priority c.args.order o c.args.self.now) gone)
