use Rattle.std.proofs.Common.{rules, ◌≡◌, ◌+◌, ◌<◌, ◌^◌, ap, sym, ◌∙◌, refl, subst, Option, Some, None, List}
use Rattle.std.specs.Option.{option_map, IfSome}
use Rattle.slab.specs.Slab.{get}
use Rattle.source_rows.specs.declared.row.Row.{Row}
use Rattle.source_rows.specs.Rows.{row_of, changed}
use Rattle.source_rows.specs.Slots.{rows_at, IsTime}
use Rattle.source_rows.proofs.Forest.{found}
use Rattle.source_rows.proofs.Kept.{none_changed}
use Rattle.source_rows.proofs.InPlace.{InPlace, in_place, kept_in_place, held_in_place}
use Rattle.source_rows.proofs.Slots.{looked, none_there, id_of}
use Rattle.source_rows.proofs.table.Table.count_one.Goals as goal
use Rattle.source_rows.proofs.table.Table.count_one.Goals.{In-Some-get_mut}

abbrev count_one : Row → Row
count_one r = record r { count = r.count + 1 }

counts : (c : In-Some-get_mut) → InPlace count_one c.self.inside.slots c.self.inside.keys c.args.id c.in-Some.key c.in-Some-get_mut.slot.now
counts c =
    let at : get c.self.inside.slots c.in-Some.key ≡ Some c.in-Some-get_mut.slot.now = search rules in
    in_place count_one (λ r. refl) c.self.inside.slots c.self.inside.keys c.args.id c.in-Some.key c.in-Some-get_mut.slot.now c.self.invariant.filled.table (sym c.slot_of.ensures ∙ c.in-Some.is) at

pub invariant_of-self : goal.invariant_of-self
invariant_of-self c =
    let i = c.self.inside in
    let old = c.in-Some-get_mut.slot.now in
    let at : get i.slots c.in-Some.key ≡ Some old = search rules in
    let p = counts c.before.before in
    held_in_place count_one (λ r. refl) (λ r. refl) i.slots i.keys c.args.id c.in-Some.key old i.seats i.seats i.may_ask i.may_nest c.self.invariant at p
    (found IsTime c.args.id old (rows_at i.slots i.keys) c.self.invariant.times p.there)
    (kept_in_place count_one i.slots i.keys c.args.id c.in-Some.key old i.seats c.self.invariant.filled.table c.self.invariant.seated p refl)

pub returns-in-Some-get_mut-clause-count : goal.returns-in-Some-get_mut-clause-count
returns-in-Some-get_mut-clause-count c =
    sym (ap (λ (rows : List Row). option_map (λ (r : Row). r.count + 1) (row_of c.args.id rows)) (sym c.self.view_is) ∙ ap (option_map (λ (r : Row). r.count + 1)) (counts c.before.before).there)

pub returns-in-Some-get_mut-clause-rows : goal.returns-in-Some-get_mut-clause-rows
returns-in-Some-get_mut-clause-rows c = (counts c.before.before).changes ∙ ap (changed c.args.id count_one) c.self.view_is

pub returns-in_default-get_mut-clause-count : goal.returns-in_default-get_mut-clause-count
returns-in_default-get_mut-clause-count c =
    let k = looked c.self.inside.slots c.args.id c.in-Some.key c.self.inside.keys c.self.invariant.filled.table.named (sym c.slot_of.ensures ∙ c.in-Some.is) in
    let nothing : get c.self.inside.slots c.in-Some.key ≡ None = search rules in
    let never : None ≡ Some c.args.id = ap (option_map id_of) (sym nothing) ∙ k in
    cc

pub returns-in_default-get_mut-clause-rows : goal.returns-in_default-get_mut-clause-rows
returns-in_default-get_mut-clause-rows c =
    let k = looked c.self.inside.slots c.args.id c.in-Some.key c.self.inside.keys c.self.invariant.filled.table.named (sym c.slot_of.ensures ∙ c.in-Some.is) in
    let nothing : get c.self.inside.slots c.in-Some.key ≡ None = search rules in
    let never : None ≡ Some c.args.id = ap (option_map id_of) (sym nothing) ∙ k in
    cc

pub returns-in_default-clause-count : goal.returns-in_default-clause-count
returns-in_default-clause-count c =
    let nothing : c.slot_of.result ≡ None = search rules in
    let gone = ap (row_of c.args.id) (sym c.self.view_is) ∙ none_there c.self.inside.slots c.args.id c.self.inside.keys c.self.invariant.filled.table (sym c.slot_of.ensures ∙ nothing) in
    sym (ap (option_map (λ (r : Row). r.count + 1)) gone)

pub returns-in_default-clause-rows : goal.returns-in_default-clause-rows
returns-in_default-clause-rows c =
    let nothing : c.slot_of.result ≡ None = search rules in
    let gone = ap (row_of c.args.id) (sym c.self.view_is) ∙ none_there c.self.inside.slots c.args.id c.self.inside.keys c.self.invariant.filled.table (sym c.slot_of.ensures ∙ nothing) in
    sym (none_changed c.args.id (λ r. record r { count = r.count + 1 }) c.args.self.now gone)

pub overflow_add-count : goal.overflow_add-count
overflow_add-count c =
    let is = ap (row_of c.args.id) (sym c.self.view_is) ∙ (counts c).there in
    let few : c.in-Some-get_mut.slot.now.count < 2 ^ 63 = subst (λ (o : Option Row). IfSome o (λ r. r.count < 2 ^ 63)) is c.requires in
    search (rules, few)
