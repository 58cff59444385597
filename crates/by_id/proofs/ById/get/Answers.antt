use Rattle.std.proofs.Common.{◌≡◌, ◌∙◌, ◌<◌, ◌≤◌, List, length, ap, sym, subst}
use Rattle.std.specs.List.{HoldsAt}
use Rattle.std.specs.Map.{lookup}
use Rattle.by_id.specs.declared.entry.Entry.{Entry}
use Rattle.by_id.specs.Entries.{IsAt, HasNot}
use Rattle.by_id.proofs.Entries.{at_id, absent, placed, never_past, value_at}
use Rattle.by_id.proofs.ById.get.Goals as goal

pub returns-in_err-at : goal.returns-in_err-at
returns-in_err-at g c =
    let none = subst (HasNot c.args.id) c.deref.ensures.value c.in_err-at.ensures.none in
    c.from_residual.ensures ∙ sym (ap (lookup (at_id c.args.id)) (sym c.self.view_is) ∙ absent c.args.id c.self.inside.entries.items none)

pub returns-in_err-entry : goal.returns-in_err-entry
returns-in_err-entry g c =
    let there = subst (λ (es : List (Entry g.row.T.Denot)). IsAt c.args.id es c.in_ok-at.at) c.deref.ensures.value c.in_ok-at.ensures.some in
    let past = subst (λ (es : List (Entry g.row.T.Denot)). length es ≤ c.in_ok-at.at) c.deref-2.ensures.value c.in_err-entry.ensures.lookup.3 in
    absurd (never_past c.args.id c.self.inside.entries.items c.in_ok-at.at there past)

-- the value of an id, by the entry that was read
pub returns : goal.returns
returns g c =
    let items = c.self.inside.entries.items in
    let e = c.in_ok-entry.entry.now in
    let there = subst (λ (es : List (Entry g.row.T.Denot)). IsAt c.args.id es c.in_ok-at.at) c.deref.ensures.value c.in_ok-at.ensures.some in
    let read = subst (λ (es : List (Entry g.row.T.Denot)). (c.in_ok-at.at < length es) × HoldsAt (λ y. e ≡ y) es c.in_ok-at.at) c.deref-2.ensures.value c.in_ok-entry.ensures.lookup.3 in
    let p = placed c.args.id items c.in_ok-at.at e there read in
    sym (ap (lookup (at_id c.args.id)) (sym c.self.view_is) ∙ value_at c.args.id items c.in_ok-at.at e c.self.invariant p.0 p.1)
