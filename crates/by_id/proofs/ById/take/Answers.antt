use Rattle.std.proofs.Common.{◌≡◌, ◌∙◌, ℕ, List, ap, sym, subst}
use Rattle.std.specs.Prelude.{slice_set}
use Rattle.std.specs.Map.{lookup, remove_entry}
use Rattle.by_id.specs.declared.entry.Entry.{Entry}
use Rattle.by_id.specs.Entries.{living, IdsRise, IsAt, HasNot}
use Rattle.by_id.proofs.Entries.{at_id, absent, unmoved, never_past, read, rises_left, same_left}
use Rattle.by_id.proofs.ById.take.Goals.{then-self-len, else-self-len}
use Rattle.by_id.proofs.ById.take.Goals as goal

pub returns-in_err-at-clause-value : goal.returns-in_err-at-clause-value
returns-in_err-at-clause-value g c =
    let none = subst (HasNot c.args.id) c.deref.ensures.value c.in_err-at.ensures.none in
    c.from_residual.ensures ∙ sym (ap (lookup (at_id c.args.id)) (sym c.self.view_is) ∙ absent c.args.id c.self.inside.entries.items none)

pub returns-in_err-at-clause-left : goal.returns-in_err-at-clause-left
returns-in_err-at-clause-left g c =
    let none = subst (HasNot c.args.id) c.deref.ensures.value c.in_err-at.ensures.none in
    subst (λ (es : List (ℕ × g.row.T.Denot)). es ≡ remove_entry (at_id c.args.id) es) c.self.view_is (sym (unmoved c.args.id c.self.inside.entries.items none))

pub returns-in_err-entry-clause-value : goal.returns-in_err-entry-clause-value
returns-in_err-entry-clause-value g c =
    let there = subst (λ (es : List (Entry g.row.T.Denot)). IsAt c.args.id es c.in_ok-at.at) c.deref.ensures.value c.in_ok-at.ensures.some in
    absurd (never_past c.args.id c.self.inside.entries.items c.in_ok-at.at there c.in_err-entry.ensures.item.3)

pub returns-in_err-entry-clause-left : goal.returns-in_err-entry-clause-left
returns-in_err-entry-clause-left g c =
    let there = subst (λ (es : List (Entry g.row.T.Denot)). IsAt c.args.id es c.in_ok-at.at) c.deref.ensures.value c.in_ok-at.ensures.some in
    absurd (never_past c.args.id c.self.inside.entries.items c.in_ok-at.at there c.in_err-entry.ensures.item.3)

pub returns-in_err-value-clause-value : goal.returns-in_err-value-clause-value
returns-in_err-value-clause-value g c =
    let k = read c.args.id c.args.self.now _ _ _ _ _ c.self.view_is c.self.invariant c.deref.ensures.value c.in_ok-at.ensures.some c.in_ok-entry.ensures.item.3 c.take.ensures.after in
    c.from_residual-in_err-value.ensures ∙ (c.in_err-value.ensures.value ∙ sym k.value)

pub returns-in_err-value-clause-left : goal.returns-in_err-value-clause-left
returns-in_err-value-clause-left g c =
    let k = read c.args.id c.args.self.now _ _ _ _ _ c.self.view_is c.self.invariant c.deref.ensures.value c.in_ok-at.ensures.some c.in_ok-entry.ensures.item.3 c.take.ensures.after in
    k.same

pub invariant_of-self-then-self-len : goal.invariant_of-self-then-self-len
invariant_of-self-then-self-len g c =
    let k = read c.args.id c.args.self.now _ _ _ _ _ c.self.view_is c.self.invariant c.deref.ensures.value c.in_ok-at.ensures.some c.in_ok-entry.ensures.item.3 c.take.ensures.after in
    subst IdsRise (sym c.leave_out_taken.ensures) (rises_left (slice_set c.self.inside.entries.items c.in_ok-at.at (record { id = c.in_ok-entry.entry.now.id; value = c.take.new.self })) k.rises)

pub invariant_of-self-else-self-len : goal.invariant_of-self-else-self-len
invariant_of-self-else-self-len g c =
    let k = read c.args.id c.args.self.now _ _ _ _ _ c.self.view_is c.self.invariant c.deref.ensures.value c.in_ok-at.ensures.some c.in_ok-entry.ensures.item.3 c.take.ensures.after in
    k.rises

pub returns-clause-value : goal.returns-clause-value
returns-clause-value g c =
    let k = read c.args.id c.args.self.now _ _ _ _ _ c.self.view_is c.self.invariant c.deref.ensures.value c.in_ok-at.ensures.some c.in_ok-entry.ensures.item.3 c.take.ensures.after in
    c.in_ok-value.ensures.value ∙ sym k.value

pub returns-clause-left : goal.returns-clause-left
returns-clause-left g c =
    let k = read c.args.id c.args.self.now _ _ _ _ _ c.self.view_is c.self.invariant c.deref.ensures.value c.in_ok-at.ensures.some c.in_ok-entry.ensures.item.3 c.take.ensures.after in
    elim c.if-self-len.branch [
      | then-self-len w ↦
          let set = slice_set c.self.inside.entries.items c.in_ok-at.at (record { id = c.in_ok-entry.entry.now.id; value = c.take.new.self }) in
          w.self-is ∙ (ap living w.leave_out_taken.ensures ∙ (same_left set ∙ k.same))
      | else-self-len w ↦ w.self-is ∙ k.same
    ]
