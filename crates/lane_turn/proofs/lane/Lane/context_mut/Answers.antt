use Rattle.std.proofs.Common.{rules, ◌≡◌, ap, sym, ◌∙◌, refl, Some, None, true, false, is_some, ltb-true, ltb-false}
use Rattle.std.specs.Prelude.{slice_get}
use Rattle.lane_turn.specs.Lane.{present}
use Rattle.lane_turn.proofs.Edits.{get_some}
use Rattle.lane_turn.proofs.Waking.{none_got}
use Rattle.lane_turn.proofs.lane.Lane.context_mut.Goals as goal

pub returns-in-Some-slot : goal.returns-in-Some-slot
returns-in-Some-slot c =
    let contexts = c.args.self.now.contexts.items in
    let at : slice_get contexts c.args.context ≡ Some c.in-Some.slot.now = get_some contexts c.args.context c.in-Some.slot.now (ltb-true _ _ (sym c.in-Some.ensures.item.0)) c.in-Some.ensures.item.1 in
    let is : Some c.in-Some-slot.context ≡ present (slice_get contexts c.args.context) = sym (ap present at ∙ c.in-Some-slot.is) in
    rw c.in-Some-slot.is (refl, record { writes_back = tt; context = is })

pub returns-in-None-slot : goal.returns-in-None-slot
returns-in-None-slot c =
    let contexts = c.args.self.now.contexts.items in
    let at : slice_get contexts c.args.context ≡ Some c.in-Some.slot.now = get_some contexts c.args.context c.in-Some.slot.now (ltb-true _ _ (sym c.in-Some.ensures.item.0)) c.in-Some.ensures.item.1 in
    let has : true ≡ is_some (present (slice_get contexts c.args.context)) = search rules in
    let never : true ≡ false = has ∙ ap is_some (ap present at ∙ c.in-None-slot.is) in
    cc

pub returns-in-None : goal.returns-in-None
returns-in-None c =
    let contexts = c.args.self.now.contexts.items in
    let at : slice_get contexts c.args.context ≡ None = none_got contexts c.args.context (ltb-false _ _ (sym c.in-None.ensures.item.0)) in
    let has : true ≡ is_some (present (slice_get contexts c.args.context)) = search rules in
    let never : true ≡ false = has ∙ ap is_some (ap present at) in
    cc
