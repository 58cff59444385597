use Rattle.std.proofs.Common.{◌≡◌, ◌+◌, ◌<◌, ◌∙◌, false, sym, ap, subst, arith}
use Rattle.std.specs.List.{list_any}
use Rattle.lane_turn.specs.Tick.{lanes_at}
use Rattle.tick_stepper.specs.Stepper.{Steps}
use Rattle.tick_stepper.specs.Rest.{is_due, all_at}
use Rattle.tick_stepper.proofs.Resting.{none_any, idle_tick}
use Rattle.tick_stepper.proofs.stepper.Stepper.begin.Goals as goal

-- a tick in which no turn comes
pub invariant_of-self : goal.invariant_of-self
invariant_of-self c =
    let s = c.self.inside in
    let left : s.tick < s.script.ticks = subst (λ (v : Steps). v.tick < v.script.ticks) (sym c.self.view_is) c.requires.left in
    let none : list_any (is_due s.tick) s.lanes.items ≡ false = ap (list_any (is_due s.tick)) (sym c.as_slice.ensures.value) ∙ (sym c.any_due.ensures ∙ c.if-not-any_due.true) in
    (c.self.invariant.0, omega arith, c.self.invariant.2, λ u. idle_tick s.script s.tick s.lanes.items left (c.self.invariant.3 u) (none_any s.tick s.lanes.items none))

pub returns-then-not-any_due-clause-stepped : goal.returns-then-not-any_due-clause-stepped
returns-then-not-any_due-clause-stepped c _ =
    let s = c.self.inside in
    let left : s.tick < s.script.ticks = subst (λ (v : Steps). v.tick < v.script.ticks) (sym c.self.view_is) c.requires.left in
    let unspent : s.spent ≡ false = ap (λ (v : Steps). v.spent) c.self.view_is ∙ c.requires.unspent in
    let none : list_any (is_due s.tick) s.lanes.items ≡ false = ap (list_any (is_due s.tick)) (sym c.as_slice.ensures.value) ∙ (sym c.any_due.ensures ∙ c.if-not-any_due.true) in
    let at = idle_tick s.script s.tick s.lanes.items left (c.self.invariant.3 unspent) (none_any s.tick s.lanes.items none) in
    let after : Steps = record { script = s.script; lanes = all_at (s.tick + 1) s.lanes.items; tick = s.tick + 1; spent = s.spent } in
    subst (λ (v : Steps). after ≡ record { script = v.script; lanes = lanes_at v.script (v.tick + 1); tick = v.tick + 1; spent = false }) c.self.view_is
    (λ i. record { script = s.script; lanes = at.lanes i; tick = s.tick + 1; spent = unspent i })
