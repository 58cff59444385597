use Rattle.std.proofs.Common.{◌≡◌, ◌+◌, false, ap, subst, ◌∙◌, List}
use Rattle.lane_turn.specs.Lane.{Lane}
use Rattle.lane_turn.specs.Tick.{ticked, lanes_at}
use Rattle.tick_stepper.specs.Stepper.{Steps}
use Rattle.tick_stepper.proofs.Steppers.{next_is}
use Rattle.tick_stepper.proofs.stepper.Stepper.tick.Goals as goal

pub returns-then-self-ticks-clause-lanes : goal.returns-then-self-ticks-clause-lanes
returns-then-self-ticks-clause-lanes g c =
    let s = c.self.inside in
    subst (λ (v : Steps). v.lanes ≡ lanes_at v.script v.tick) c.self.view_is (c.self.invariant.3 c.if-self.false).lanes

pub returns-clause-ticked : goal.returns-clause-ticked
returns-clause-ticked g c _ =
    let s = c.self.inside in
    let now = c.args.self.now in
    let next : lanes_at now.script (now.tick + 1) ≡ ticked now.script now.tick now.lanes =
    subst (λ (v : Steps). lanes_at v.script (v.tick + 1) ≡ ticked v.script v.tick v.lanes) c.self.view_is (next_is s.script s.tick s.lanes.items (c.self.invariant.3 c.if-self.false)) in
    c.in_ok-step.ensures.stepped ∙ ap (λ (lanes : List Lane). record { script = now.script; lanes = lanes; tick = now.tick + 1; spent = false }) next
