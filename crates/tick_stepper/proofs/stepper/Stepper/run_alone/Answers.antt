use Rattle.std.proofs.Common.{◌≡◌, ℕ, ◌<◌, false, sym, ap, subst, ◌∙◌, arith}
use Rattle.lane_turn.specs.Tick.{lanes_at}
use Rattle.tick_stepper.specs.Stepper.{Steps}
use Rattle.tick_stepper.specs.Rest.{all_at}
use Rattle.tick_stepper.proofs.stepper.Stepper.run_alone.Goals as goal

pub loop-tick-init : goal.loop-tick-init
loop-tick-init c =
    let s = c.self.inside in
    let here : Steps = record { script = s.script; lanes = all_at s.tick s.lanes.items; tick = s.tick; spent = s.spent } in
    let is : here ≡ record { script = s.script; lanes = lanes_at s.script s.tick; tick = s.tick; spent = false } =
    λ i. record { script = s.script; lanes = (c.self.invariant.3 c.if-self.false).lanes i; tick = s.tick; spent = c.if-self.false i } in
    subst (λ (v : Steps). v ≡ record { script = v.script; lanes = lanes_at v.script s.tick; tick = s.tick; spent = false }) c.self.view_is is

pub step_alone-requires-clause-unspent : goal.step_alone-requires-clause-unspent
step_alone-requires-clause-unspent c = ap (λ (v : Steps). v.spent) c.loop-tick.invariant

pub step_alone-requires-clause-left : goal.step_alone-requires-clause-left
step_alone-requires-clause-left c =
    let most : c.self.inside.script.ticks ≡ c.args.self.now.script.ticks = ap (λ (v : Steps). v.script.ticks) c.self.view_is in
    let low : c.loop-tick._tick < c.args.self.now.script.ticks = omega (arith, most, c.ticks-tick-end.ensures.ticks, c.loop-tick-test.true) in
    subst (λ (v : Steps). v.tick < v.script.ticks) (sym c.loop-tick.invariant) low

pub returns-clause-ran : goal.returns-clause-ran
returns-clause-ran c =
    let script = c.args.self.now.script in
    let most : c.self.inside.script.ticks ≡ script.ticks = ap (λ (v : Steps). v.script.ticks) c.self.view_is in
    let last = c.loop-tick.auto._tick-end (omega (arith, c.self.invariant.1, c.ticks-tick-end.ensures.ticks)) in
    let end : c.loop-tick._tick ≡ script.ticks = omega (arith, most, last, c.ticks-tick-end.ensures.ticks, c.loop-tick-test.false) in
    c.loop-tick.invariant ∙ ap (λ (k : ℕ). record { script = script; lanes = lanes_at script k; tick = k; spent = false }) end
