use Rattle.std.proofs.Common.{◌<◌, Some, length, sym, ap, subst, ◌∙◌, arith}
use Rattle.std.specs.Prelude.{slice_get, option_map}
use Rattle.lane_turn.specs.Lane.{Lane}
use Rattle.tick_stepper.specs.Stepper.{Steps}
use Rattle.tick_stepper.specs.declared.rest.Resting.{Resting}
use Rattle.tick_stepper.proofs.Steppers.{held_count, trace_at}
use Rattle.tick_stepper.proofs.stepper.Stepper.trace.Goals as goal

pub index-requires : goal.index-requires
index-requires c =
    let s = c.self.inside in
    let count = held_count s.script s.tick s.lanes.items (c.self.invariant.3 c.if-self.false) in
    let low : c.args.lane < length s.script.lanes = subst (λ (v : Steps). c.args.lane < length v.script.lanes) (sym c.self.view_is) c.requires in
    omega (arith, count, low, s.lanes.ok.0)

pub returns-clause-trace : goal.returns-clause-trace
returns-clause-trace c =
    let s = c.self.inside in
    let count = held_count s.script s.tick s.lanes.items (c.self.invariant.3 c.if-self.false) in
    let low : c.args.lane < length s.script.lanes = subst (λ (v : Steps). c.args.lane < length v.script.lanes) (sym c.self.view_is) c.requires in
    let d : Resting = c.index.result.now in
    ap (λ (v : Steps). option_map (λ (l : Lane). l.trace) (slice_get v.lanes c.args.lane)) (sym c.self.view_is) ∙ trace_at s.tick s.lanes.items c.args.lane d (omega (arith, count, low))
    ∙ ap (λ (one : Resting). Some one.lane.lane.trace) (sym c.index.ensures) ∙ ap Some (sym c.trace.ensures)
