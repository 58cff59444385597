use Rattle.std.proofs.Common.{◌≡◌, ◌∙◌, sym, subst}
use Rattle.lane_turn.specs.declared.layer.Top.TheVariants as tops
use Rattle.lane_turn.specs.Frames.{top_of}
use Rattle.lane_turn.specs.Meaning.{lane_of}
use Rattle.lane_turn.specs.Quiet.{IsIdleTop}
use Rattle.lane_turn.proofs.Resting.{no_rest}
use Rattle.lane_turn.proofs.lane.Lane.step_wake.Goals as goal

pub returns-then-not-has_rest : goal.returns-then-not-has_rest
returns-then-not-has_rest c = λ k le after on.
    let p = c.args.self.now in
    let top : top_of p.frames ≡ tops.Loop c.in-Loop.number c.in-Loop.context = sym c.top.ensures ∙ c.in-Loop.is in
    subst (IsIdleTop c.args.script.now k (lane_of p)) (sym top)
    (sym c.is_running.ensures ∙ c.if-is_running.true, c.select_wake.ensures k le after, no_rest c.in-Loop.context p.frames (sym c.has_rest.ensures ∙ c.if-not-has_rest.true))
