use Rattle.std.proofs.Common.{◌≡◌, ◌∙◌, ◌<◌, ◌*◌, ℕ, ap, sym, subst, rules, w64}
use Rattle.std.proofs.lemmas.Int.{to_z-of_z}
use mir.Val.{SFits, to_z, of_z}
use Rattle.context_core.specs.Ready.{is_due}
use Rattle.lane_turn.proofs.Waking.{not_due}
use Rattle.lane_turn.proofs.wakes.due_wake.Goals as goal

pub returns : goal.returns
returns c = λ k low.
    let us = c.tick_us.result in
    let fits : SFits w64 c.args.ready = search rules in
    let same : to_z w64 (of_z w64 c.args.ready) ≡ c.args.ready = simp to_z-of_z in
    ap (λ (n : ℕ). is_due (k * n) c.args.ready) (sym c.tick_us.ensures.tick_us)
    ∙ (ap (is_due (k * us)) (sym same) ∙ not_due (to_z w64 (of_z w64 c.args.ready)) us k c.tick_us.ensures.some (subst (λ (n : ℕ). k < n) c.div_ceil.ensures low))
