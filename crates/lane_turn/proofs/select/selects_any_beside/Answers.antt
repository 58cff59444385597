use Rattle.std.proofs.Common.{◌≡◌, ℕ, true, List, [], ◌∷◌, refl, ap, sym, ◌∙◌}
use Rattle.loop_script.specs.Parts.{level_of}
use Rattle.context_core.specs.Ready.{in_view, own_ready, selected}
use Rattle.lane_turn.specs.Lane.{is_any}
use Rattle.lane_turn.proofs.select.selects_any_beside.Goals as goal

any_of : (ids : List ℕ) → (ids ≡ [] → ⊥) → true ≡ is_any ids
any_of [] f = absurd (f refl)
any_of (id ∷ ids) f = refl

pub returns-then-is_some : goal.returns-then-is_some
returns-then-is_some c =
    let level = λ (fd : ℕ). level_of c.args.script.now fd c.args.tick in
    let rows = c.args.context.now.rows.rows in
    let seen = in_view c.args.view.now in
    any_of _ (λ e. c.ready_priority.ensures.some (sym c.is_some.ensures ∙ c.if-is_some.true) level
    (ap (λ (now : ℕ). selected (own_ready level seen now) c.args.busy.now rows) c.now-now.ensures.now ∙ e))
