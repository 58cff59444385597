use Rattle.std.proofs.Common.{◌≡◌, ◌||◌, ◌∙◌, Bool, true, false, ap, sym, rules, w64}
use Rattle.std.proofs.lemmas.Int.{to_z-of_z}
use mir.Val.{SFits, to_z, of_z}
use Rattle.loop_script.specs.Parts.{time_of}
use Rattle.context_core.specs.Ready.{is_due}
use Rattle.lane_turn.proofs.wakes.row_wake.Goals as goal

neither : (a b : Bool) → a ≡ false → b ≡ false → (a || b) ≡ false
neither true b h k = h
neither false b h k = k

pub returns : goal.returns
returns c = λ k le after.
    let fits : SFits w64 c.args.row.now.ready = search rules in
    let same : to_z w64 (of_z w64 c.args.row.now.ready) ≡ c.args.row.now.ready = simp to_z-of_z in
    let both = c.sooner_turn.ensures k after in
    neither _ _ (c.kind_wake.ensures k le both.0) (ap (is_due (time_of c.args.script.now k)) (sym same) ∙ c.due_wake.ensures k both.1)
