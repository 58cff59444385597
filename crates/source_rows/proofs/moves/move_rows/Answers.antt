use Rattle.std.proofs.Common.{rules, ◌∙◌, w32}
use Rattle.std.proofs.lemmas.Int.{to_z-of_z}
use mir.Val.{SFits}
use Rattle.source_rows.proofs.Named.{moves_next}
use Rattle.source_rows.proofs.moves.move_rows.Goals as goal

pub loop-id-preserved : goal.loop-id-preserved
loop-id-preserved c =
    let i = c.loop-id.id-index in
    let priority : SFits w32 c.args.priority = search rules in
    let before = simp to_z-of_z at c.loop-id.invariant.same in
    let m = moves_next c.args.root c.args.priority c.args.order c.loop-id.table c.args.ids.now i c.loop-id-test.true c.loop-id.invariant.apart in
    rw (c.move_row.ensures, to_z-of_z) (record { apart = m.apart; same = m.same ∙ before })
