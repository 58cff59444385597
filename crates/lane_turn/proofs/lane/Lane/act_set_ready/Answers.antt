use Rattle.std.proofs.Common.{rules, w64}
use Rattle.std.proofs.lemmas.Int.{to_z-of_z}
use mir.Val.{SFits}
use Rattle.lane_turn.proofs.lane.Lane.act_set_ready.Goals as goal

pub returns-then-set_ready : goal.returns-then-set_ready
returns-then-set_ready c =
    let fits : SFits w64 c.args.ready = search rules in
    let e = simp to_z-of_z at c.set_ready.ensures.set in
    search rules
