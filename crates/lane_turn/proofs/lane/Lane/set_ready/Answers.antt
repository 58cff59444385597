use Rattle.std.proofs.Common.{rules, w64, sym, ◌∙◌}
use Rattle.std.proofs.lemmas.Int.{to_z-of_z}
use mir.Val.{SFits}
use Rattle.source_rows.specs.Rows.{ready_set}
use Rattle.lane_turn.specs.Lane.{with_rows}
use Rattle.lane_turn.specs.Meaning.{lane_of}
use Rattle.lane_turn.proofs.Edits.{unchanged, edited_by, same_rows, none_set}
use Rattle.lane_turn.proofs.lane.Lane.set_ready.Goals as goal

pub returns-in-None-clause-set : goal.returns-in-None-clause-set
returns-in-None-clause-set c = unchanged (with_rows (ready_set c.args.id c.args.ready)) c.args.context (lane_of c.args.self.now) c.in-None.ensures.context

pub returns-in-Some-clause-set : goal.returns-in-Some-clause-set
returns-in-Some-clause-set c =
    let fits : SFits w64 c.args.ready = search rules in
    let set = simp to_z-of_z at c.set_ready.ensures.rows in
    edited_by (ready_set c.args.id c.args.ready) c.args.context (lane_of c.args.self.now) c.in-Some.context.now c.rows_mut.result.now c.set_ready.new.self c.in-Some.ensures.context c.rows_mut.ensures.rows set

pub returns-in-Some-clause-none : goal.returns-in-Some-clause-none
returns-in-Some-clause-none c = λ gone.
    let fits : SFits w64 c.args.ready = search rules in
    let set = simp to_z-of_z at c.set_ready.ensures.rows in
    same_rows c.args.context (lane_of c.args.self.now) c.in-Some.context.now c.rows_mut.result.now c.set_ready.new.self c.in-Some.ensures.context c.rows_mut.ensures.rows
    (set ∙ none_set c.args.id c.args.ready c.rows_mut.result.now (sym c.set_ready.ensures.row ∙ gone))
