use Rattle.source_rows.specs.Rows.{destroyed}
use Rattle.lane_turn.specs.Lane.{with_rows}
use Rattle.lane_turn.specs.Meaning.{lane_of}
use Rattle.lane_turn.proofs.Edits.{unchanged, same_rows}
use Rattle.lane_turn.proofs.lane.Lane.destroy.Goals as goal

pub returns-in-None-clause-destroyed : goal.returns-in-None-clause-destroyed
returns-in-None-clause-destroyed c = unchanged (with_rows (destroyed c.args.id)) c.args.context (lane_of c.args.self.now) c.in-None.ensures.context

pub returns-in-Some-clause-none : goal.returns-in-Some-clause-none
returns-in-Some-clause-none c = λ gone.
    same_rows c.args.context (lane_of c.args.self.now) c.in-Some.context.now c.rows_mut.result.now c.destroy.new.self c.in-Some.ensures.context c.rows_mut.ensures.rows (c.destroy.ensures.none gone)
