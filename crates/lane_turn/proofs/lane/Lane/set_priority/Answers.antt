use Rattle.std.proofs.Common.{rules, ◌≡◌, Some, true, false}
use Rattle.source_rows.specs.Rows.{priority_fault, row_of}
use Rattle.lane_turn.specs.Meaning.{lane_of}
use Rattle.lane_turn.proofs.Edits.{moves_none, same_rows}
use Rattle.lane_turn.proofs.lane.Lane.set_priority.Goals as goal

pub returns-in-Err : goal.returns-in-Err
returns-in-Err c =
    let now = c.rows_mut.result.now in
    let fault : priority_fault (row_of c.args.place.id now.rows) ≡ Some c.in-Err.field-0 = search rules in
    record {
      moves = moves_none c.args.place (lane_of c.args.self.now) c.in-Some.context.now now c.in-Err.field-0 c.in-Some.ensures.context c.rows_mut.ensures.rows fault;
      moved = λ e. let never : false ≡ true = e in cc;
      none = λ e. same_rows c.args.place.context (lane_of c.args.self.now) c.in-Some.context.now now c.set_priority.new.self c.in-Some.ensures.context c.rows_mut.ensures.rows c.in-Err.ensures.err;
    }
