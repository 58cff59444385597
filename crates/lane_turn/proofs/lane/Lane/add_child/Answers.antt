use Rattle.std.proofs.Common.{rules, ◌≡◌, Some}
use Rattle.source_rows.specs.Rows.{child_fault, row_of}
use Rattle.lane_turn.specs.Meaning.{lane_of}
use Rattle.lane_turn.proofs.Edits.{bears_none, same_rows}
use Rattle.lane_turn.proofs.lane.Lane.add_child.Goals as goal

pub returns-in-Err : goal.returns-in-Err
returns-in-Err c =
    let now = c.rows_mut.result.now in
    let fault : child_fault now.levels (row_of c.args.parent.id now.rows) ≡ Some c.in-Err.field-0 = search rules in
    record {
      bears = bears_none c.args.parent (lane_of c.args.self.now) c.in-Some.context.now now c.in-Err.field-0 c.in-Some.ensures.context c.rows_mut.ensures.rows fault;
      id = tt;
      born = tt;
      none = λ e. same_rows c.args.parent.context (lane_of c.args.self.now) c.in-Some.context.now now c.add_child.new.self c.in-Some.ensures.context c.rows_mut.ensures.rows c.in-Err.ensures.err;
    }
