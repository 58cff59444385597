use Rattle.source_rows.specs.Rows.{attached}
use Rattle.lane_turn.specs.Lane.{with_rows}
use Rattle.lane_turn.specs.Meaning.{lane_of}
use Rattle.lane_turn.proofs.Edits.{unchanged}
use Rattle.lane_turn.proofs.lane.Lane.attach.Goals as goal

pub returns-in-None-clause-attached : goal.returns-in-None-clause-attached
returns-in-None-clause-attached c = unchanged (with_rows (attached c.args.spec c.args.now)) c.args.context (lane_of c.args.self.now) c.in-None.ensures.context
