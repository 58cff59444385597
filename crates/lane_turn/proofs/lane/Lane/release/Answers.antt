use Rattle.lane_turn.specs.Meaning.{lane_of}
use Rattle.lane_turn.proofs.Edits.{same}
use Rattle.lane_turn.proofs.lane.Lane.release.Goals as goal

pub returns-in-Some-clause-none : goal.returns-in-Some-clause-none
returns-in-Some-clause-none c = λ gone. same c.args.context (lane_of c.args.self.now) c.in-Some.context.now c.release.new.self c.in-Some.ensures.context (c.release.ensures.same gone)
