use Rattle.context_core.specs.Defaults.{acquired}
use Rattle.lane_turn.specs.Meaning.{lane_of}
use Rattle.lane_turn.proofs.Edits.{unchanged}
use Rattle.lane_turn.proofs.lane.Lane.acquire.Goals as goal

pub returns-in_default : goal.returns-in_default
returns-in_default c = unchanged acquired c.args.context (lane_of c.args.self.now) c.in_default.ensures.context
