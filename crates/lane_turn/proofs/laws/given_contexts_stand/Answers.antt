use Rattle.lane_turn.proofs.Loose.{given_contexts_stand}
use Rattle.lane_turn.proofs.laws.given_contexts_stand.Goals as goal

pub returns : goal.returns
returns c = given_contexts_stand
