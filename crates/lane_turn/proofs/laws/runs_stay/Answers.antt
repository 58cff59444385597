use Rattle.lane_turn.proofs.Staying.{runs_stay}
use Rattle.lane_turn.proofs.laws.runs_stay.Goals as goal

pub returns : goal.returns
returns c = runs_stay
