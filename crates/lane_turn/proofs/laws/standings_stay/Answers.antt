use Rattle.lane_turn.proofs.Stands.{stay}
use Rattle.lane_turn.proofs.laws.standings_stay.Goals as goal

pub returns : goal.returns
returns c = stay
