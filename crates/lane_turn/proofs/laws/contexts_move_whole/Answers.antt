use Rattle.lane_turn.proofs.Whole.{contexts_move}
use Rattle.lane_turn.proofs.laws.contexts_move_whole.Goals as goal

pub returns : goal.returns
returns c = contexts_move
