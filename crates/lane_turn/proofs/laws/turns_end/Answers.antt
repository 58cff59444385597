use Rattle.lane_turn.proofs.Finish.{no_step_left}
use Rattle.lane_turn.specs.Turn.{begun}
use Rattle.lane_turn.proofs.laws.turns_end.Goals as goal

pub returns : goal.returns
returns c = λ script tick lane. no_step_left script tick (begun tick lane)
