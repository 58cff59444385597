use Rattle.lane_turn.proofs.Iterations.{goes_on, told_answer}
use Rattle.lane_turn.proofs.Nexts.{next_dispatched, next_passed}
use Rattle.lane_turn.proofs.laws.iterations_go_on.Goals as goal

pub returns : goal.returns
returns c = record { frames = goes_on; answers = told_answer; dispatches = next_dispatched; passes = next_passed }
