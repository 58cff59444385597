use Rattle.lane_turn.proofs.Brought.{taken_at}
use Rattle.lane_turn.proofs.Sums.{came_at}
use Rattle.lane_turn.proofs.Taken.{taken_once}
use Rattle.lane_turn.proofs.Lost.{none_lost}
use Rattle.lane_turn.proofs.laws.replies_are_taken_once.Goals as goal

pub returns : goal.returns
returns c = record { came = came_at; taken = taken_at; once = taken_once; kept = none_lost }
