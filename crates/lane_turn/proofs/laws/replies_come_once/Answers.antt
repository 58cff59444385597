use Rattle.lane_turn.proofs.Owed.{posted_once, run_under}
use Rattle.lane_turn.proofs.laws.replies_come_once.Goals as goal

pub returns : goal.returns
returns c = record { posted = posted_once; run = run_under }
