use Rattle.lane_turn.proofs.Freed.{blocked_wait}
use Rattle.lane_turn.proofs.laws.blocked_sources_wait.Goals as goal

pub returns : goal.returns
returns c = blocked_wait
