use Rattle.lane_turn.proofs.Traced.{tells_depths, halts_over, run_shallow}
use Rattle.lane_turn.proofs.laws.depths_hold.Goals as goal

pub returns : goal.returns
returns c = record { steps = tells_depths; halts = halts_over; run = run_shallow }
