use Rattle.lane_turn.proofs.Arrivals.{arrive_once, arrive_elsewhere}
use Rattle.lane_turn.proofs.Came.{sources_run, invokes_run}
use Rattle.lane_turn.proofs.laws.letters_arrive.Goals as goal

pub returns : goal.returns
returns c = record { once = arrive_once; others = arrive_elsewhere; sources = sources_run; invokes = invokes_run }
