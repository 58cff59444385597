use Rattle.lane_turn.proofs.Holds.{held_law, lane_law, none_law}
use Rattle.lane_turn.proofs.Staying.{holder_stays}
use Rattle.lane_turn.proofs.Holders.{run_holds}
use Rattle.lane_turn.proofs.laws.contexts_are_held.Goals as goal

pub returns : goal.returns
returns c = record { held = held_law; lane = lane_law; home = holder_stays; dispatched = run_holds; none = none_law }
