use Rattle.lane_turn.proofs.Began.{dispatches_begin}
use Rattle.lane_turn.proofs.Stays.{stay_after}
use Rattle.lane_turn.proofs.laws.sources_stay_as_kept.Goals as goal

pub returns : goal.returns
returns c = record { begins = dispatches_begin; ends = stay_after }
