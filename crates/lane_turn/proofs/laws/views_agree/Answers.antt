use Rattle.lane_turn.proofs.Views.{seen_turned, seen_received, seen_same}
use Rattle.lane_turn.proofs.laws.views_agree.Goals as goal

pub returns : goal.returns
returns c = record { turned = seen_turned; received = seen_received; same = seen_same }
