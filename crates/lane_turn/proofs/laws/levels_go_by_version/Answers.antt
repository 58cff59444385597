use Rattle.lane_turn.proofs.Grown.{grown_run, version_one}
use Rattle.lane_turn.proofs.laws.levels_go_by_version.Goals as goal

pub returns : goal.returns
returns c = record { grown = grown_run; version_1 = version_one }
