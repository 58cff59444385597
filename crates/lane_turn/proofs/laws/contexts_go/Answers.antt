use Rattle.std.proofs.Common.{refl}
use Rattle.lane_turn.specs.Turn.{finished, finish}
use Rattle.lane_turn.proofs.laws.contexts_go.Goals as goal

pub returns : goal.returns
unfolding finished finish
returns c = record { handed = refl; missing = refl }
