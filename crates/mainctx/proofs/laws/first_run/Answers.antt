use Rattle.std.proofs.Common.{refl}
use Rattle.std.specs.Fmt.{digits}
use Rattle.lane_turn.specs.Turn.{finished, finish}
use Rattle.mainctx.proofs.laws.first_run.Goals as goal

pub returns : goal.returns
unfolding finished finish digits
returns c = refl
