use Rattle.std.proofs.Common.{arith}
use Rattle.std.proofs.lemmas.Grind.{common_steps}
use Rattle.lane_turn.proofs.lane.Lane.call_handler.Goals as goal

pub actions-preserved : goal.actions-preserved
actions-preserved c = grind (arith, common_steps)
