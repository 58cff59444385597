use Rattle.std.proofs.Common.{arith}
use Rattle.std.proofs.lemmas.Grind.{common_steps}
use Rattle.lane_turn.proofs.start.open_contexts.Goals as goal

pub loop-context-preserved : goal.loop-context-preserved
loop-context-preserved c = grind (arith, common_steps)
