use Rattle.std.proofs.Common.{arith}
use Rattle.std.proofs.lemmas.Grind.{common_steps}
use Rattle.script_check.proofs.plan_check.check_rest.Goals as goal

pub loop-level-preserved : goal.loop-level-preserved
loop-level-preserved c = grind (arith, common_steps)
