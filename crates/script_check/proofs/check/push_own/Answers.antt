use Rattle.std.proofs.Common.{arith}
use Rattle.std.proofs.lemmas.Grind.{common_steps}
use Rattle.script_check.proofs.check.push_own.Goals as goal

pub loop-cause-preserved : goal.loop-cause-preserved
loop-cause-preserved c = grind (arith, common_steps)
