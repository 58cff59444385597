use Rattle.std.proofs.Common.{arith}
use Rattle.std.proofs.lemmas.Grind.{common_steps}
use Rattle.tick_stepper.proofs.queue.hire.Goals as goal

pub loop-worker-preserved : goal.loop-worker-preserved
loop-worker-preserved c = grind (arith, common_steps)
