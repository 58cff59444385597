use Rattle.std.proofs.Common.{arith}
use Rattle.std.proofs.lemmas.Grind.{common_steps}
use Rattle.tick_stepper.proofs.side_by_side.+jobs.Goals as goal

pub returns : goal.returns
returns g c = grind (arith, common_steps)
