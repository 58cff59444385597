use Rattle.tick_stepper.proofs.Tied.{queues_move}
use Rattle.tick_stepper.proofs.laws.queues_move.Goals as goal

pub returns : goal.returns
returns c = queues_move
