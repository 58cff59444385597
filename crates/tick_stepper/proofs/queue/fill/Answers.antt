use Rattle.std.proofs.Common.{rules}
use Rattle.tick_stepper.proofs.Queues.{filled_more}
use Rattle.tick_stepper.proofs.queue.fill.Goals as goal

pub loop-lane-preserved : goal.loop-lane-preserved
loop-lane-preserved g c = (tt, tt, filled_more _ _ _ _ c.loop-lane.invariant.2 (search rules))
