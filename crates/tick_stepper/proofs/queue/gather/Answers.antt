use Rattle.std.proofs.Common.{rules}
use Rattle.tick_stepper.proofs.Queues.{taken_more}
use Rattle.tick_stepper.proofs.queue.gather.Goals as goal

pub loop-haul-preserved : goal.loop-haul-preserved
loop-haul-preserved c =
    let done = c.in_ok-take_in.ensures in
    (tt, tt, taken_more _ _ _ _ _ _ _ _ _ c.in-Some.haul c.in_ok-haul.field-0 c.loop-haul.invariant.2 (search rules) done.list done.office done.lanes)
