use Rattle.std.proofs.Common.{rules}
use Rattle.tick_stepper.proofs.Handed.{gathered_more}
use Rattle.tick_stepper.proofs.deal.gather.Goals as goal

pub loop-haul-preserved : goal.loop-haul-preserved
loop-haul-preserved c = (tt, tt, gathered_more _ _ _ _ _ c.in-Some.haul c.in_ok-share.share c.loop-haul.invariant.2 (search rules) (search rules) (search rules))
