use Rattle.std.proofs.Common.{◌∙◌, sym, ap}
use Rattle.tick_stepper.specs.Crew.{worker_of}
use Rattle.tick_stepper.proofs.Handed.{dealt_more}
use Rattle.tick_stepper.proofs.deal.hand_out.Goals as goal

pub loop-lane-preserved : goal.loop-lane-preserved
loop-lane-preserved c =
    let inv = c.loop-lane.invariant in
    let done = c.in_ok-give.ensures in
    let is = sym (c.worker_of-worker.ensures ∙ ap (worker_of c.args.crew.now) c.number.ensures) in
    (tt, tt, done.as_many ∙ inv.2, dealt_more _ _ _ c.in-Some.lane inv.3 done.lanes, done.trays inv.4, done.workers inv.5, done.theirs _ _ is inv.5 inv.6)
