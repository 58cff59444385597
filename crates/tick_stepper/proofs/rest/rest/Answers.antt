use Rattle.tick_stepper.proofs.Resting.{rests_until}
use Rattle.tick_stepper.proofs.rest.rest.Goals as goal

pub returns-clause-rests : goal.returns-clause-rests
returns-clause-rests c = rests_until c.args.script.now c.args.tick c.args.lane c.next_tick-next.result c.requires.ready (c.next_tick-next.ensures.quiet c.requires.ready.unspent)
