use Rattle.tick_stepper.specs.Rest.{AreAt}
use Rattle.tick_stepper.proofs.span.step_ticks.Given as goal

abbrev pub invariant-loop-tick : goal.invariant-loop-tick
invariant-loop-tick g l = AreAt l.script l.tick l.lanes.items
