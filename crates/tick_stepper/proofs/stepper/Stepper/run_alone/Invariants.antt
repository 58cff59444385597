use Rattle.std.proofs.Common.{◌≡◌, false}
use Rattle.lane_turn.specs.Tick.{lanes_at}
use Rattle.tick_stepper.proofs.stepper.Stepper.run_alone.Given as goal

abbrev pub invariant-loop-tick : goal.invariant-loop-tick
invariant-loop-tick l = l.self ≡ record { script = l.fn.self.script; lanes = lanes_at l.fn.self.script l._tick; tick = l._tick; spent = false }
