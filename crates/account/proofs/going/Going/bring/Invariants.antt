use Rattle.std.proofs.Common.{◌≡◌}
use Rattle.account.specs.declared.going.Phase.TheVariants as phases
use Rattle.tick_stepper.specs.Account.{lanes_in}
use Rattle.account.specs.Standing.{place_of, Stands}
use Rattle.account.specs.Told.{IsQuietTo}
use Rattle.account.proofs.going.Going.bring.Given as goal

abbrev pub invariant-loop-lane : goal.invariant-loop-lane
invariant-loop-lane l = record {
  stands : Stands l.script l.tick l.self;
  phase : l.self.phase ≡ phases.Bringing l.lane l.letter;
  lanes : l.self.lanes ≡ l.fn.self.lanes;
  quiet : IsQuietTo l.script (record { tick = l.tick; place = place_of l.fn.self }) (record { tick = l.tick; place = place_of l.self });
  still : lanes_in (place_of l.self) ≡ lanes_in (place_of l.fn.self);
}
