use Rattle.std.proofs.Common.{◌≡◌}
use Rattle.account.specs.declared.going.Phase.TheVariants as phases
use Rattle.tick_stepper.specs.Account.{lanes_in}
use Rattle.account.specs.Standing.{place_of, Stands}
use Rattle.account.specs.Told.{IsQuietTo}
use Rattle.account.proofs.going.Going.give.Given as goal

abbrev pub invariant-loop-place : goal.invariant-loop-place
invariant-loop-place l = record {
  stands : Stands l.script l.tick l.self;
  phase : l.self.phase ≡ phases.Giving l.place;
  letters : l.self.letters ≡ l.fn.self.letters;
  quiet : IsQuietTo l.script (record { tick = l.tick; place = place_of l.fn.self }) (record { tick = l.tick; place = place_of l.self });
  still : lanes_in (place_of l.self) ≡ lanes_in (place_of l.fn.self);
}
