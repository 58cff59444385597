use Rattle.std.proofs.Common.{◌≡◌, false}
use Rattle.lane_turn.specs.Tick.{lanes_at}
use Rattle.tick_stepper.specs.Account.{started}
use Rattle.account.specs.Told.{HasPassed}
use Rattle.account.proofs.account.Account.next.Given as goal

abbrev pub invariant-loop-tick : goal.invariant-loop-tick
invariant-loop-tick l = record {
  unspent : l.self.spent ≡ false;
  script : l.self.script ≡ l.fn.self.script;
  tick : l.self.tick ≡ l._tick;
  fresh : l._tick ≡ l.fn.self.script.ticks → l.self.place ≡ started (lanes_at l.fn.self.script l._tick);
  passed : HasPassed l.fn.self l.self;
}
