-- A run of a script on one thread, as far as it has come.
use Rattle.std.specs.Prelude.{Bool}
use Rattle.loop_script.specs.declared.plan.Plan.{Plan}
use Rattle.loop_script.specs.Units.{Tick}
use Rattle.tick_stepper.specs.Account.{Place}

-- the script, the tick in progress, where in it the run is, and whether memory was refused
pub record Course : Type 0 where
  pub script : Plan
  pub tick : Tick
  pub place : Place
  pub spent : Bool
