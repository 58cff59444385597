-- The lanes of a script after some of its ticks.
use Rattle.std.specs.Prelude.{Bool, List}
use Rattle.loop_script.specs.declared.plan.Plan.{Plan}
use Rattle.lane_turn.specs.Lane.{Lane}
use Rattle.loop_script.specs.Units.{Tick}

-- the script, its lanes by number, how many ticks were stepped, and whether memory was refused within one
pub record Steps : Type 0 where
  pub script : Plan
  pub lanes : List Lane
  pub tick : Tick
  pub spent : Bool
