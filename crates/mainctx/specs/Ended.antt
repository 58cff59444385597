-- What is kept of a run that has ended.
use Rattle.std.specs.Prelude.{◌≡◌, ℕ, length, false}
use Rattle.lane_turn.specs.Tick.{lanes_at}
use Rattle.tick_stepper.specs.Stepper.{Steps}

-- its lanes, so many, are those after its ticks
pub record HasEnded (steps : Steps) (lanes : ℕ) : Type 0 where
  pub over : steps.lanes ≡ lanes_at steps.script steps.script.ticks
  pub lasts : steps.spent ≡ false
  pub count : lanes ≡ length steps.script.lanes
