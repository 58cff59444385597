-- Lanes that are taken from a queue.
use Rattle.std.specs.Prelude.{◌≡◌, ℕ, ◌-◌, Result, Ok, List, [], ◌++◌, map, length}
use Rattle.std.specs.List.{AllByRecursion, flat_map}
use Rattle.loop_script.specs.declared.plan.Plan.{Plan}
use Rattle.post_office.specs.Passes.{WorkState, OfficeState}
use Rattle.lane_turn.specs.Lane.{State}
use Rattle.tick_stepper.specs.declared.fault.OutOfMemory.{OutOfMemory}
use Rattle.tick_stepper.specs.declared.work.Hired.{Hired}
use Rattle.tick_stepper.specs.declared.work.Haul.{Haul}
use Rattle.tick_stepper.specs.Share.{turned_one, out_of_one, IsReadyOne}
use Rattle.loop_script.specs.Units.{Tick}

-- a list into which these were put, and from which nothing was taken
abbrev pub filled : ℕ × ℕ → List State → WorkState State
filled home lanes = record { home = home; put = lanes; taken = []; recorded = []; out = 0 }

-- a worker with passes of this list and this office, with which it has taken and posted nothing
pub record IsHired (list office : ℕ × ℕ) (lanes : List State) (hired : Hired) : Type 0 where
  pub work : hired.work ≡ record { home = list; put = lanes; taken = [] }
  pub post : hired.post ≡ record { home = office; posted = [] }

-- such a worker, of a list whose lanes may all take their turns
pub record MayWork (script : Plan) (tick : Tick) (list office : ℕ × ℕ) (hired : Hired) : Type 0 where
  pub fresh : IsHired list office hired.work.put hired
  pub ready : AllByRecursion (IsReadyOne script tick) hired.work.put

-- what a worker hands back: its passes are of this list and office, its lanes are the turns of those that it took, and it posted what these send, in order
pub record IsHaul (script : Plan) (tick : Tick) (list office : ℕ × ℕ) (haul : Haul) : Type 0 where
  pub home : haul.work.home ≡ list
  pub desk : haul.post.home ≡ office
  pub turns : haul.lanes.items ≡ map (turned_one script tick) haul.work.taken
  pub letters : haul.post.posted ≡ flat_map (out_of_one script tick) haul.work.taken

-- what a worker hands back, with passes of this list and this office
pub record IsOf (list office : ℕ × ℕ) (haul : Haul) : Type 0 where
  pub home : haul.work.home ≡ list
  pub desk : haul.post.home ≡ office

-- no worker failed, their passes were taken back, and these are their lanes
pub record IsTakenIn (hauls : List (Result Haul OutOfMemory)) (list list' : WorkState State) (office office' : OfficeState) (lanes : List State) : Type 0 where
  pub each : List Haul
  pub all : hauls ≡ map Ok each
  pub taken : list' ≡ record list { recorded = list.recorded ++ map (λ haul. haul.work.taken) each; out = list.out - length each }
  pub posted : office' ≡ record office { recorded = office.recorded ++ map (λ haul. haul.post.posted) each; out = office.out - length each }
  pub back : lanes ≡ flat_map (λ haul. haul.lanes.items) each
