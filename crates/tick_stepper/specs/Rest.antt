-- Lanes that are left alone until their next turn.
use Rattle.std.specs.Prelude.{◌≡◌, ◌+◌, ◌<◌, ◌≤◌, ◌++◌, Bool, false, nat_le, not, Option, Some, None, List, map, IsPermutation}
use Rattle.std.specs.List.{AllByRecursion, filter}
use Rattle.loop_script.specs.declared.plan.Plan.{Plan}
use Rattle.task_steps.specs.Run.{IsAfter}
use Rattle.lane_watch.specs.Watch.{GivesNothing}
use Rattle.lane_turn.specs.Lane.{Lane, State}
use Rattle.lane_turn.specs.Quiet.{at_tick, IsQuiet}
use Rattle.lane_turn.specs.Turn.{turned}
use Rattle.lane_turn.specs.Tick.{posted_at, lanes_at}
use Rattle.post_office.specs.declared.letter.Letter.{Letter}
use Rattle.tick_stepper.specs.declared.rest.Resting.{Resting}
use Rattle.tick_stepper.specs.Share.{unspent, unspent_all}
use Rattle.loop_script.specs.Units.{Tick}

-- the lane as it is at the beginning of a tick
abbrev pub lane_at : Tick → Resting → Lane
lane_at tick one = at_tick tick one.lane.lane

-- lanes brought to a tick
abbrev pub all_at : Tick → List Resting → List Lane
all_at tick ones = map (lane_at tick) ones

-- whether a next turn, where there is one, comes at a tick or before it
abbrev pub comes_by : Tick → Option Tick → Bool
comes_by tick None = false
comes_by tick (Some next) = nat_le next tick

-- whether a lane's turn comes at a tick
abbrev pub is_due : Tick → Resting → Bool
is_due tick one = comes_by tick one.next

-- the same lane, brought to a tick
abbrev pub woken : Tick → Resting → State
woken tick one = unspent (lane_at tick one)

-- the same of all
abbrev pub all_woken : Tick → List Resting → List State
all_woken tick ones = map (woken tick) ones

-- a lane whose tasks tell nothing from their last poll up to a tick
pub record HasPassed (tick : Tick) (one : Resting) : Type 0 where
  pub unspent : one.lane.spent ≡ false
  pub past : one.lane.lane.tasks.tick ≤ tick
  pub tasks : (k : Tick) → one.lane.lane.tasks.tick ≤ k → k < tick → GivesNothing k one.lane.lane.tasks

-- such a lane, whose turns from the tick on are quiet, up to its next one
pub record Rests (script : Plan) (tick : Tick) (one : Resting) : Type 0 where
  pub passed : HasPassed tick one
  pub quiet : (k : Tick) → tick ≤ k → k < script.ticks → IsAfter k one.next → IsQuiet script k one.lane.lane

-- lanes after a tick, that rest from the next one on
pub record IsSettled (script : Plan) (tick : Tick) (lanes : List State) (ones : List Resting) : Type 0 where
  pub same : map (λ one. one.lane) ones ≡ lanes
  pub rest : AllByRecursion (Rests script (tick + 1)) ones

-- the lanes of a run at a tick, each resting until its next turn
pub record AreAt (script : Plan) (tick : Tick) (ones : List Resting) : Type 0 where
  pub lanes : all_at tick ones ≡ lanes_at script tick
  pub rest : AllByRecursion (Rests script tick) ones

-- lanes are parted into those whose turn comes at a tick, brought to it, and those that rest
pub record IsParted (tick : Tick) (lanes : List Resting) (turning : List State) (others : List Resting) : Type 0 where
  pub due : turning ≡ all_woken tick (filter (is_due tick) lanes)
  pub resting : others ≡ filter (λ one. not (is_due tick one)) lanes

-- the lanes of a run after the turns of a tick: those that took theirs, what these posted, and those that rest
pub record AreTurned (script : Plan) (tick : Tick) (done : List State) (posted : List Letter) (resting : List Resting) : Type 0 where
  pub lanes : IsPermutation (unspent_all (map (turned script tick) (lanes_at script tick))) (done ++ all_woken (tick + 1) resting)
  pub letters : posted ≡ posted_at script tick (lanes_at script tick)
  pub rest : AllByRecursion (Rests script (tick + 1)) resting
