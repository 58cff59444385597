-- Turns in which a lane does nothing.
use Rattle.std.specs.Prelude.{◌≡◌, ℕ, ◌+◌, ◌<◌, ◌==◌, ◌&&◌, Bool, true, false, Option, []}
use Rattle.loop_script.specs.declared.plan.Plan.{Plan}
use Rattle.lane_watch.specs.Watch.{GivesNothing, at_tick as polled_at}
use Rattle.task_steps.specs.Run.{IsAfter}
use Rattle.lane_turn.specs.declared.layer.Top.{Top}
use Rattle.lane_turn.specs.declared.layer.Top.TheVariants as tops
use Rattle.lane_turn.specs.declared.lane.Status.TheVariants.{GoesOn}
use Rattle.lane_turn.specs.Frames.{Frame, CallOf, IterOf, LoopOf, top_of, emptied}
use Rattle.lane_turn.specs.Lane.{Lane, is_any, is_running, chosen}
use Rattle.lane_turn.specs.Turn.{turned, out_of}
use Rattle.loop_script.specs.Units.{Tick, ContextNumber}

-- the lane when its tasks are polled next at a tick
abbrev pub at_tick : Tick → Lane → Lane
at_tick tick lane = record lane { tasks = polled_at tick lane.tasks }

-- a turn at a tick, of a lane that was left alone until then: it writes nothing, sends nothing, and leaves the lane as it was; and no
-- task tells anything
pub record IsQuiet (script : Plan) (tick : Tick) (lane : Lane) : Type 0 where
  pub stays : turned script tick (at_tick tick lane) ≡ at_tick (tick + 1) lane
  pub letters : out_of script tick (at_tick tick lane) ≡ []
  pub tasks : GivesNothing tick lane.tasks

-- all turns after a tick are quiet, up to another, or to the end of the script
abbrev pub IsQuietUntil : Plan → Tick → Option ℕ → Lane → Type 0
IsQuietUntil script tick limit lane = (k : Tick) → tick < k → k < script.ticks → IsAfter k limit → IsQuiet script k lane

-- ---- what makes it so

-- whether a frame is an iteration of a context that has ids left
abbrev pub has_rest : ContextNumber → Frame → Bool
has_rest context (CallOf call) = false
has_rest context (IterOf c ids asker) = c == context && is_any ids
has_rest context (LoopOf number c) = false

-- the innermost frame is a run of a loop that goes on, whose iteration would select nothing, and drop no rest of an older one
abbrev pub IsIdleTop : Plan → Tick → Lane → Top → Type 0
IsIdleTop script tick lane tops.Nothing = Unit {0}
IsIdleTop script tick lane (tops.Call call) = ⊥
IsIdleTop script tick lane (tops.Iteration context next asker) = ⊥
IsIdleTop script tick lane (tops.Loop number context) =
    (is_running number lane ≡ true) × (chosen script tick context lane ≡ []) × (emptied context lane.frames ≡ lane.frames)

-- no step of a turn at a tick would do anything, once the tasks are polled
abbrev pub IsIdle : Plan → Tick → Lane → Type 0
IsIdle script tick lane = lane.status ≡ GoesOn → IsIdleTop script tick lane (top_of lane.frames)
