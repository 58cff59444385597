-- The tasks of a lane, and what a poll of one gives.
use Rattle.std.specs.Prelude.{ℕ, ◌+◌, ◌==◌, Bool, not, max, Option, Some, None, List, slice_get, option_map}
use Rattle.loop_script.specs.declared.task.TaskSpec.{TaskSpec}
use Rattle.loop_script.specs.declared.outcome.Outcome.{Outcome}
use Rattle.task_steps.specs.declared.entry.Reply.{Reply}
use Rattle.loop_script.specs.End.{End, end_of}
use Rattle.task_steps.specs.Task.{reply_in, is_late_in}
use Rattle.loop_script.specs.Units.{Tick, Microseconds, ContextNumber, CancellableNumber}

-- a task whose end has not come: its number, what the script says of it, the context that its reply goes to, and the tick of
-- its first poll
pub record Started : Type 0 where
  pub number : ℕ
  pub spec : TaskSpec
  pub ctx : ContextNumber
  pub first : Tick

-- the tasks of a lane in start order, and the number of the next; how long a tick is; for each cancellable the tick in which it
-- came into the lane's view; and the tick in which the tasks are polled next
pub record Tasks : Type 0 where
  pub started : List Started
  pub next : ℕ
  pub tick_us : Microseconds
  pub came : List (Option Tick)
  pub tick : Tick

-- one option in place of two
abbrev pub flat : {A : Type 0} → Option (Option A) → Option A
flat None = None
flat (Some thing) = thing

-- the tick in which a task's cancellable came into the view
abbrev pub came_in : List (Option Tick) → Option CancellableNumber → Option Tick
came_in came None = None
came_in came (Some c) = flat (slice_get came c)

-- the first poll that sees a task's cancellable as cancelled
abbrev pub first_seen : List (Option Tick) → Started → Option Tick
first_seen came t = option_map (λ tick. max t.first (tick + 1)) (came_in came t.spec.cancel)

-- when a task ends, and how
abbrev pub end_of_task : Microseconds → List (Option Tick) → Started → End
end_of_task tick_us came t = end_of tick_us t.spec.tree t.first (first_seen came t)

-- the reply of a task
abbrev pub reply_of : Started → Outcome → Reply
reply_of t outcome = record { task = t.number; ctx = t.ctx; outcome = outcome; call = t.spec.call; priority = t.spec.priority; cancel = t.spec.cancel; check = t.spec.check }

-- the reply that the poll of a task at a tick gives
abbrev pub reply_at : Tick → Tasks → Started → Option Reply
reply_at tick tasks t =
    option_map (reply_of t) (reply_in tick t.spec.return_on_cancel (first_seen tasks.came t) (end_of_task tasks.tick_us tasks.came t))

-- whether the body of a task ends at a tick after its reply or with it
abbrev pub is_late_at : Tick → Tasks → Started → Bool
is_late_at tick tasks t = is_late_in tick t.spec.return_on_cancel (first_seen tasks.came t) (end_of_task tasks.tick_us tasks.came t)

-- whether a task goes on after its poll at a tick
abbrev pub stays_at : Tick → Tasks → Started → Bool
stays_at tick tasks t = not ((end_of_task tasks.tick_us tasks.came t).tick == tick)
