-- What is shown of the tasks of a lane.
use Rattle.std.specs.Prelude.{◌&&◌, Bool, false, nat_lt, Option, Some, None, List, [], ◌∷◌}
use Rattle.loop_script.specs.Units.{Tick, Microseconds}
use Rattle.task_steps.specs.declared.look.TaskShown.{TaskShown}
use Rattle.task_steps.specs.Shown.{WakesBy}
use Rattle.lane_watch.specs.Tasks.{Started, Tasks, first_seen, end_of_task}

-- a tick before another, where there is one
abbrev pub is_before : Tick → Option Tick → Bool
is_before tick None = false
is_before tick (Some from) = nat_lt from tick

-- whether a task has replied before a tick: it returns on cancel, and a poll before the tick saw it as cancelled
abbrev pub has_replied : Tick → List (Option Tick) → Started → Bool
has_replied tick came t = t.spec.return_on_cancel && is_before tick (first_seen came t)

-- what is shown of a task, without its wake
abbrev pub started_shown : Tasks → Started → TaskShown
started_shown tasks t = record { number = t.number; ctx = t.ctx; first = t.first; cancel = t.spec.cancel; replied = has_replied tasks.tick tasks.came t; wake = None }

-- each task has a wake, and its body does not end before it, as things stand
abbrev pub EndNoSooner : Microseconds → List (Option Tick) → List Started → List TaskShown → Type 0
EndNoSooner tick_us came [] [] = Unit {0}
EndNoSooner tick_us came [] (s ∷ ss) = ⊥
EndNoSooner tick_us came (t ∷ ts) [] = ⊥
EndNoSooner tick_us came (t ∷ ts) (s ∷ ss) = WakesBy (end_of_task tick_us came t).tick s.wake × EndNoSooner tick_us came ts ss
