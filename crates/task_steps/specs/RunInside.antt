-- How a body stands between two calls.
use Rattle.std.specs.Prelude.{◌≡◌, ◌<◌, ◌≤◌, Option, Some, None}
use Rattle.loop_script.specs.Bounds.{longest_tick}
use Rattle.loop_script.specs.Units.{Tick, Microseconds}
use Rattle.loop_script.specs.Tree.{Tree}
use Rattle.task_steps.specs.declared.stage.Stage.{Stage}
use Rattle.task_steps.specs.declared.stage.Stage.TheVariants.{Fresh, Set, Polled, Done}
use Rattle.task_steps.specs.declared.progress.Progress.{Progress}
use Rattle.task_steps.specs.declared.progress.Progress.TheVariants.{Ended, Waits}
use Rattle.loop_script.specs.End.{end_of, ending}
use Rattle.task_steps.specs.Wake.{wait_of}
use Rattle.task_steps.specs.Progress.{SleepsTo, tick_of}
use Rattle.task_steps.specs.Run.{Run, MayCome, IsLater}

-- a tick that there may be is this one at the latest
abbrev pub IsBy : Tick → Option Tick → Type 0
IsBy tick None = Unit {0}
IsBy tick (Some from) = from ≤ tick

-- what was seen as not cancelled was seen before a tick
abbrev pub IsClearBefore : Tick → Option Tick → Type 0
IsClearBefore tick None = Unit {0}
IsClearBefore tick (Some last) = last < tick

-- the last tick that was set is the last one seen as not cancelled, or not before the first one seen as cancelled
abbrev pub IsKnownAt : Tick → Option Tick → Option Tick → Type 0
IsKnownAt tick clear None = clear ≡ Some tick
IsKnownAt tick clear (Some from) = (from ≤ tick) × IsClearBefore from clear

-- what was noted of a body, for whatever may come: its end, or a wake to which it sleeps
abbrev pub Holds : Microseconds → Tree → Tick → Option Tick → Option Tick → Progress → Type 0
Holds tick_us tree begun clear cancelled (Ended at outcome) = (c : Option Tick) → MayCome clear cancelled c → end_of tick_us tree begun c ≡ ending at outcome
Holds tick_us tree begun clear cancelled (Waits wake) = SleepsTo tick_us tree begun (MayCome clear cancelled) wake

-- the same of what was noted, where anything was
abbrev pub HoldsAny : Microseconds → Tree → Tick → Option Tick → Option Tick → Option Progress → Type 0
HoldsAny tick_us tree begun clear cancelled None = Unit {0}
HoldsAny tick_us tree begun clear cancelled (Some noted) = Holds tick_us tree begun clear cancelled noted

-- the tick of its end or wake, where anything was noted
abbrev pub wake_noted : Option Progress → Option Tick
wake_noted None = None
wake_noted (Some noted) = Some (tick_of noted)

-- how a body stands in each stage: it sleeps to the tick that is set, and what the last poll noted holds, where it noted anything
abbrev pub IsStanding : Microseconds → Tree → Option Tick → Option Tick → Stage → Option Progress → Type 0
IsStanding tick_us tree clear cancelled Fresh noted = (cancelled ≡ None) × (clear ≡ None) × (noted ≡ None)
IsStanding tick_us tree clear cancelled (Set begun tick) noted =
    IsKnownAt tick clear cancelled × (begun ≤ tick) × SleepsTo tick_us tree begun (MayCome clear cancelled) tick × HoldsAny tick_us tree begun clear cancelled noted
IsStanding tick_us tree clear cancelled (Polled begun tick) noted =
    IsKnownAt tick clear cancelled × (begun ≤ tick) × IsLater tick (wake_noted noted) × HoldsAny tick_us tree begun clear cancelled noted
IsStanding tick_us tree clear cancelled Done noted = Unit {0}

-- a tick is some time, and the body stands as its stage says
pub record IsHeld (tick_us : Microseconds) (tree : Tree) (clear cancelled : Option Tick) (stage : Stage) (noted : Option Progress) : Type 0 where
  pub some : 0 < tick_us
  pub short : tick_us ≤ longest_tick
  pub standing : IsStanding tick_us tree clear cancelled stage noted

-- the wake that is shown in a stage: that of a run that is pending after a poll
abbrev pub wake_in : Stage → Option Tick → Option Tick
wake_in Fresh wake = None
wake_in (Set begun tick) wake = None
wake_in (Polled begun tick) wake = wake
wake_in Done wake = None

-- what is shown of a body: its wake where it is pending after a poll
abbrev pub shown_run : Run → Run
shown_run b = record b { wake = wake_in b.stage b.wake }

-- ---- the least wait

-- a wake that is later than a tick is the least wait there
abbrev pub IsLeastAfter : Microseconds → Tree → Tick → Option Tick → Tick → Option Tick → Type 0
IsLeastAfter tick_us tree begun cancelled tick None = Unit {0}
IsLeastAfter tick_us tree begun cancelled tick (Some wake) = tick < wake → wake ≡ wait_of tick_us tree begun cancelled tick

-- the wake in a stage is the least wait: of one that is pending, and of one whose tick is set before it
abbrev pub keeps_least : Stage → Run → Type 0
keeps_least Fresh r = Unit {0}
keeps_least (Set begun tick) r = IsLeastAfter r.tick_us r.tree begun r.cancelled tick r.wake
keeps_least (Polled begun tick) r = r.wake ≡ Some (wait_of r.tick_us r.tree begun r.cancelled tick)
keeps_least Done r = Unit {0}

-- the wake of a body is the least wait, as one has it that looks no further than the tick of each poll
abbrev pub KeepsLeast : Run → Type 0
KeepsLeast r = keeps_least r.stage r
