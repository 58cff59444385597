-- A task's run as its callers see it.
use Rattle.std.specs.Prelude.{◌≡◌, ◌<◌, ◌≤◌, Bool, true, false, nat_le, Option, Some, None, if◌then◌else◌}
use Rattle.loop_script.specs.Units.{Tick, Microseconds}
use Rattle.loop_script.specs.Tree.{Tree}
use Rattle.loop_script.specs.declared.outcome.Outcome.{Outcome}
use Rattle.task_steps.specs.declared.stage.Stage.{Stage}
use Rattle.task_steps.specs.declared.stage.Stage.TheVariants.{Fresh, Set, Polled, Done}
use Rattle.loop_script.specs.End.{End, end_of, seen}
use Rattle.task_steps.specs.Wake.{wait_of}

-- a tree, how long a tick is, the stage of its run, the last tick that was set as not cancelled, the first that was set as
-- cancelled, and the least tick at which a wait in progress ends
pub record Run : Type 0 where
  pub tree : Tree
  pub tick_us : Microseconds
  pub stage : Stage
  pub clear : Option Tick
  pub cancelled : Option Tick
  pub wake : Option Tick

-- no poll up to this tick sees the cancellable as cancelled, where there is such a tick
abbrev pub IsUnseenTo : Option Tick → Option Tick → Type 0
IsUnseenTo None c = Unit {0}
IsUnseenTo (Some last) c = (tick : Tick) → tick ≤ last → seen c tick ≡ false

-- polls from this tick on see the cancellable as cancelled, where there is such a tick
abbrev pub IsSeenFrom : Option Tick → Option Tick → Type 0
IsSeenFrom None c = Unit {0}
IsSeenFrom (Some from) c = (tick : Tick) → from ≤ tick → seen c tick ≡ true

-- the ticks in which a cancellable may have come, by what polls saw
abbrev pub MayCome : Option Tick → Option Tick → Option Tick → Type 0
MayCome clear cancelled c = IsUnseenTo clear c × IsSeenFrom cancelled c

-- the outcome of an end that has come
abbrev pub due : Tick → End → Option Outcome
due tick end = if nat_le end.tick tick then Some end.outcome else None

-- a tick is not past a limit, where there is one
abbrev pub IsUpTo : Tick → Option Tick → Type 0
IsUpTo tick None = Unit {0}
IsUpTo tick (Some limit) = tick ≤ limit

-- a tick is before a limit, where there is one
abbrev pub IsAfter : Tick → Option Tick → Type 0
IsAfter tick None = Unit {0}
IsAfter tick (Some limit) = tick < limit

-- a tick in which the run may be polled next: one later than the last, that passes over no wake
abbrev pub MaySet : Tick → Stage → Option Tick → Type 0
MaySet tick Fresh wake = Unit {0}
MaySet tick (Set begun at) wake = ⊥
MaySet tick (Polled begun at) wake = at < tick × IsUpTo tick wake
MaySet tick Done wake = ⊥

-- the stage at a tick
abbrev pub set_to : Tick → Stage → Stage
set_to tick Fresh = Set tick tick
set_to tick (Set begun at) = Set begun tick
set_to tick (Polled begun at) = Set begun tick
set_to tick Done = Done

-- from which tick on the cancellable was seen as cancelled, once a tick is set
abbrev pub seen_from : Tick → Bool → Option Tick → Option Tick
seen_from tick cancelled (Some from) = Some from
seen_from tick cancelled None = if cancelled then Some tick else None

-- up to which tick it was not seen so, once a tick is set
abbrev pub clear_to : Tick → Bool → Option Tick → Option Tick
clear_to tick cancelled clear = if cancelled then clear else Some tick

-- a flag that stays once set
abbrev pub StaysSet : Option Tick → Bool → Type 0
StaysSet None cancelled = Unit {0}
StaysSet (Some from) cancelled = cancelled ≡ true

-- a tick was set
abbrev pub IsSet : Stage → Type 0
IsSet Fresh = ⊥
IsSet (Set begun tick) = Unit {0}
IsSet (Polled begun tick) = ⊥
IsSet Done = ⊥

-- what a poll in a stage gives
abbrev pub IsAnswered : Stage → Run → Option Outcome → Type 0
IsAnswered Fresh r result = Unit {0}
IsAnswered (Set begun tick) r result =
    (c : Option Tick) → MayCome r.clear r.cancelled c
    → (result ≡ due tick (end_of r.tick_us r.tree begun c)) × (tick ≤ (end_of r.tick_us r.tree begun c).tick)
IsAnswered (Polled begun tick) r result = Unit {0}
IsAnswered Done r result = Unit {0}

-- a poll answers in the tick that was set what is due there, for whatever may come, and the end was not due before.
abbrev pub Answered : Run → Option Outcome → Type 0
Answered r result = IsAnswered r.stage r result

-- the stage after a poll
abbrev pub stage_after : Stage → Option Outcome → Stage
stage_after stage (Some outcome) = Done
stage_after Fresh None = Fresh
stage_after (Set begun tick) None = Polled begun tick
stage_after (Polled begun tick) None = Polled begun tick
stage_after Done None = Done

-- there is a wake, after a tick
abbrev pub IsLater : Tick → Option Tick → Type 0
IsLater tick None = ⊥
IsLater tick (Some wake) = tick < wake

-- a wake comes after the last poll
abbrev pub wakes_later : Stage → Option Tick → Type 0
wakes_later Fresh wake = Unit {0}
wakes_later (Set begun tick) wake = Unit {0}
wakes_later (Polled begun tick) wake = IsLater tick wake
wakes_later Done wake = wake ≡ None

-- a run that is pending after a poll has a wake, later than the tick, and one that is done has none
abbrev pub WakesLater : Run → Type 0
WakesLater r = wakes_later r.stage r.wake

-- no poll before the wake gives anything
abbrev pub none_before : Stage → Run → Tick → Type 0
none_before Fresh r wake = Unit {0}
none_before (Set begun tick) r wake = Unit {0}
none_before (Polled begun tick) r wake = (c : Option Tick) → MayCome r.clear r.cancelled c → wake ≤ (end_of r.tick_us r.tree begun c).tick
none_before Done r wake = Unit {0}

-- no end that may still come is before the wake
abbrev pub NoneBefore : Run → Option Tick → Type 0
NoneBefore r None = Unit {0}
NoneBefore r (Some wake) = none_before r.stage r wake

-- the wake in a stage: of a run that is pending the least tick at which a sleep or limit in progress ends, as far as polls saw
abbrev pub is_least : Stage → Run → Option Tick → Type 0
is_least Fresh r wake = wake ≡ None
is_least (Set begun tick) r wake = wake ≡ None
is_least (Polled begun tick) r wake = wake ≡ Some (wait_of r.tick_us r.tree begun r.cancelled tick)
is_least Done r wake = wake ≡ None

-- the wake is the least tick at which a sleep or limit in progress ends; one that is not pending after a poll has none
abbrev pub IsLeastWait : Run → Option Tick → Type 0
IsLeastWait r wake = is_least r.stage r wake

-- a later tick may stand for a poll that found a run pending: none but one that was not seen as cancelled, before its wake
abbrev pub MayPass : Tick → Option Tick → Option Tick → Stage → Type 0
MayPass tick cancelled wake Fresh = Unit {0}
MayPass tick cancelled wake (Set begun at) = Unit {0}
MayPass tick cancelled wake (Polled begun at) = (at ≤ tick) × IsLater tick wake × (cancelled ≡ None)
MayPass tick cancelled wake Done = Unit {0}

-- the stage once a tick has passed
abbrev pub stage_to : Tick → Stage → Stage
stage_to tick Fresh = Fresh
stage_to tick (Set begun at) = Set begun at
stage_to tick (Polled begun at) = Polled begun tick
stage_to tick Done = Done

-- up to which tick it was not seen as cancelled, once a tick has passed
abbrev pub clear_passed : Tick → Stage → Option Tick → Option Tick
clear_passed tick Fresh clear = clear
clear_passed tick (Set begun at) clear = clear
clear_passed tick (Polled begun at) clear = Some tick
clear_passed tick Done clear = clear
