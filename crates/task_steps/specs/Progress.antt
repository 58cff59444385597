-- How far a tree is by a tick, and what is known of its end.
use Rattle.std.specs.Prelude.{◌≡◌, ◌<◌, ◌≤◌, ◌-◌, ◌^◌, nat_le, Option, Some, None, if◌then◌else◌}
use Rattle.loop_script.specs.Units.{Tick, Microseconds}
use Rattle.loop_script.specs.Tree.{Tree}
use Rattle.loop_script.specs.declared.outcome.Outcome.{Outcome}
use Rattle.task_steps.specs.declared.progress.Progress.{Progress}
use Rattle.task_steps.specs.declared.progress.Progress.TheVariants.{Ended, Waits}
use Rattle.loop_script.specs.End.{end_of, ending, is_ok, seen}
use Rattle.task_steps.specs.Wake.{wait_of}

-- a tree that is begun in the tick f has its end by a tick, or waits on
abbrev pub IsProgress : Microseconds → Tree → Tick → Option Tick → Tick → Progress → Type 0
IsProgress tick_us tree f c tick (Ended at outcome) = (end_of tick_us tree f c ≡ ending at outcome) × (at ≤ tick)
IsProgress tick_us tree f c tick (Waits wake) = (tick < (end_of tick_us tree f c).tick) × (wake ≡ wait_of tick_us tree f c tick) × (tick < wake)

-- no poll up to a tick tells two cancellations apart
abbrev pub AgreeTo : Tick → Option Tick → Option Tick → Type 0
AgreeTo known c d = (tick : Tick) → tick ≤ known → seen c tick ≡ seen d tick

-- no poll from a tick on tells two cancellations apart
abbrev pub AgreeFrom : Tick → Option Tick → Option Tick → Type 0
AgreeFrom from c d = (tick : Tick) → from ≤ tick → seen c tick ≡ seen d tick

-- A tree that is begun in the tick f sleeps to a wake under each cancellation that may come: no end is before the wake, and it is the same
-- for the end in which of the ticks before it a cancellation came.
pub record SleepsTo (tick_us : Microseconds) (tree : Tree) (f : Tick) (may : Option Tick → Type 0) (wake : Tick) : Type 0 where
  pub ends : (c : Option Tick) → may c → wake ≤ (end_of tick_us tree f c).tick
  pub same : (c d : Option Tick) → may c → may d → AgreeFrom wake c d → end_of tick_us tree f c ≡ end_of tick_us tree f d

-- what is known of a tree where polls up to the tick `known` see what they see of c, whatever comes after it: its end, which is told up to a
-- tick, or a wake to which it sleeps
abbrev pub IsKnown : Microseconds → Tree → Tick → Option Tick → Tick → Tick → Progress → Type 0
IsKnown tick_us tree f c known tick (Ended at outcome) = ((d : Option Tick) → AgreeTo known c d → end_of tick_us tree f d ≡ ending at outcome) × (at ≤ tick)
IsKnown tick_us tree f c known tick (Waits wake) = (known < wake) × SleepsTo tick_us tree f (AgreeTo known c) wake

-- the tick in which it ended, if with ok
abbrev pub ok_at : Progress → Option Tick
ok_at (Ended at outcome) = if is_ok outcome then Some at else None
ok_at (Waits wake) = None

-- the outcome of an end that has come by a tick
abbrev pub come_by : Tick → Progress → Option Outcome
come_by tick (Ended at outcome) = if nat_le at tick then Some outcome else None
come_by tick (Waits wake) = None

-- the tick of its end, or of its wake
abbrev pub tick_of : Progress → Tick
tick_of (Ended at outcome) = at
tick_of (Waits wake) = wake

-- what a poll finds in a tick: an end, or a wake after the tick
abbrev pub IsPending : Tick → Progress → Type 0
IsPending tick (Ended at outcome) = Unit {0}
IsPending tick (Waits wake) = tick < wake

-- the last tick that a look asks for: later than any poll's
abbrev pub last_tick : Tick
last_tick = 2 ^ 32 - 1

-- so many ticks from any tick are beyond the last
abbrev pub beyond : Tick
beyond = 2 ^ 32

-- an end in a tick, or a wait beyond all ticks that there are
abbrev pub told : Tick → Outcome → Progress
told tick outcome = if nat_le tick last_tick then Ended tick outcome else Waits tick

-- it ends in this tick
abbrev pub EndsIn : Tick → Progress → Type 0
EndsIn tick (Ended at outcome) = at ≡ tick
EndsIn tick (Waits wake) = ⊥
