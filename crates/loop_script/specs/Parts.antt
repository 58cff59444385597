-- What a script tells a lane.
use Rattle.std.specs.Prelude.{ℕ, ◌+◌, ◌-◌, ◌*◌, Bool, true, false, List, [], ◌∷◌, Option, Some, None, slice_get, unwrap_or, nat_le, nat_lt, if◌then◌else◌}
use Rattle.loop_script.specs.declared.plan.Plan.{Plan}
use Rattle.loop_script.specs.declared.plan.Proc.{Proc}
use Rattle.loop_script.specs.declared.plan.LaneSpec.{LaneSpec}
use Rattle.loop_script.specs.Level.{bits_at, change_after}
use Rattle.loop_script.specs.Units.{Bits, ContextNumber, Descriptor, LaneNumber, LoopNumber, Microseconds, Tick}
use Rattle.loop_script.specs.declared.level.Level.{Level}
use Rattle.loop_script.specs.declared.action.Action.{Action}
use Rattle.loop_script.specs.declared.body.Body.{Body}
use Rattle.loop_script.specs.declared.body.Body.TheVariants.{Start, Procedure, Nothing}

-- the time at a tick, in microseconds
abbrev pub time_of : Plan → Tick → Microseconds
time_of script tick = tick * script.tick_us

-- the start list of a lane
abbrev pub start_of : Option LaneSpec → List Action
start_of (Some lane) = lane.start
start_of None = []

-- the list of a procedure
abbrev pub actions_of_proc : Option Proc → List Action
actions_of_proc (Some proc) = proc.actions
actions_of_proc None = []

-- the actions of a call
abbrev pub actions_of : Plan → Body → List Action
actions_of script (Start lane) = start_of (slice_get script.lanes lane)
actions_of script (Procedure proc) = actions_of_proc (slice_get script.procs proc)
actions_of script Nothing = []

-- the context of a loop
abbrev pub context_of : Plan → LoopNumber → ContextNumber
context_of script number = unwrap_or (slice_get script.loops number) 0

-- the levels of a descriptor; none for the number of none
abbrev pub levels_of : Plan → Descriptor → List Level
levels_of script fd = unwrap_or (slice_get script.fds fd) []

-- what a descriptor shows at a tick
abbrev pub level_of : Plan → Descriptor → Tick → Bits
level_of script fd tick = bits_at tick (levels_of script fd)

-- the tick after this one at which the list of a descriptor goes on
abbrev pub next_change_of : Plan → Descriptor → Tick → Option Tick
next_change_of script fd tick = change_after tick (levels_of script fd)

-- the lane that holds a context at first, contexts being numbered on over the lanes
abbrev pub home_in : LaneNumber → List LaneSpec → ContextNumber → LaneNumber
home_in number [] context = number
home_in number (lane ∷ lanes) context = if nat_lt context lane.contexts then number else home_in (number + 1) lanes (context - lane.contexts)

-- the lane that has a context at first
abbrev pub home_of : Plan → ContextNumber → LaneNumber
home_of script context = home_in 0 script.lanes context

-- whether a source stays after so many dispatches
abbrev pub is_kept : Option ℕ → ℕ → Bool
is_kept (Some keep) n = nat_le n keep
is_kept None n = true

-- whether a procedure keeps its source after the n-th dispatch
abbrev pub keeps : Option Proc → ℕ → Bool
keeps (Some proc) n = is_kept proc.keep n
keeps None n = false

-- whether a source stays after the n-th of its dispatches, where its call takes these actions
abbrev pub stays : Plan → Body → ℕ → Bool
stays script (Start lane) n = true
stays script (Procedure proc) n = keeps (slice_get script.procs proc) n
stays script Nothing n = true
