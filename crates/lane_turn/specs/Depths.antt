-- What a dispatch tells of its depth.
use Rattle.std.specs.Prelude.{◌≡◌, ℕ, ◌≤◌, Option, Some, None, List, length}
use Rattle.std.specs.List.{AllByRecursion, filter_map}
use Rattle.loop_script.specs.declared.plan.Plan.{Plan}
use Rattle.lane_turn.specs.declared.line.Event.{Event}
use Rattle.lane_turn.specs.declared.line.Event.TheVariants as events
use Rattle.lane_turn.specs.declared.layer.Caller.{Caller}
use Rattle.lane_turn.specs.declared.layer.Origin.{Origin}
use Rattle.lane_turn.specs.declared.layer.Origin.TheVariants.{Start, Source, Invoke}
use Rattle.lane_turn.specs.Frames.{Frame, CallOf, IterOf, LoopOf}
use Rattle.lane_turn.specs.Lane.{Turn}
use Rattle.lane_turn.specs.Step.{step}
use Rattle.lane_turn.specs.Tick.{lanes_at, lane_within}
use Rattle.lane_turn.specs.Traces.{Grows}
use Rattle.loop_script.specs.Units.{Tick}

-- the source that a call is the dispatch of
abbrev pub caller_of : Origin → Option Caller
caller_of Start = None
caller_of (Source caller) = Some caller
caller_of (Invoke acquired) = None

-- the source whose dispatch a frame is
abbrev pub caller_in : Frame → Option Caller
caller_in (CallOf call) = caller_of call.origin
caller_in (IterOf context ids asker) = None
caller_in (LoopOf number context) = None

-- the dispatches in progress, over all contexts, the innermost first
abbrev pub callers : List Frame → List Caller
callers frames = filter_map caller_in frames

-- the depth of a dispatch is 1 to 32
abbrev pub IsShallow : Event → Type 0
IsShallow (events.Dispatch context id priority depth) = (1 ≤ depth) × (depth ≤ 32)
IsShallow _ = Unit {0}

-- the depth of a dispatch is the number of dispatches in progress, this one among them
abbrev pub TellsDepth : List Frame → Event → Type 0
TellsDepth frames (events.Dispatch context id priority depth) = depth ≡ length (callers frames)
TellsDepth frames _ = Unit {0}

-- where a call of a dispatch or of an invoke came from; none of that of a start list
abbrev pub begun_of : Origin → Option Origin
begun_of Start = None
begun_of (Source caller) = Some (Source caller)
begun_of (Invoke acquired) = Some (Invoke acquired)

-- where a frame's call came from, but for the start list
abbrev pub begun_in : Frame → Option Origin
begun_in (CallOf call) = begun_of call.origin
begun_in (IterOf context ids asker) = None
begun_in (LoopOf number context) = None

-- where the calls in progress came from, the innermost first
abbrev pub begun_calls : List Frame → List Origin
begun_calls frames = filter_map begun_in frames

-- a lane halts at a depth only where 32 calls are in progress
abbrev pub HaltsOver : List Frame → Event → Type 0
HaltsOver frames events.HaltDepth = 32 ≤ length (begun_calls frames)
HaltsOver frames _ = Unit {0}

-- the depth of a dispatch is the number of dispatches in progress, and at most 32
pub record DepthsHold : Type 0 where
  -- a dispatch that a step begins tells how many dispatches are then in progress: 1 to 32
  pub steps : (script : Plan) (tick : Tick) (t u : Turn) → step script tick t ≡ Some u
      → Grows (λ line. TellsDepth u.lane.frames line.event × IsShallow line.event) t.lane.trace u.lane.trace
  -- where a lane halts at a depth, a call would be the 33rd
  pub halts : (script : Plan) (tick : Tick) (t u : Turn) → step script tick t ≡ Some u → Grows (λ line. HaltsOver t.lane.frames line.event) t.lane.trace u.lane.trace
  -- the depth of each dispatch in the traces of a run is 1 to 32, before and after each step
  pub run : (script : Plan) (tick : Tick) (steps : ℕ) → AllByRecursion (λ lane. AllByRecursion (λ line. IsShallow line.event) (lane_within script tick steps lane).trace) (lanes_at script tick)
