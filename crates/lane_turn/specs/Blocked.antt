-- Which sources the calls in progress keep from being dispatched.
use Rattle.std.specs.Prelude.{◌≡◌, ℕ, true, Some, List}
use Rattle.std.specs.List.{AllByRecursion}
use Rattle.loop_script.specs.declared.plan.Plan.{Plan}
use Rattle.source_rows.specs.declared.row.Row.{Row}
use Rattle.lane_turn.specs.declared.line.Event.{Event}
use Rattle.lane_turn.specs.declared.line.Event.TheVariants as events
use Rattle.lane_turn.specs.Frames.{Frame}
use Rattle.lane_turn.specs.Lane.{Lane, Turn, row_of}
use Rattle.lane_turn.specs.Step.{step}
use Rattle.lane_turn.specs.Turn.{begun, finish}
use Rattle.lane_turn.specs.Tick.{lanes_at}
use Rattle.lane_turn.specs.Traces.{Grows}
use Rattle.lane_turn.specs.Depths.{callers}
use Rattle.loop_script.specs.Units.{Tick, ContextNumber, SourceId}

-- each call in progress of a source is of one that may recurse
abbrev pub MayRecur : List Frame → ContextNumber → SourceId → Type 0
MayRecur frames context id = AllByRecursion (λ caller. caller.context ≡ context → caller.id ≡ id → caller.recurse ≡ true) (callers frames)

-- so is each of a source and of those above it, whose ids are its lineage
abbrev pub IsFree : List Frame → ContextNumber → Row → Type 0
IsFree frames context row = AllByRecursion (MayRecur frames context) row.lineage

-- a dispatch is of a source that is there, and free
abbrev pub IsOfFree : Lane → Event → Type 0
IsOfFree lane (events.Dispatch context id priority depth) = (row : Row) × (row_of context id lane ≡ Some row) × IsFree lane.frames context row
IsOfFree lane _ = Unit {0}

-- a turn of a lane at a tick, after some steps
abbrev pub turn_within : Plan → (tick : Tick) (steps : ℕ) → Lane → Turn
turn_within script tick steps lane = finish script tick steps (begun tick lane)

-- each step of each lane of a run
abbrev pub OfEachStep : Plan → (Turn → Turn → Type 0) → Type 0
OfEachStep script P = (tick : Tick) (steps : ℕ) → AllByRecursion (λ lane. (u : Turn) → step script tick (turn_within script tick steps lane) ≡ Some u → P (turn_within script tick steps lane) u) (lanes_at script tick)

-- in a run no source is dispatched while it, or one above it, is in a call that may not recurse
abbrev pub BlockedWait : Type 0
BlockedWait = (script : Plan) → OfEachStep script (λ t u. Grows (λ line. IsOfFree t.lane line.event) t.lane.trace u.lane.trace)
