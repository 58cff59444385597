-- What an iteration is to dispatch, and in which order.
use Rattle.std.specs.Prelude.{◌≡◌, ◌≢◌, ℕ, ◌<◌, ◌≤◌, ◌==◌, true, Some, List, length, int_le}
use Rattle.std.specs.List.{AllByRecursion, list_any}
use Rattle.loop_script.specs.declared.plan.Plan.{Plan}
use Rattle.source_rows.specs.declared.row.Row.{Row}
use Rattle.source_rows.specs.Rows.{row_of, is_under}
use Rattle.source_rows.specs.Lists.{Pairs}
use Rattle.context_core.specs.declared.context.Context.{Context}
use Rattle.context_core.specs.Ready.{Own, is_ready}
use Rattle.lane_turn.specs.Frames.{Frame, CallOf, IterOf, LoopOf, busy}
use Rattle.lane_turn.specs.Sources.{own_ready_at}
use Rattle.lane_turn.specs.Lane.{context_at, chosen}
use Rattle.lane_turn.specs.Levels.{OfAllLanes}
use Rattle.lane_turn.specs.Tick.{lanes_at, lane_within}
use Rattle.loop_script.specs.Units.{Tick, Microseconds, ContextNumber, SourceId}

-- no source that is ready is more urgent: a smaller priority is
abbrev pub NoneMoreUrgent : Own → (busy : List SourceId) → List Row → Row → Type 0
NoneMoreUrgent context_at busy rows r = AllByRecursion (λ q. is_ready context_at busy rows q ≡ true → int_le r.priority q.priority ≡ true) rows

-- a ready source, and none that is ready is more urgent
abbrev pub IsUrgent : Own → (busy : List SourceId) → List Row → SourceId → Type 0
IsUrgent context_at busy rows id = (r : Row) × (row_of id rows ≡ Some r) × (is_ready context_at busy rows r ≡ true) × NoneMoreUrgent context_at busy rows r

-- each such source has its id among these
abbrev pub HasAllUrgent : Own → (busy : List SourceId) → List Row → (ids : List SourceId) → Type 0
HasAllUrgent context_at busy rows ids = AllByRecursion (λ r. is_ready context_at busy rows r ≡ true → NoneMoreUrgent context_at busy rows r → list_any (λ id. id == r.id) ids ≡ true) rows

-- of two sources, dispatched one before the other: they have one priority; of two roots, or two children of one parent, the first
-- has the smaller number, which each source gets when it is attached and when its priority is set; and the second is not under the first
pub record GoesBefore (rows : List Row) (first second : SourceId) : Type 0 where
  pub priority : (r q : Row) → row_of first rows ≡ Some r → row_of second rows ≡ Some q → r.priority ≡ q.priority
  pub number : (r q : Row) → row_of first rows ≡ Some r → row_of second rows ≡ Some q → r.parent ≡ q.parent → r.order < q.order
  pub lower : (r q : Row) → row_of first rows ≡ Some r → row_of second rows ≡ Some q → is_under first q ≡ true → ⊥

-- the ids of the most urgent ready sources, all of them and no other, each behind those under it, in the order of their numbers
pub record IsInOrder (context_at : Own) (busy : List SourceId) (rows : List Row) (ids : List SourceId) : Type 0 where
  pub urgent : AllByRecursion (IsUrgent context_at busy rows) ids
  pub whole : HasAllUrgent context_at busy rows ids
  pub order : Pairs (GoesBefore rows) ids

-- no id twice
abbrev pub AreOnce : List SourceId → Type 0
AreOnce ids = Pairs (λ i j. i ≢ j) ids

-- no iteration in progress has an id twice
abbrev pub HasEachOnce : Frame → Type 0
HasEachOnce (CallOf call) = Unit {0}
HasEachOnce (IterOf context ids asker) = AreOnce ids
HasEachOnce (LoopOf number context) = Unit {0}

-- an iteration dispatches no id twice, and what it dispatches are the most urgent ready sources, by their numbers, each behind those under it
pub record IterationsHaveOrder : Type 0 where
  -- in a run no iteration in progress has an id twice: and a dispatch takes its id, by the law on iterations, so none dispatches
  -- an id twice
  pub once : (script : Plan) (tick : Tick) (steps : ℕ) → AllByRecursion (λ lane. AllByRecursion HasEachOnce (lane_within script tick steps lane).frames) (lanes_at script tick)
  -- what an iteration of a context would dispatch at a tick, before and after each step of a run, stands in the order of its numbers
  pub order : (script : Plan) → length script.lanes ≤ 64
      → OfAllLanes script (λ lane. (now : Microseconds) (context : ContextNumber) (c : Context) → context_at context lane ≡ Some c → IsInOrder (own_ready_at script now lane.view) (busy context lane.frames) c.rows.rows (chosen script now context lane))
