-- A lane, a turn of it, and their small changes.
use Rattle.std.specs.Prelude.{ℕ, Option, Some, None, Bool, true, false, List, [], ◌∷◌, ◌++◌, ◌&&◌, not, drop, slice_get, slice_set, unwrap_or, option_map, is_some, if◌then◌else◌}
use Rattle.loop_script.specs.declared.plan.Plan.{Plan}
use Rattle.source_rows.specs.declared.row.Row.{Row}
use Rattle.source_rows.specs.Rows.{RowSet, row_of as row_with}
use Rattle.context_core.specs.declared.context.Context.{Context}
use Rattle.context_core.specs.Defaults.{Defaults}
use Rattle.lane_turn.specs.declared.line.Line.{Line}
use Rattle.lane_turn.specs.declared.line.Event.{Event}
use Rattle.lane_turn.specs.declared.lane.Status.{Status}
use Rattle.lane_turn.specs.declared.layer.Asker.{Asker}
use Rattle.lane_turn.specs.declared.slot.Place.{Place}
use Rattle.lane_turn.specs.declared.slot.Named.{Named}
use Rattle.lane_turn.specs.declared.slot.Named.TheVariants.{Source, Handler}
use Rattle.cancel_view.specs.Seen.{Seen}
use Rattle.lane_turn.specs.Frames.{Frame, IterOf, advanced, emptied, busy}
use Rattle.context_core.specs.declared.standing.Standing.{Standing}
use Rattle.lane_turn.specs.Sources.{chosen_in, standings_in}
use Rattle.post_office.specs.declared.letter.Letter.{Letter}
use Rattle.lane_turn.specs.Replies.{Replies}
use Rattle.lane_watch.specs.Tasks.{Started, Tasks}
use Rattle.loop_script.specs.Units.{Tick, LaneNumber, ContextNumber, LoopNumber, CancellableNumber, Slot, SourceId, HandlerId}

-- a context on its way from lane to lane: its number, its sources, and the replies that these hold
pub record Kept : Type 0 where
  pub number : ContextNumber
  pub context : Context
  pub replies : Replies

-- a lane: its number; its contexts by number, where those of other lanes are none; which of them it gave in this tick; what its slots name; its view of
-- cancellations, with its handlers; its tasks; its frames with the innermost first; the loops that run; the stack of its
-- thread-default contexts; the replies that its sources hold, by context; what it wrote; and whether it goes on, has ended or is halted
pub record Lane : Type 0 where
  pub number : LaneNumber
  pub contexts : List (Option Context)
  pub given : List Bool
  pub slots : List (Option Named)
  pub view : Seen
  pub tasks : Tasks
  pub frames : List Frame
  pub running : List Bool
  pub defaults : Defaults
  pub replies : List Replies
  pub trace : List Line
  pub status : Status

-- a lane within a turn: the tasks that are still to be polled; how many actions and dispatches it may still count; whether a loop
-- began an iteration; how many letters it sent, and what its post holds
pub record Turn : Type 0 where
  pub lane : Lane
  pub unpolled : List Started
  pub left : ℕ
  pub iterated : Bool
  pub sent : ℕ
  pub posted : List Letter

-- a lane between calls, and whether it is spent: a call of it ran out of memory
pub record State : Type 0 where
  pub lane : Lane
  pub spent : Bool

-- a line at the end of the trace
abbrev pub written : Tick → Event → Lane → Lane
written tick event lane = record lane { trace = lane.trace ++ (record { tick = tick; event = event }) ∷ [] }

-- a frame begun in the innermost
abbrev pub pushed : Frame → Lane → Lane
pushed frame lane = record lane { frames = frame ∷ lane.frames }

-- the innermost frame ended
abbrev pub popped : Lane → Lane
popped lane = record lane { frames = drop 1 lane.frames }

-- the next action or id of the innermost frame taken
abbrev pub taken : Lane → Lane
taken lane = record lane { frames = advanced lane.frames }

-- a lane that takes no further step, with the status that says why
abbrev pub stopped : Status → Lane → Lane
stopped status lane = record lane { status = status }

-- a loop runs or does not
abbrev pub set_running : LoopNumber → Bool → Lane → Lane
set_running number runs lane = record lane { running = slice_set lane.running number runs }

-- whether a loop runs
abbrev pub is_running : LoopNumber → Lane → Bool
is_running number lane = unwrap_or (slice_get lane.running number) false

-- a context, where there is one
abbrev pub present : Option (Option Context) → Option Context
present None = None
present (Some context) = context

-- a context that the lane has, by its number, also one that it gave in this tick; none where it is another lane's
abbrev pub context_at : ContextNumber → Lane → Option Context
context_at context lane = present (slice_get lane.contexts context)

-- whether the lane gave a context in this tick
abbrev pub is_given : ContextNumber → Lane → Bool
is_given context lane = unwrap_or (slice_get lane.given context) false

-- whether a context is the lane's own: it has it, and did not give it
abbrev pub is_own : ContextNumber → Lane → Bool
is_own context lane = is_some (context_at context lane) && not (is_given context lane)

-- an edit of the sources of a context
abbrev pub with_rows : (RowSet → RowSet) → Context → Context
with_rows edit context = record context { rows = edit context.rows }

-- a change of a context of the lane; with another lane's nothing changes
abbrev pub with_context : ContextNumber → (Context → Context) → Lane → Lane
with_context context change lane = record lane { contexts = slice_set lane.contexts context (option_map change (context_at context lane)) }

-- an edit of the sources of a context of the lane
abbrev pub edited : ContextNumber → (RowSet → RowSet) → Lane → Lane
edited context edit lane = with_context context (with_rows edit) lane

-- the row of an id in a context
abbrev pub row_in : SourceId → Option Context → Option Row
row_in id None = None
row_in id (Some context) = row_with id context.rows.rows

-- the row of an id in a context of the lane
abbrev pub row_of : ContextNumber → SourceId → Lane → Option Row
row_of context id lane = row_in id (context_at context lane)

-- what a slot names
abbrev pub held : Option (Option Named) → Option Named
held None = None
held (Some thing) = thing

-- the source that is held, if it is one
abbrev pub source_of : Option Named → Option Place
source_of None = None
source_of (Some (Source place)) = Some place
source_of (Some (Handler id)) = None

-- the handler that is held, if it is one
abbrev pub handler_of : Option Named → Option HandlerId
handler_of None = None
handler_of (Some (Source place)) = None
handler_of (Some (Handler id)) = Some id

-- the source that a slot names
abbrev pub place_at : Slot → Lane → Option Place
place_at slot lane = source_of (held (slice_get lane.slots slot))

-- the handler that a slot names
abbrev pub handler_at : Slot → Lane → Option HandlerId
handler_at slot lane = handler_of (held (slice_get lane.slots slot))

-- the row of a source that a slot names: none where it is destroyed, or its context is not the lane's own
abbrev pub row_at : Place → Lane → Option Row
row_at place lane = if is_own place.context lane then row_of place.context place.id lane else None

-- the id of the next source of a context
abbrev pub next_id : Option Context → SourceId
next_id None = 0
next_id (Some context) = context.rows.next_id

-- the place of the next source of a context
abbrev pub next_place : ContextNumber → Lane → Place
next_place context lane = record { context = context; id = next_id (context_at context lane) }

-- a slot names something
abbrev pub set_slot : Slot → Named → Lane → Lane
set_slot slot thing lane = record lane { slots = slice_set lane.slots slot (Some thing) }

-- the lane with another view
abbrev pub viewing : Seen → Lane → Lane
viewing view lane = record lane { view = view }

-- a cancellable has come into the view in a tick
abbrev pub noting : Tick → CancellableNumber → Lane → Lane
noting tick c lane = record lane { tasks = record lane.tasks { came = slice_set lane.tasks.came c (Some tick) } }

-- the ids that an iteration of a context would dispatch at a tick
abbrev pub chosen : Plan → Tick → ContextNumber → Lane → List SourceId
chosen script tick context lane = chosen_in script tick lane.view (busy context lane.frames) (context_at context lane)

-- what an iteration of a context begun now would do with each of its sources, in the order of dispatch
abbrev pub standings : Plan → Tick → ContextNumber → Lane → List Standing
standings script tick context lane = standings_in script tick lane.view (busy context lane.frames) (context_at context lane)

-- whether there is an id
abbrev pub is_any : List ℕ → Bool
is_any [] = false
is_any (id ∷ ids) = true

-- an iteration begun in the innermost frame: the older ones of its context have no id left
abbrev pub iterating : Plan → Tick → ContextNumber → Asker → Lane → Lane
iterating script tick context asker lane = record lane { frames = IterOf context (chosen script tick context lane) asker ∷ emptied context lane.frames }
