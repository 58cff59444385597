-- What a move leaves in its lane: the source that it attached, and the ids that an iteration selected.
use Rattle.std.specs.Prelude.{◌≡◌, ◌<◌, ℕ, max, length, nat_lt, Option, Some, None, List, [], ◌∷◌, map, option_map, slice_get, if◌then◌else◌}
use Rattle.loop_script.specs.declared.plan.Plan.{Plan}
use Rattle.loop_script.specs.declared.action.Action.{Action}
use Rattle.loop_script.specs.declared.action.Action.TheVariants as actions
use Rattle.loop_script.specs.declared.body.Body.{Body}
use Rattle.loop_script.specs.Parts.{actions_of}
use Rattle.loop_script.specs.declared.source.SourceSpec.{SourceSpec}
use Rattle.loop_script.specs.Units.{Tick, ContextNumber, Slot, SourceId}
use Rattle.source_rows.specs.Rows.{in_order}
use Rattle.context_core.specs.declared.context.Context.{Context}
use Rattle.lane_turn.specs.declared.line.Event.{Event}
use Rattle.lane_turn.specs.declared.line.Event.TheVariants as events
use Rattle.lane_turn.specs.declared.line.Invoked.TheVariants as invoked
use Rattle.lane_turn.specs.declared.line.Line.{Line}
use Rattle.lane_turn.specs.declared.slot.Place.{Place}
use Rattle.lane_turn.specs.Frames.{Frame, CallOf, IterOf, LoopOf}
use Rattle.lane_turn.specs.Lane.{Lane, context_at, is_own, place_at, next_place}
use Rattle.lane_turn.specs.Acted.{acted, can_bear}
use Rattle.account.specs.declared.moment.Deed.{Deed}
use Rattle.account.specs.declared.moment.Deed.TheVariants as deeds
use Rattle.account.specs.declared.moment.Moment.{Moment}

-- the first line that a move wrote, in the lane as it left it
abbrev pub first_line : Moment → Lane → Option Event
first_line moment lane = if nat_lt moment.from moment.to then option_map (λ (line : Line). line.event) (slice_get lane.trace moment.from) else None

-- the greatest id of some, or an earlier one that is greater: ids rise in the order in which sources are attached
abbrev pub newest : SourceId → List SourceId → SourceId
newest id [] = id
newest id (other ∷ ids) = newest (max id other) ids

-- the source of a context that was attached last, of those that it has
abbrev pub newest_of : ContextNumber → Option Context → Option Place
newest_of number None = None
newest_of number (Some context) = Some (record { context = number; id = newest 0 (map (λ r. r.id) (in_order context.rows.rows)) })

-- what an action attached: the source of the slot where it wrote nothing, and by an invoke that tells so the newest of the context
abbrev pub by_action : Option Event → Option Action → Lane → Option Place
by_action None (Some (actions.Attach context slot spec)) lane = place_at slot lane
by_action None (Some (actions.Child parent slot spec)) lane = place_at slot lane
by_action (Some (events.Invoke number invoked.Attached)) (Some (actions.Invoke context proc)) lane = newest_of context (context_at context lane)
by_action _ _ lane = None

-- what a letter attached, by its line
abbrev pub by_line : Option Event → Option Place
by_line (Some (events.Arrive context id)) = Some (record { context = context; id = id })
by_line _ = None

-- what a deed attached
abbrev pub by_deed : Plan → Option Event → Deed → Lane → Option Place
by_deed script event (deeds.Acted body place) lane = by_action event (slice_get (actions_of script body) place) lane
by_deed script event (deeds.Received letter sender) lane = by_line event
by_deed script event _ lane = None

-- the source that a move attached, by the lane as the move left it
abbrev pub attached_by : Plan → Moment → Lane → Option Place
attached_by script moment lane = by_deed script (first_line moment lane) moment.deed lane

-- the ids that the innermost iteration has left, where an iteration is innermost
abbrev pub ids_left : List Frame → Option (List SourceId)
ids_left [] = None
ids_left (CallOf call ∷ below) = None
ids_left (IterOf context ids asker ∷ below) = Some ids
ids_left (LoopOf number context ∷ below) = None

-- the ids that the innermost iteration has left, where the action is one that asks for it
abbrev pub asked_by : Option Action → List Frame → Option (List SourceId)
asked_by (Some (actions.Iterate context)) frames = ids_left frames
asked_by _ frames = None

-- the ids that an iteration which a move began has selected, by the lane as the move left it
abbrev pub selected_by : Plan → Deed → Lane → Option (List SourceId)
selected_by script (deeds.Acted body place) lane = asked_by (slice_get (actions_of script body) place) lane.frames
selected_by script (deeds.Iterated number context) lane = ids_left lane.frames
selected_by script _ lane = None

-- ---- before the move

-- the child that a source of a place gets: the next of its context, where the lane can give it one
abbrev pub child_below : Option Place → Lane → Option Place
child_below None lane = None
child_below (Some place) lane = if can_bear place lane then Some (next_place place.context lane) else None

-- the source that an action attaches in a lane, and names by a slot
abbrev pub attaches : Action → Lane → Option Place
attaches (actions.Attach context slot spec) lane = if is_own context lane then Some (next_place context lane) else None
attaches (actions.Child parent slot spec) lane = child_below (place_at parent lane) lane
attaches _ lane = None

-- a moment of an action that is taken in a lane
pub record IsActed (script : Plan) (tick : Tick) (action : Action) (lane : Lane) (moment : Moment) : Type 0 where
  pub body : Body
  pub place : ℕ
  pub deed : moment.deed ≡ deeds.Acted body place
  pub action_is : slice_get (actions_of script body) place ≡ Some action
  pub from : moment.from ≡ length lane.trace
  pub to : moment.to ≡ length (acted script tick action lane).trace

-- what is told of an attach is the source that it attaches in the lane before it
abbrev pub TellsAttach : Type 0
TellsAttach =
    (script : Plan) (tick : Tick) (context : ContextNumber) (slot : Slot) (spec : SourceSpec) (lane : Lane) (moment : Moment)
    → slot < length lane.slots → IsActed script tick (actions.Attach context slot spec) lane moment
    → attached_by script moment (acted script tick (actions.Attach context slot spec) lane) ≡ attaches (actions.Attach context slot spec) lane

-- so is what is told of a child
abbrev pub TellsChild : Type 0
TellsChild =
    (script : Plan) (tick : Tick) (parent slot : Slot) (spec : SourceSpec) (lane : Lane) (moment : Moment)
    → slot < length lane.slots → IsActed script tick (actions.Child parent slot spec) lane moment
    → attached_by script moment (acted script tick (actions.Child parent slot spec) lane) ≡ attaches (actions.Child parent slot spec) lane
