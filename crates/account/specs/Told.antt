-- What is told of a run: its moves one after another, and what each of them does.
use Rattle.std.specs.Prelude.{◌≡◌, ◌≢◌, ℕ, zero, suc, ◌+◌, ◌-◌, Option, Some, None, is_some, List, [], ◌∷◌, length, slice_get, if◌then◌else◌}
use Rattle.std.specs.Option.{option_map_or, option_and_then}
use Rattle.loop_script.specs.declared.plan.Plan.{Plan}
use Rattle.loop_script.specs.declared.action.Action.{Action}
use Rattle.loop_script.specs.declared.body.Body.{Body}
use Rattle.loop_script.specs.Parts.{actions_of}
use Rattle.loop_script.specs.Units.{Tick, LaneNumber, ContextNumber, SourceId}
use Rattle.source_rows.specs.declared.row.Row.{Row}
use Rattle.lane_turn.specs.declared.layer.Top.{Top}
use Rattle.lane_turn.specs.declared.layer.Top.TheVariants as tops
use Rattle.lane_turn.specs.declared.line.Line.{Line}
use Rattle.lane_turn.specs.Lane.{Lane, Turn, is_running, row_of}
use Rattle.lane_turn.specs.Frames.{top_of}
use Rattle.lane_turn.specs.Step.{step}
use Rattle.lane_turn.specs.Traces.{Grows, IsOf}
use Rattle.lane_turn.specs.Handover.{Handing, handing_of}
use Rattle.tick_stepper.specs.Account.{Place, Turning, Giving, Bringing, started, moved, lanes_in}
use Rattle.account.specs.declared.moment.Deed.{Deed}
use Rattle.account.specs.declared.moment.Deed.TheVariants as deeds
use Rattle.account.specs.declared.moment.Moment.{Moment}
use Rattle.account.specs.declared.gift.Gift.{Gift}
use Rattle.account.specs.Gifts.{gift_of}
use Rattle.account.specs.Course.{Course}
use Rattle.account.specs.Within.{polled}

-- ---- what a step does

-- a call takes the action of its place, or returns
abbrev pub did_call : Body → ℕ → Option Action → Deed
did_call body place None = deeds.Returned body
did_call body place (Some action) = deeds.Acted body place

-- a source that is there is dispatched; an id whose source is not is passed over
abbrev pub did_id : ContextNumber → SourceId → Option Row → Deed
did_id context id None = deeds.PassedOver context id
did_id context id (Some row) = deeds.Dispatched context id

-- an iteration takes its next id, or ends
abbrev pub did_iteration : Lane → ContextNumber → Option SourceId → Deed
did_iteration lane context None = deeds.IterationEnded context
did_iteration lane context (Some id) = did_id context id (row_of context id lane)

-- what a step does, by what the innermost takes next
abbrev pub did_top : Plan → Lane → Top → Deed
did_top script lane tops.Nothing = deeds.Rests
did_top script lane (tops.Call call) = did_call call.body call.place (slice_get (actions_of script call.body) call.place)
did_top script lane (tops.Iteration context next asker) = did_iteration lane context next
did_top script lane (tops.Loop number context) = if is_running number lane then deeds.Iterated number context else deeds.LoopEnded number context

-- the next step of a turn whose tasks were polled; where there is none the turn is over
abbrev pub did_step : Plan → Tick → Turn → Deed
did_step script tick t = if is_some (step script tick t) then did_top script t.lane (top_of t.lane.frames) else deeds.Rests

-- ---- what a move does

-- whose move it is, and what it does
pub record Told : Type 0 where
  pub lane : LaneNumber
  pub deed : Deed

-- a context goes over, where the letter gives one and its lane hands it over
abbrev pub told_gift : Option Gift → Option Handing → Option Told
told_gift None handing = None
told_gift (Some gift) None = None
told_gift (Some gift) (Some handing) = Some (record { lane = gift.to; deed = deeds.HandedOver gift.context gift.from })

-- what is told of the next move. Nothing is of those that only lead on: when all turns are over, when a letter hands nothing over, when all
-- contexts went over, and when a lane has all letters
abbrev pub told : Plan → Tick → Place → Option Told
told script tick (Turning over (Some t) waiting posted) = Some (record { lane = length over; deed = did_step script tick t })
told script tick (Turning over None (lane ∷ waiting) posted) = Some (record { lane = length over; deed = deeds.Polled })
told script tick (Turning over None [] posted) = None
told script tick (Giving lanes (letter ∷ left) letters) = told_gift (gift_of letter) (handing_of letter lanes)
told script tick (Giving lanes [] letters) = None
told script tick (Bringing over (lane ∷ waiting) (letter ∷ left) letters) = Some (record { lane = length over; deed = deeds.Received (length letters - suc (length left)) letter.sender })
told script tick (Bringing over (lane ∷ waiting) [] letters) = None
told script tick (Bringing over [] left letters) = None

-- the place after a move that is told: a turn begins with the polls of its tasks, all at once
abbrev pub told_move : Plan → Tick → Place → Option Place
told_move script tick (Turning over None (lane ∷ waiting) posted) = Some (polled script tick (Turning over None (lane ∷ waiting) posted))
told_move script tick (Turning over None [] posted) = None
told_move script tick (Turning over (Some t) waiting posted) = moved script tick (Turning over (Some t) waiting posted)
told_move script tick (Giving lanes left letters) = moved script tick (Giving lanes left letters)
told_move script tick (Bringing over waiting left letters) = moved script tick (Bringing over waiting left letters)

-- ---- moves of which nothing is told

-- where a run is
pub record Spot : Type 0 where
  pub tick : Tick
  pub place : Place

-- where a run is after a move: the tick goes on, or where no move is left the next begins
abbrev pub goes_on : Tick → Place → Option Place → Spot
goes_on tick place (Some next) = record { tick = tick; place = next }
goes_on tick place None = record { tick = tick + 1; place = started (lanes_in place) }

-- the next move, where nothing is told of it
abbrev pub quiet_by : Plan → Tick → Place → Option Told → Option Spot
quiet_by script tick place (Some tells) = None
quiet_by script tick place None = Some (goes_on tick place (moved script tick place))

-- the same from where a run is
abbrev pub quiet : Plan → Spot → Option Spot
quiet script spot = quiet_by script spot.tick spot.place (told script spot.tick spot.place)

-- so many such moves
abbrev pub quiet_moves : Plan → ℕ → Spot → Option Spot
quiet_moves script zero spot = Some spot
quiet_moves script (suc n) spot = option_and_then (quiet script) (quiet_moves script n spot)

-- a run comes from one spot to another by moves of which nothing is told
pub record IsQuietTo (script : Plan) (from to : Spot) : Type 0 where
  pub moves : ℕ
  pub comes : quiet_moves script moves from ≡ Some to

-- ---- the lines of a move

-- the lines of the lane in a place; none where there is none
abbrev pub trace_at : LaneNumber → List Lane → List Line
trace_at number lanes = option_map_or (λ (lane : Lane). lane.trace) (slice_get lanes number) []

-- the lane in a place writes lines of the tick behind its others, and no other lane writes any
pub record GrowsAt (tick : Tick) (number : LaneNumber) (lanes now : List Lane) : Type 0 where
  pub lines : Grows (IsOf tick) (trace_at number lanes) (trace_at number now)
  pub others : (other : LaneNumber) → other ≢ number → trace_at other now ≡ trace_at other lanes

-- the lines of a moment are those of its lane's trace from one place to another
pub record TellsLines (moment : Moment) (lanes now : List Lane) : Type 0 where
  pub from : moment.from ≡ length (trace_at moment.lane lanes)
  pub to : moment.to ≡ length (trace_at moment.lane now)
  pub grows : GrowsAt moment.tick moment.lane lanes now

-- ---- a moment

-- a move that is told, by its moment
pub record IsMoment (script : Plan) (tick : Tick) (before now : Place) (moment : Moment) : Type 0 where
  pub goes : told_move script tick before ≡ Some now
  pub tells : told script tick before ≡ Some (record { lane = moment.lane; deed = moment.deed })
  pub when : moment.tick ≡ tick
  pub lines : TellsLines moment (lanes_in before) (lanes_in now)

-- a run comes from one place in a tick to another by moves of which nothing is told, and which change no lane, and then the one of a moment
pub record TellsNext (script : Plan) (tick : Tick) (before now : Place) (moment : Moment) : Type 0 where
  pub place : Place
  pub quiet : IsQuietTo script (record { tick = tick; place = before }) (record { tick = tick; place = place })
  pub lanes : lanes_in place ≡ lanes_in before
  pub is : IsMoment script tick place now moment

-- it comes to the end of the tick by such moves alone
pub record TellsNothing (script : Plan) (tick : Tick) (before now : Place) : Type 0 where
  pub quiet : IsQuietTo script (record { tick = tick; place = before }) (record { tick = tick; place = now })
  pub lanes : lanes_in now ≡ lanes_in before
  pub none : told script tick now ≡ None
  pub last : moved script tick now ≡ None

-- the spot of a run
abbrev pub spot_of : Course → Spot
spot_of course = record { tick = course.tick; place = course.place }

-- moves of which nothing is told, and which change no lane
pub record HasPassed (old new : Course) : Type 0 where
  pub quiet : IsQuietTo new.script (spot_of old) (spot_of new)
  pub lanes : lanes_in new.place ≡ lanes_in old.place

-- after such moves the run has made the one of the moment
pub record HasGone (old new : Course) (moment : Moment) : Type 0 where
  pub place : Place
  pub quiet : IsQuietTo new.script (spot_of old) (record { tick = new.tick; place = place })
  pub lanes : lanes_in place ≡ lanes_in old.place
  pub is : IsMoment new.script new.tick place new.place moment
