-- How many actions and dispatches a turn takes.
use Rattle.std.specs.Prelude.{◌≡◌, ◌⊎◌, ◌+◌, ◌≤◌, Bool, false, Some, is_some, List, [], ◌∷◌, ◌++◌, length, slice_get}
use Rattle.loop_script.specs.declared.plan.Plan.{Plan}
use Rattle.loop_script.specs.declared.action.Action.{Action}
use Rattle.loop_script.specs.Parts.{actions_of}
use Rattle.loop_script.specs.Units.{Tick, ContextNumber, SourceId}
use Rattle.source_rows.specs.declared.row.Row.{Row}
use Rattle.lane_turn.specs.declared.layer.Asker.{Asker}
use Rattle.lane_turn.specs.declared.layer.Call.{Call}
use Rattle.lane_turn.specs.declared.line.Event.TheVariants as events
use Rattle.lane_watch.specs.Tasks.{Started}
use Rattle.lane_turn.specs.declared.lane.Status.{Status}
use Rattle.lane_turn.specs.declared.lane.Status.TheVariants.{GoesOn, Ended, Halted}
use Rattle.lane_turn.specs.Frames.{Frame, CallOf, IterOf, LoopOf}
use Rattle.lane_turn.specs.Lane.{Lane, Turn, row_of}
use Rattle.lane_turn.specs.Step.{step}
use Rattle.lane_turn.specs.Turn.{begun, turned, out_of}

-- the lane is halted with the line `halt steps`, and nothing else of it is changed
abbrev pub IsHaltedBySteps : Tick → Lane → Lane → Type 0
IsHaltedBySteps tick before now = now ≡ record before { status = Halted; trace = before.trace ++ (record { tick = tick; event = events.HaltSteps }) ∷ [] }

-- one is taken of those that the turn may still take; where none is left the lane is halted
abbrev pub TakesOne : Tick → Turn → Turn → Type 0
TakesOne tick before now = (now.left + 1 ≡ before.left) ⊎ ((before.left ≡ 0) × IsHaltedBySteps tick before.lane now.lane)

-- whether the innermost frame takes an action next, or dispatches a source that is there
abbrev pub is_counted_in : Plan → Lane → List Frame → Bool
is_counted_in script lane [] = false
is_counted_in script lane (CallOf call ∷ below) = is_some (slice_get (actions_of script call.body) call.place)
is_counted_in script lane (IterOf context [] asker ∷ below) = false
is_counted_in script lane (IterOf context (id ∷ ids) asker ∷ below) = is_some (row_of context id lane)
is_counted_in script lane (LoopOf number context ∷ below) = false

-- the same of a lane that goes on, once its tasks are polled
abbrev pub is_counted_by : Plan → Lane → (unpolled : List Started) → Status → Bool
is_counted_by script lane (task ∷ tasks) status = false
is_counted_by script lane [] GoesOn = is_counted_in script lane lane.frames
is_counted_by script lane [] Ended = false
is_counted_by script lane [] Halted = false

-- whether the next step of a turn is an action or a dispatch
abbrev pub is_counted : Plan → Turn → Bool
is_counted script t = is_counted_by script t.lane t.unpolled t.lane.status

-- a turn takes 10,000 actions and dispatches at most
pub record StepsAreLimited : Type 0 where
  -- so many it may take at its beginning
  pub first : (tick : Tick) (lane : Lane) → (begun tick lane).left ≡ 10000
  -- the next action of the innermost call takes one
  pub actions : (script : Plan) (tick : Tick) (t u : Turn) (call : Call) (action : Action) (below : List Frame) → t.unpolled ≡ [] → t.lane.status ≡ GoesOn → t.lane.frames ≡ CallOf call ∷ below
      → slice_get (actions_of script call.body) call.place ≡ Some action → step script tick t ≡ Some u → TakesOne tick t u
  -- so does the dispatch of the next id of the innermost iteration
  pub dispatches : (script : Plan) (tick : Tick) (t u : Turn) (context : ContextNumber) (id : SourceId) (ids : List SourceId) (asker : Asker) (below : List Frame) (row : Row) → t.unpolled ≡ [] → t.lane.status ≡ GoesOn
      → t.lane.frames ≡ IterOf context (id ∷ ids) asker ∷ below → row_of context id t.lane ≡ Some row → step script tick t ≡ Some u → TakesOne tick t u
  -- any other step takes none
  pub others : (script : Plan) (tick : Tick) (t u : Turn) → is_counted script t ≡ false → step script tick t ≡ Some u → u.left ≡ t.left
  -- so a turn starts 10,000 tasks at most
  pub tasks : (script : Plan) (tick : Tick) (lane : Lane) → (turned script tick lane).tasks.next ≤ lane.tasks.next + 10000
  -- and sends at most as many letters as it polls tasks, and 10,000
  pub letters : (script : Plan) (tick : Tick) (lane : Lane) → length (out_of script tick lane) ≤ length lane.tasks.started + 10000
  -- no step gives one back
  pub falls : (script : Plan) (tick : Tick) (t u : Turn) → step script tick t ≡ Some u → u.left ≤ t.left
