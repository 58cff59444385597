-- What a step may do to what is in progress, in the words of those who iterate.
use Rattle.std.specs.Prelude.{◌≡◌, ◌≢◌, ℕ, ◌<◌, ◌≤◌, Bool, true, false, Some, None, List, [], ◌∷◌, ◌++◌, ◌⊎◌, length, drop}
use Rattle.std.specs.List.{AllByRecursion}
use Rattle.loop_script.specs.declared.plan.Plan.{Plan}
use Rattle.source_rows.specs.declared.row.Row.{Row}
use Rattle.lane_turn.specs.declared.line.Line.{Line}
use Rattle.lane_turn.specs.declared.line.Event.TheVariants as events
use Rattle.lane_turn.specs.declared.lane.Status.TheVariants.{GoesOn}
use Rattle.lane_turn.specs.declared.layer.Origin.{Origin}
use Rattle.lane_turn.specs.declared.layer.Origin.TheVariants.{Start, Source, Invoke}
use Rattle.lane_turn.specs.Frames.{Frame, CallOf, IterOf, LoopOf}
use Rattle.lane_turn.specs.Depths.{callers, begun_calls}
use Rattle.lane_turn.specs.Lane.{Turn, row_of, chosen}
use Rattle.lane_turn.specs.Step.{step}
use Rattle.lane_turn.specs.declared.layer.Asker.{Asker}
use Rattle.lane_turn.specs.declared.layer.Asker.TheVariants as askers
use Rattle.loop_script.specs.Units.{Tick, ContextNumber, SourceId}

-- ids from some place on
abbrev pub IsRest : List SourceId → List SourceId → Type 0
IsRest left ids = (k : ℕ) × (left ≡ drop k ids)

-- a frame later on: the same call; the same iteration, which has no id left that it did not have; the same run of a loop
abbrev pub Later : Frame → Frame → Type 0
Later (CallOf call) (CallOf call') = (call'.origin ≡ call.origin) × (call'.body ≡ call.body)
Later (IterOf context ids asker) (IterOf context' left asker') = (context ≡ context') × IsRest left ids × (asker' ≡ asker)
Later (LoopOf number context) (LoopOf number' context') = (number' ≡ number) × (context' ≡ context)
Later (CallOf call) (IterOf context ids asker) = ⊥
Later (CallOf call) (LoopOf number context) = ⊥
Later (IterOf context ids asker) (CallOf call) = ⊥
Later (IterOf context ids asker) (LoopOf number context') = ⊥
Later (LoopOf number context) (CallOf call) = ⊥
Later (LoopOf number context) (IterOf context' ids asker) = ⊥

-- frames that are others further on, one by one
abbrev pub EachLater : List Frame → List Frame → Type 0
EachLater [] [] = Unit {0}
EachLater [] (g ∷ gs) = ⊥
EachLater (f ∷ fs) [] = ⊥
EachLater (f ∷ fs) (g ∷ gs) = Later f g × EachLater fs gs

-- an iteration of a context that has no id left
abbrev pub IsOver : ContextNumber → Frame → Type 0
IsOver context (CallOf call) = Unit {0}
IsOver context (IterOf c ids asker) = c ≡ context → ids ≡ []
IsOver context (LoopOf number c) = Unit {0}

-- an id is taken: it was the next one of the innermost iteration, of that context, which has the ids after it left
pub record Takes (context : ContextNumber) (id : SourceId) (before now : List Frame) : Type 0 where
  pub ids : List SourceId
  pub asker : Asker
  pub below : List Frame
  pub was : before ≡ IterOf context (id ∷ ids) asker ∷ below
  pub is : now ≡ IterOf context ids asker ∷ below

-- a source is dispatched by the innermost iteration, which takes its id
abbrev pub IsCalledBy : (before now : List Frame) → Origin → Type 0
IsCalledBy before now Start = ⊥
IsCalledBy before now (Source caller) = Takes caller.context caller.id before now
IsCalledBy before now (Invoke acquired) = Unit {0}

-- what an `iterate` that asked is told: whether anything was selected
abbrev pub TellsAny : List SourceId → Asker → Type 0
TellsAny ids askers.Loop = Unit {0}
TellsAny ids (askers.Iterate true) = ids ≢ []
TellsAny ids (askers.Iterate false) = ids ≡ []

-- what may be begun over frames that were those: a call, where fewer than 32 are in progress; an iteration, of what is selected
-- then, and no older one of its context has an id left; a loop
abbrev pub MayBegin : (selected : ContextNumber → List SourceId) (before now : List Frame) → Frame → Type 0
MayBegin selected before now (CallOf call) = (length (begun_calls before) < 32) × IsCalledBy before now call.origin
MayBegin selected before now (IterOf context ids asker) = AllByRecursion (IsOver context) now × (ids ≡ selected context) × TellsAny ids asker
MayBegin selected before now (LoopOf number context) = Unit {0}

-- what is innermost now was begun over frames that were those
abbrev pub Begun : (selected : ContextNumber → List SourceId) → List Frame → List Frame → Type 0
Begun selected frames [] = ⊥
Begun selected frames (f ∷ now) = EachLater frames now × MayBegin selected frames now f

-- the frames go on, or the innermost ends, or one is begun in it
abbrev pub FramesGoOn : (selected : ContextNumber → List SourceId) → List Frame → List Frame → Type 0
FramesGoOn selected frames now = EachLater frames now ⊎ (EachLater (drop 1 frames) now ⊎ Begun selected frames now)

-- what a step may do to what is in progress
pub record IterationsGoOn : Type 0 where
  -- no iteration ever has an id that it was not given when it began, which are the ids selected then; none has one left when a
  -- newer one of its context begins; what is dispatched is the next id of the innermost, which has it no more; no call begins
  -- over 32; and each call, iteration and run that goes on is the one that it was
  pub frames : (script : Plan) (tick : Tick) (t u : Turn) → step script tick t ≡ Some u → FramesGoOn (λ context. chosen script tick context t.lane) t.lane.frames u.lane.frames
  -- an iteration that has no id left ends, and an `iterate` that asked for it is told its answer
  pub answers : (script : Plan) (tick : Tick) (t u : Turn) (context : ContextNumber) (any : Bool) (below : List Frame) → t.unpolled ≡ [] → t.lane.status ≡ GoesOn → t.lane.frames ≡ IterOf context [] (askers.Iterate any) ∷ below
      → step script tick t ≡ Some u → (u.lane.frames ≡ below) × (u.lane.trace ≡ t.lane.trace ++ (record { tick = tick; event = events.Iterate context any }) ∷ [])
  -- the next id of the innermost iteration is dispatched, where the turn may count one more and fewer than 32 calls are in progress: the
  -- line shows the priority of that moment, and how many dispatches are then in progress
  pub dispatches : (script : Plan) (tick : Tick) (t u : Turn) (context : ContextNumber) (id : SourceId) (ids : List SourceId) (asker : Asker) (below : List Frame) (row : Row) → t.unpolled ≡ [] → t.lane.status ≡ GoesOn → t.lane.frames ≡ IterOf context (id ∷ ids) asker ∷ below
      → row_of context id t.lane ≡ Some row → 1 ≤ t.left → length (begun_calls t.lane.frames) < 32 → step script tick t ≡ Some u
      → (more : List Line) × (u.lane.trace ≡ t.lane.trace ++ (record { tick = tick; event = events.Dispatch context id row.priority (length (callers u.lane.frames)) }) ∷ more)
  -- one whose source is destroyed is passed over
  pub passes : (script : Plan) (tick : Tick) (t u : Turn) (context : ContextNumber) (id : SourceId) (ids : List SourceId) (asker : Asker) (below : List Frame) → t.unpolled ≡ [] → t.lane.status ≡ GoesOn → t.lane.frames ≡ IterOf context (id ∷ ids) asker ∷ below
      → row_of context id t.lane ≡ None → step script tick t ≡ Some u → (u.lane.frames ≡ IterOf context ids asker ∷ below) × (u.lane.trace ≡ t.lane.trace)
