-- Where a source is after a call of it.
use Rattle.std.specs.Prelude.{◌≡◌, ℕ, ◌+◌, ◌≤◌, ◌==◌, ◌&&◌, Bool, true, false, ◌↔◌, Option, Some, None, List, [], ◌∷◌, ◌++◌, length, count_by, is_some, slice_get, if◌then◌else◌}
use Rattle.std.specs.List.{AllByRecursion, flat_map}
use Rattle.loop_script.specs.declared.plan.Plan.{Plan}
use Rattle.loop_script.specs.declared.plan.Proc.{Proc}
use Rattle.loop_script.specs.declared.body.Body.{Body}
use Rattle.loop_script.specs.declared.body.Body.TheVariants.{Start, Procedure, Nothing}
use Rattle.loop_script.specs.Parts.{actions_of}
use Rattle.source_rows.specs.declared.row.Row.{Row}
use Rattle.lane_turn.specs.declared.line.Line.{Line}
use Rattle.lane_turn.specs.declared.line.Event.{Event}
use Rattle.lane_turn.specs.declared.line.Event.TheVariants as events
use Rattle.lane_turn.specs.declared.lane.Status.TheVariants.{GoesOn}
use Rattle.lane_turn.specs.declared.layer.Caller.{Caller}
use Rattle.lane_turn.specs.declared.layer.Origin.TheVariants.{Source}
use Rattle.lane_turn.specs.Frames.{Frame, CallOf}
use Rattle.lane_turn.specs.Lane.{Lane, Turn, row_of}
use Rattle.lane_turn.specs.Step.{step}
use Rattle.lane_turn.specs.Tick.{lanes_at}
use Rattle.lane_turn.specs.Replies.{reply_held}
use Rattle.lane_turn.specs.Traces.{Grows}
use Rattle.lane_turn.specs.Blocked.{turn_within}
use Rattle.loop_script.specs.Units.{Tick, LaneNumber, ContextNumber, ProcNumber, SourceId}

-- a source that is there
abbrev pub IsThere : ContextNumber → SourceId → Lane → Type 0
IsThere context id lane = is_some (row_of context id lane) ≡ true

-- what `keep` says of a source after its n-th dispatch: it stays where n is at most `keep`, and always where that is null
abbrev pub StaysTo : Option ℕ → ℕ → Type 0
StaysTo None n = Unit {0}
StaysTo (Some keep) n = n ≤ keep

-- the same of a procedure; where there is none no source stays
abbrev pub StaysBy : Option Proc → ℕ → Type 0
StaysBy None n = ⊥
StaysBy (Some proc) n = StaysTo proc.keep n

-- by what it called, a source stays after its n-th dispatch: by the `keep` of a procedure; a dummy, which calls nothing, always
abbrev pub Stays : Plan → Body → ℕ → Type 0
Stays script (Procedure proc) n = StaysBy (slice_get script.procs proc) n
Stays script Nothing n = Unit {0}
Stays script (Start lane) n = Unit {0}

-- a turn in which a call of a source is innermost and has no action left
pub record IsAtEnd (script : Plan) (caller : Caller) (body : Body) (t : Turn) : Type 0 where
  pub place : ℕ
  pub below : List Frame
  pub polled : t.unpolled ≡ []
  pub goes : t.lane.status ≡ GoesOn
  pub frames : t.lane.frames ≡ CallOf (record { origin = Source caller; body = body; place = place }) ∷ below
  pub over : slice_get (actions_of script body) place ≡ None

-- whether a line tells a dispatch of a source
abbrev pub is_dispatch_of : ContextNumber → SourceId → Event → Bool
is_dispatch_of context id (events.Dispatch c i priority depth) = (c == context) && (i == id)
is_dispatch_of context id _ = false

-- how many dispatches of a source lines tell
abbrev pub dispatches : ContextNumber → SourceId → List Line → ℕ
dispatches context id lines = count_by (λ line. is_dispatch_of context id line.event) lines

-- a source calls its procedure; a dummy calls nothing
abbrev pub Calls : Option ProcNumber → Body → Type 0
Calls None body = body ≡ Nothing
Calls (Some proc) body = body ≡ Procedure proc

-- a source's dispatch began: its call is the innermost now, and knows which dispatch of the source it is, by the lines of others and its
-- lane's, whether the source may recurse, and whether it held a reply; its line is one
pub record IsBegun (context : ContextNumber) (id : SourceId) (others : List Line) (before now : Lane) : Type 0 where
  pub row : Row
  pub there : row_of context id before ≡ Some row
  pub caller : Caller
  pub body : Body
  pub below : List Frame
  pub frames : now.frames ≡ CallOf (record { origin = Source caller; body = body; place = 0 }) ∷ below
  pub same_context : caller.context ≡ context
  pub same_id : caller.id ≡ id
  pub calls : Calls row.call body
  pub number : caller.number ≡ dispatches context id (others ++ now.trace)
  pub line : dispatches context id now.trace ≡ dispatches context id before.trace + 1
  pub recurse : caller.recurse ≡ row.recurse
  pub once : caller.once ≡ is_some (reply_held context id before.replies)

-- what a line of a dispatch tells has begun
abbrev pub Begins : (others : List Line) (before now : Lane) → Event → Type 0
Begins others before now (events.Dispatch context id priority depth) = IsBegun context id others before now
Begins others before now _ = Unit {0}

-- the lines of lanes but of one, by its number
abbrev pub lines_but : LaneNumber → List Lane → List Line
lines_but number lanes = flat_map (λ lane. if lane.number == number then [] else lane.trace) lanes

-- after its n-th dispatch a source that is not destroyed by then is there exactly where `keep` says so, and it held no reply
pub record SourcesStay : Type 0 where
  -- in a run each dispatch begins a call of that source, and the n-th a call that knows that it is the n-th, whichever lanes had its context before
  pub begins : (script : Plan) (tick : Tick) (steps : ℕ) → AllByRecursion (λ lane. (u : Turn) → step script tick (turn_within script tick steps lane) ≡ Some u
      → Grows (λ line. Begins (lines_but lane.number (lanes_at script tick)) (turn_within script tick steps lane).lane u.lane line.event) (turn_within script tick steps lane).lane.trace u.lane.trace) (lanes_at script tick)
  -- when the call of a source's n-th dispatch ends, the source is there exactly where it was not destroyed before, it was no
  -- reply's, and `keep` lets it stay
  pub ends : (script : Plan) → length script.lanes ≤ 64 → (tick : Tick) (steps : ℕ) → tick ≤ 4096
      → AllByRecursion (λ lane. (caller : Caller) (body : Body) (u : Turn) → IsAtEnd script caller body (turn_within script tick steps lane) → step script tick (turn_within script tick steps lane) ≡ Some u
      → (IsThere caller.context caller.id u.lane ↔ (IsThere caller.context caller.id (turn_within script tick steps lane).lane × (caller.once ≡ false) × Stays script body caller.number))) (lanes_at script tick)
