-- What a lane is in the middle of.
use Rattle.std.specs.Prelude.{◌≡◌, ℕ, reverse, filter_map, ◌+◌, ◌<◌, Bool, false, Option, Some, None, List, [], ◌∷◌, map, drop, slice_get, count_by, ◌==◌, if◌then◌else◌, true}
use Rattle.lane_turn.specs.declared.layer.Asker.{Asker}
use Rattle.lane_turn.specs.declared.layer.Call.{Call}
use Rattle.lane_turn.specs.declared.layer.Origin.{Origin}
use Rattle.lane_turn.specs.declared.layer.Origin.TheVariants.{Start, Source, Invoke}
use Rattle.lane_turn.specs.declared.layer.Top.{Top}
use Rattle.lane_turn.specs.declared.layer.Top.TheVariants as tops
use Rattle.loop_script.specs.Bounds.{count_end}
use Rattle.loop_script.specs.Units.{ContextNumber, LoopNumber, SourceId}

-- a call of an action list; an iteration with the ids left and who asked for it; a run of a loop,
-- with the loop's context
pub data Frame : Type 0 where
  CallOf : (call : Call) → Frame
  IterOf : (context : ContextNumber) (ids : List SourceId) (asker : Asker) → Frame
  LoopOf : (number : LoopNumber) (context : ContextNumber) → Frame

-- what the innermost frame takes next
abbrev pub top_of : List Frame → Top
top_of [] = tops.Nothing
top_of (CallOf call ∷ below) = tops.Call call
top_of (IterOf context ids asker ∷ below) = tops.Iteration context (slice_get ids 0) asker
top_of (LoopOf number context ∷ below) = tops.Loop number context

-- a frame that has taken its next action or id
abbrev pub advanced_one : Frame → Frame
advanced_one (CallOf call) = CallOf (record call { place = call.place + 1 })
advanced_one (IterOf context ids asker) = IterOf context (drop 1 ids) asker
advanced_one (LoopOf number context) = LoopOf number context

-- the frames when the innermost has taken its next action or id
abbrev pub advanced : List Frame → List Frame
advanced [] = []
advanced (frame ∷ below) = advanced_one frame ∷ below

-- a frame, which has no id left where it is an iteration of a context
abbrev pub emptied_one : ContextNumber → Frame → Frame
emptied_one context (CallOf call) = CallOf call
emptied_one context (IterOf c ids asker) = IterOf c (if c == context then [] else ids) asker
emptied_one context (LoopOf number c) = LoopOf number c

-- the frames when no iteration of a context has an id left
abbrev pub emptied : ContextNumber → List Frame → List Frame
emptied context frames = map (emptied_one context) frames

-- whether a call is a dispatch, by where it came from
abbrev pub is_source : Origin → Bool
is_source Start = false
is_source (Source caller) = true
is_source (Invoke acquired) = false

-- whether a frame is a dispatch
abbrev pub is_dispatch : Frame → Bool
is_dispatch (CallOf call) = is_source call.origin
is_dispatch (IterOf context ids asker) = false
is_dispatch (LoopOf number context) = false

-- whether a call is not that of the start list, by where it came from
abbrev pub is_dispatch_or_invoke : Origin → Bool
is_dispatch_or_invoke Start = false
is_dispatch_or_invoke (Source caller) = true
is_dispatch_or_invoke (Invoke acquired) = true

-- whether a frame is a call, but for that of the start list
abbrev pub is_call : Frame → Bool
is_call (CallOf call) = is_dispatch_or_invoke call.origin
is_call (IterOf context ids asker) = false
is_call (LoopOf number context) = false

-- how many calls are in progress, but for that of the start list
abbrev pub calls_in_progress : List Frame → ℕ
calls_in_progress frames = count_by is_call frames

-- how many dispatches are in progress
abbrev pub depth : List Frame → ℕ
depth frames = count_by is_dispatch frames

-- the source of a context that a call in progress blocks
abbrev pub blocked_by : ContextNumber → Origin → Option SourceId
blocked_by context Start = None
blocked_by context (Invoke acquired) = None
blocked_by context (Source caller) = if caller.recurse then None else if caller.context == context then Some caller.id else None

-- the source of a context that a frame blocks
abbrev pub blocked_in : ContextNumber → Frame → Option SourceId
blocked_in context (CallOf call) = blocked_by context call.origin
blocked_in context (IterOf c ids asker) = None
blocked_in context (LoopOf number c) = None

-- the sources of a context that calls in progress block, the outermost first
abbrev pub busy : ContextNumber → List Frame → List SourceId
busy context frames = reverse (filter_map (blocked_in context) frames)

-- whether a call is one of a direct invoke that acquired a context
abbrev pub is_acquired_by : ContextNumber → Origin → Bool
is_acquired_by context Start = false
is_acquired_by context (Source caller) = false
is_acquired_by context (Invoke None) = false
is_acquired_by context (Invoke (Some c)) = c == context

-- whether a frame owns a context: an iteration of it, a run of a loop of it, a call of a direct invoke that acquired it
abbrev pub owns : ContextNumber → Frame → Bool
owns context (CallOf call) = is_acquired_by context call.origin
owns context (IterOf c ids asker) = c == context
owns context (LoopOf number c) = c == context

-- the frames before and after a take, by what was taken: the innermost call or iteration has gone on by one, and what is below it stands
abbrev pub IsTaken : Top → List Frame → List Frame → Type 0
IsTaken tops.Nothing old new = new ≡ old
IsTaken (tops.Call call) old new = (call.place < count_end → new ≡ advanced old) × (drop 1 new ≡ drop 1 old)
IsTaken (tops.Iteration context next asker) old new = (new ≡ advanced old) × (drop 1 new ≡ drop 1 old)
IsTaken (tops.Loop number context) old new = new ≡ old
