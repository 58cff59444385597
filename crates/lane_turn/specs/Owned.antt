-- Who owns a context, and what is done where it is owned or not.
use Rattle.std.specs.Prelude.{pos, ◌==◌, ◌||◌, Bool, true, false, Option, Some, None, nat_lt, unwrap_or, if◌then◌else◌}
use Rattle.std.specs.List.{list_any}
use Rattle.loop_script.specs.declared.source.SourceSpec.{SourceSpec}
use Rattle.loop_script.specs.declared.source.Kind.TheVariants.{Idle}
use Rattle.loop_script.specs.declared.body.Body.TheVariants.{Procedure}
use Rattle.source_rows.specs.Rows.{attached}
use Rattle.context_core.specs.declared.context.Context.{Context}
use Rattle.context_core.specs.Defaults.{acquired, released, is_acquired, top_of, is_on_top, is_pushed, pushed, popped}
use Rattle.post_office.specs.declared.letter.Body.{Body as Mail}
use Rattle.post_office.specs.declared.letter.Body.TheVariants.{Attach}
use Rattle.lane_turn.specs.declared.line.Event.TheVariants as events
use Rattle.lane_turn.specs.declared.line.Invoked.TheVariants.{Direct, Attached, Posted}
use Rattle.lane_turn.specs.declared.line.Word.TheVariants as words
use Rattle.lane_turn.specs.declared.layer.Origin.TheVariants.{Invoke}
use Rattle.lane_turn.specs.declared.lane.Status.TheVariants.{Halted}
use Rattle.lane_turn.specs.declared.owned.Grounds.{Grounds}
use Rattle.lane_turn.specs.Frames.{CallOf, owns, calls_in_progress}
use Rattle.lane_turn.specs.Lane.{Lane, written, pushed as begun, stopped, context_at, is_own, with_context, edited}
use Rattle.lane_turn.specs.Limits.{most_calls}
use Rattle.loop_script.specs.Units.{Tick, Microseconds, ContextNumber, ProcNumber}

-- the thread-default context: what was pushed last, else the first context of all
abbrev pub default_context : Lane → ContextNumber
default_context lane = unwrap_or (top_of lane.defaults) 0

-- a context of the lane is owned where it was acquired or pushed, or where a frame owns it
abbrev pub has_ground : ContextNumber → Option Context → Lane → Bool
has_ground context None lane = false
has_ground context (Some c) lane = is_acquired c || is_pushed context lane.defaults || list_any (owns context) lane.frames

-- whether the lane has a context and owns it
abbrev pub is_owned : ContextNumber → Lane → Bool
is_owned context lane = has_ground context (context_at context lane) lane

-- by what the lane owns one of its contexts
abbrev pub grounds_in : ContextNumber → Option Context → Lane → Option Grounds
grounds_in context None lane = None
grounds_in context (Some c) lane = Some (record { acquires = c.acquires; pushed = is_pushed context lane.defaults; in_progress = list_any (owns context) lane.frames })

-- the same by its number; none of another lane's
abbrev pub grounds : ContextNumber → Lane → Option Grounds
grounds context lane = grounds_in context (context_at context lane) lane

-- whether there is a ground of ownership
abbrev pub has_any : Option Grounds → Bool
has_any None = false
has_any (Some g) = nat_lt 0 g.acquires || g.pushed || g.in_progress

-- whether an acquire of a context is left, which can be released
abbrev pub may_release : Option Context → Bool
may_release None = false
may_release (Some context) = is_acquired context

-- a context becomes the thread-default one, where it is the lane's
abbrev pub push : Tick → ContextNumber → Lane → Lane
push tick context lane =
    if is_own context lane
    then record lane { defaults = pushed context lane.defaults }
    else written tick (events.Miss words.Push) lane

-- the context on top is popped, where it is this one
abbrev pub pop : Tick → ContextNumber → Lane → Lane
pop tick context lane =
    if is_on_top context lane.defaults
    then record lane { defaults = popped context lane.defaults }
    else written tick (events.Miss words.Pop) lane

-- the thread-default context is told
abbrev pub show_default : Tick → Lane → Lane
show_default tick lane = written tick (events.Default (default_context lane)) lane

-- a context is acquired, where it is the lane's
abbrev pub acquire : Tick → ContextNumber → Lane → Lane
acquire tick context lane =
    if is_own context lane
    then written tick (events.Acquire context true) (with_context context acquired lane)
    else written tick (events.Acquire context false) lane

-- a context is released, where an acquire of it is left
abbrev pub release : Tick → ContextNumber → Lane → Lane
release tick context lane =
    if may_release (context_at context lane) then with_context context released lane else written tick (events.Miss words.Release) lane

-- the source of a procedure that is invoked where it can't be called at once
abbrev pub invoke_spec : ProcNumber → SourceSpec
invoke_spec proc = record { kind = Idle; priority = pos 0; recurse = false; call = Some proc }

-- a procedure is called at once, with the context that is acquired until the call returns
abbrev pub calling : Tick → ContextNumber → ProcNumber → Option ContextNumber → Lane → Lane
calling tick context proc acquires lane =
    begun (CallOf (record { origin = Invoke acquires; body = Procedure proc; place = 0 })) (written tick (events.Invoke context Direct) lane)

-- the same where fewer than the most calls are in progress; else the lane is halted
abbrev pub called_at_once : Tick → ContextNumber → ProcNumber → Option ContextNumber → Lane → Lane
called_at_once tick context proc acquires lane =
    if nat_lt (calls_in_progress lane.frames) most_calls
    then calling tick context proc acquires lane
    else stopped Halted (written tick events.HaltDepth lane)

-- a context of the lane gets a source that calls a procedure
abbrev pub attaching : Tick → Microseconds → ContextNumber → ProcNumber → Lane → Lane
attaching tick now context proc lane = written tick (events.Invoke context Attached) (edited context (attached (invoke_spec proc) now) lane)

-- an invoke in a context of the lane: where it is owned, the procedure is called at once, and nothing is acquired; the thread-default context is
-- acquired until the call returns; any other gets a source
abbrev pub invoke_own : Tick → Microseconds → ContextNumber → ProcNumber → Lane → Lane
invoke_own tick now context proc lane =
    if is_owned context lane then called_at_once tick context proc None lane
    else if default_context lane == context then called_at_once tick context proc (Some context) lane
    else attaching tick now context proc lane

-- the invoke of a procedure: in a context of the lane, or posted to the lane that has it
abbrev pub invoke : Tick → Microseconds → ContextNumber → ProcNumber → Lane → Lane
invoke tick now context proc lane =
    if is_own context lane then invoke_own tick now context proc lane else written tick (events.Invoke context Posted) lane

-- what an invoke sends: to another lane's context the source
abbrev pub invoke_sends : ContextNumber → ProcNumber → Lane → Option Mail
invoke_sends context proc lane = if is_own context lane then None else Some (Attach context (invoke_spec proc))
