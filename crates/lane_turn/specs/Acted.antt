-- What each action does, to a lane whose innermost call has taken the action already.
use Rattle.std.specs.Prelude.{List, [], ◌∷◌, ℤ, Bool, true, false, Option, Some, None, ◌&&◌, is_some, is_none, if◌then◌else◌}
use Rattle.loop_script.specs.declared.action.Action.{Action}
use Rattle.loop_script.specs.declared.action.Action.TheVariants.{Attach, Child, Destroy, SetReady, SetPriority, Iterate, Pending, Run, Quit, Cancel, Connect, Disconnect, Task, Push, Pop, ShowDefault, Acquire, Release, Invoke, Give, Log}
use Rattle.loop_script.specs.declared.plan.Plan.{Plan}
use Rattle.loop_script.specs.declared.source.SourceSpec.{SourceSpec}
use Rattle.loop_script.specs.declared.task.TaskSpec.{TaskSpec}
use Rattle.loop_script.specs.Parts.{time_of, context_of, actions_of}
use Rattle.lane_turn.specs.declared.layer.Asker.TheVariants as askers
use Rattle.lane_turn.specs.declared.line.Event.TheVariants as events
use Rattle.lane_turn.specs.declared.line.Word.{Word}
use Rattle.lane_turn.specs.declared.line.Word.TheVariants as words
use Rattle.lane_turn.specs.declared.slot.Place.{Place}
use Rattle.lane_turn.specs.declared.slot.Named.TheVariants.{Source, Handler}
use Rattle.cancel_view.specs.declared.handler.Fired.{Fired}
use Rattle.cancel_view.specs.Seen.{has, fired, cancelled, connected, may_disconnect, without}
use Rattle.loop_script.specs.declared.body.Body.TheVariants.{Procedure}
use Rattle.source_rows.specs.Rows.{RowSet, attached, child_added, child_fault, destroyed, ready_set, reprioritised, priority_fault, row_of as row_with}
use Rattle.context_core.specs.declared.context.Context.{Context}
use Rattle.lane_turn.specs.Frames.{LoopOf}
use Rattle.lane_turn.specs.Owned.{default_context, push, pop, show_default, acquire, release, invoke, invoke_sends}
use Rattle.lane_turn.specs.Handover.{give, give_sends}
use Rattle.post_office.specs.declared.letter.Body.{Body as Mail}
use Rattle.post_office.specs.declared.letter.Body.TheVariants as mails
use Rattle.lane_watch.specs.Watch.{starting}
use Rattle.lane_turn.specs.Lane.{Lane, written, pushed, set_running, context_at, is_own, edited, place_at, handler_at, row_at, next_place, set_slot, viewing, noting, chosen, is_any, iterating}
use Rattle.loop_script.specs.Units.{Tick, Microseconds, ContextNumber, LoopNumber, CancellableNumber, ProcNumber, Slot, SourceId, HandlerId, Priority}

-- the line of an action that found nothing to act on
abbrev pub missed : Tick → Word → Lane → Lane
missed tick word lane = written tick (events.Miss word) lane

-- a context gets a source, which a slot names; a miss where the context is not the lane's own
abbrev pub attach : Tick → Microseconds → ContextNumber → Slot → SourceSpec → Lane → Lane
attach tick now context slot spec lane =
    if is_own context lane
    then set_slot slot (Source (next_place context lane)) (edited context (attached spec now) lane)
    else missed tick words.Attach lane

-- the source of an id gets a child
abbrev pub born : SourceSpec → Microseconds → SourceId → RowSet → RowSet
born spec now id s = child_added spec now (row_with id s.rows) s

-- whether a source can have a child
abbrev pub can_bear_in : SourceId → Option Context → Bool
can_bear_in id None = false
can_bear_in id (Some context) = is_none (child_fault context.rows.levels (row_with id context.rows.rows))

-- whether the source of a place can have a child
abbrev pub can_bear : Place → Lane → Bool
can_bear place lane = is_own place.context lane && can_bear_in place.id (context_at place.context lane)

-- a slot names a new child of the source of a place; a miss where that is not there or can have none
abbrev pub child_of : Tick → Microseconds → Slot → SourceSpec → Option Place → Lane → Lane
child_of tick now slot spec None lane = missed tick words.Child lane
child_of tick now slot spec (Some place) lane =
    if can_bear place lane
    then set_slot slot (Source (next_place place.context lane)) (edited place.context (born spec now place.id) lane)
    else missed tick words.Child lane

-- the same of the source of a slot
abbrev pub child : Tick → Microseconds → Slot → Slot → SourceSpec → Lane → Lane
child tick now parent slot spec lane = child_of tick now slot spec (place_at parent lane) lane

-- an edit of a source that is there; a miss where it is not
abbrev pub on_source : Tick → Word → (SourceId → RowSet → RowSet) → Option Place → Lane → Lane
on_source tick word edit None lane = missed tick word lane
on_source tick word edit (Some place) lane =
    if is_some (row_at place lane) then edited place.context (edit place.id) lane else missed tick word lane

-- the source of a slot goes, with all that are under it
abbrev pub destroy : Tick → Slot → Lane → Lane
destroy tick slot lane = on_source tick words.Destroy destroyed (place_at slot lane) lane

-- the source of a slot gets a ready time, in microseconds, or -1 for never
abbrev pub set_ready : Tick → Slot → ℤ → Lane → Lane
set_ready tick slot us lane = on_source tick words.SetReady (λ id. ready_set id us) (place_at slot lane) lane

-- a source that is there and no child gets a priority, as all under it; else a miss
abbrev pub set_priority_of : Tick → Priority → Option Place → Lane → Lane
set_priority_of tick priority None lane = missed tick words.SetPriority lane
set_priority_of tick priority (Some place) lane =
    if is_none (priority_fault (row_at place lane))
    then edited place.context (reprioritised place.id priority) lane
    else missed tick words.SetPriority lane

-- the source of a slot gets a priority, and all that are under it get it too
abbrev pub set_priority : Tick → Slot → Priority → Lane → Lane
set_priority tick slot priority lane = set_priority_of tick priority (place_at slot lane) lane

-- an iteration of a context begins, whose `iterate` is told whether anything was selected; of a context that is not the lane's own it is told false
abbrev pub iterate : Plan → Tick → ContextNumber → Lane → Lane
iterate script tick context lane =
    if is_own context lane
    then iterating script tick context (askers.Iterate (is_any (chosen script tick context lane))) lane
    else written tick (events.Iterate context false) lane

-- a line tells whether an iteration of a context would dispatch anything now
abbrev pub pending : Plan → Tick → ContextNumber → Lane → Lane
pending script tick context lane = written tick (events.Pending context (is_own context lane && is_any (chosen script tick context lane))) lane

-- a run of a loop begins in the innermost frame; a miss where its context is not the lane's own
abbrev pub run : Tick → LoopNumber → ContextNumber → Lane → Lane
run tick number context lane =
    if is_own context lane then pushed (LoopOf number context) (set_running number true lane) else missed tick words.Run lane

-- a loop is quit; a miss where its context is not the lane's own
abbrev pub quit : Tick → LoopNumber → ContextNumber → Lane → Lane
quit tick number context lane = if is_own context lane then set_running number false lane else missed tick words.Quit lane

-- what an action does that a handler takes; a script gives handlers no others
abbrev pub plain_acted : Plan → Tick → Action → Lane → Lane
plain_acted script tick (Destroy slot) lane = destroy tick slot lane
plain_acted script tick (SetReady slot us) lane = set_ready tick slot us lane
plain_acted script tick (Quit number) lane = quit tick number (context_of script number) lane
plain_acted script tick (Log n) lane = written tick (events.Log n) lane
plain_acted script tick _ lane = lane

-- what a handler does: its actions, one after another
abbrev pub all_acted : Plan → Tick → List Action → Lane → Lane
all_acted script tick [] lane = lane
all_acted script tick (action ∷ actions) lane = all_acted script tick actions (plain_acted script tick action lane)

-- a handler is called
abbrev pub handled : Plan → Tick → Fired → Lane → Lane
handled script tick f lane = all_acted script tick (actions_of script (Procedure f.proc)) (written tick (events.Handler f.id) lane)

-- handlers are called one after another
abbrev pub all_handled : Plan → Tick → List Fired → Lane → Lane
all_handled script tick [] lane = lane
all_handled script tick (f ∷ fs) lane = all_handled script tick fs (handled script tick f lane)

-- what was cancelled before is left; else the view gets it, and its handlers are called
abbrev pub cancel : Plan → Tick → CancellableNumber → Lane → Lane
cancel script tick c lane =
    if has c lane.view then lane
    else all_handled script tick (fired c lane.view) (written tick (events.Cancel c) (noting tick c (viewing (cancelled c lane.view) lane)))

-- a handler is connected, which a slot names; where the cancellable was cancelled before, none is: the handler is called at once, and the slot names none
abbrev pub connect : Plan → Tick → CancellableNumber → Slot → ProcNumber → Lane → Lane
connect script tick c slot proc lane =
    if has c lane.view
    then set_slot slot (Handler 0) (handled script tick (record { id = 0; proc = proc }) lane)
    else set_slot slot (Handler lane.view.next_id) (viewing (connected c proc lane.view) lane)

-- a handler is disconnected; a miss where it can't be
abbrev pub disconnect_of : Tick → Option HandlerId → Lane → Lane
disconnect_of tick None lane = missed tick words.Disconnect lane
disconnect_of tick (Some id) lane = if may_disconnect id lane.view then viewing (without id lane.view) lane else missed tick words.Disconnect lane

-- the handler of a slot is disconnected
abbrev pub disconnect : Tick → Slot → Lane → Lane
disconnect tick slot lane = disconnect_of tick (handler_at slot lane) lane

-- a task is started, whose reply goes to the thread-default context
abbrev pub start_task : Tick → TaskSpec → Lane → Lane
start_task tick spec lane = record lane { tasks = starting tick (default_context lane) spec lane.tasks }

-- what each action does to its lane, its letter left aside
abbrev pub acted : Plan → Tick → Action → Lane → Lane
acted script tick (Attach context slot spec) lane = attach tick (time_of script tick) context slot spec lane
acted script tick (Child parent slot spec) lane = child tick (time_of script tick) parent slot spec lane
acted script tick (Destroy slot) lane = destroy tick slot lane
acted script tick (SetReady slot us) lane = set_ready tick slot us lane
acted script tick (SetPriority slot priority) lane = set_priority tick slot priority lane
acted script tick (Iterate context) lane = iterate script tick context lane
acted script tick (Pending context) lane = pending script tick context lane
acted script tick (Run number) lane = run tick number (context_of script number) lane
acted script tick (Quit number) lane = quit tick number (context_of script number) lane
acted script tick (Cancel c) lane = cancel script tick c lane
acted script tick (Connect c slot proc) lane = connect script tick c slot proc lane
acted script tick (Disconnect slot) lane = disconnect tick slot lane
acted script tick (Task spec) lane = start_task tick spec lane
acted script tick (Push context) lane = push tick context lane
acted script tick (Pop context) lane = pop tick context lane
acted script tick ShowDefault lane = show_default tick lane
acted script tick (Acquire context) lane = acquire tick context lane
acted script tick (Release context) lane = release tick context lane
acted script tick (Invoke context proc) lane = invoke tick (time_of script tick) context proc lane
acted script tick (Give context to) lane = give script tick context to lane
acted script tick (Log n) lane = written tick (events.Log n) lane

-- what a cancel sends: a cancellable that the lane has not seen cancelled is cancelled for all
abbrev pub cancel_sends : CancellableNumber → Lane → Option Mail
cancel_sends c lane = if has c lane.view then None else Some (mails.Cancelled c)

-- what each action sends
abbrev pub sends : Plan → Action → Lane → Option Mail
sends script (Cancel c) lane = cancel_sends c lane
sends script (Attach context slot spec) lane = None
sends script (Child parent slot spec) lane = None
sends script (Destroy slot) lane = None
sends script (SetReady slot us) lane = None
sends script (SetPriority slot priority) lane = None
sends script (Iterate context) lane = None
sends script (Pending context) lane = None
sends script (Run number) lane = None
sends script (Quit number) lane = None
sends script (Connect c slot proc) lane = None
sends script (Disconnect slot) lane = None
sends script (Task spec) lane = None
sends script (Push context) lane = None
sends script (Pop context) lane = None
sends script ShowDefault lane = None
sends script (Acquire context) lane = None
sends script (Release context) lane = None
sends script (Invoke context proc) lane = invoke_sends context proc lane
sends script (Give context to) lane = give_sends script context to lane
sends script (Log n) lane = None
