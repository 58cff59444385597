-- The lines of a run with the names of its script.
use Rattle.std.specs.Prelude.{ℕ, ◌*◌, ◌/◌, ◌%◌, ℤ, pos, negsuc, List, [], ◌++◌, codes, Bool, true, false, ◌==◌, if◌then◌else◌, Option, Some, None}
use Rattle.std.specs.Fmt.{decimal, signed_decimal}
use Rattle.named.specs.declared.sort.Kind.TheVariants as kinds
use Rattle.loop_script.specs.declared.outcome.Outcome.{Outcome}
use Rattle.loop_script.specs.declared.outcome.Outcome.TheVariants as outcomes
use Rattle.lane_turn.specs.declared.line.Event.{Event}
use Rattle.lane_turn.specs.declared.line.Event.TheVariants.{Dispatch, Log, Iterate, Pending, LoopEnd, Acquire, Default, Invoke, Arrive, Cancel, Handler, Task, TaskLate, Give, Hold, Miss, HaltDepth, HaltSteps, End}
use Rattle.lane_turn.specs.declared.line.Invoked.{Invoked}
use Rattle.lane_turn.specs.declared.line.Invoked.TheVariants.{Direct, Attached, Posted}
use Rattle.mainctx.specs.Text.{word_text}
use Rattle.named_lines.specs.declared.told_line.Told.{Told}
use Rattle.run_names.specs.declared.thing.Thing.TheVariants as things
use Rattle.run_names.specs.Text.{Calling, called, within, source_text, handler_text, thing_text}

-- the procedure that is called, where one is
abbrev pub callee_text : Calling → Option ℕ → List ℕ
callee_text c None = []
callee_text c (Some procedure) = codes " -> " ++ called kinds.Procedure procedure c.names

-- a priority: GLib's word for it, or its number
abbrev pub priority_text : ℤ → List ℕ
priority_text (pos n) = if n == 0 then codes "DEFAULT" else (if n == 100 then codes "HIGH_IDLE" else (if n == 200 then codes "DEFAULT_IDLE" else (if n == 300 then codes "LOW" else decimal n)))
priority_text (negsuc n) = if n == 99 then codes "HIGH" else signed_decimal (negsuc n)

-- how deep a call is, where that is more than one
abbrev pub depth_text : ℕ → List ℕ
depth_text depth = if depth == 1 then [] else codes ", depth " ++ decimal depth

abbrev pub answer_text : Bool → List ℕ
answer_text true = codes ": true"
answer_text false = codes ": false"

-- how a procedure was invoked
abbrev pub invoked_text : Invoked → List ℕ
invoked_text Direct = codes ": direct"
invoked_text Attached = codes ": attached"
invoked_text Posted = codes ": posted"

-- how a task ended
abbrev pub outcome_text : Outcome → List ℕ
outcome_text (outcomes.Ok v) = codes " ok " ++ signed_decimal v
outcome_text outcomes.Failed = codes " failed"
outcome_text outcomes.Cancelled = codes " cancelled"
outcome_text outcomes.TimedOut = codes " timed-out"

-- a handler that is connected too late, by the slot that would name it
abbrev pub late_text : Calling → Option ℕ → List ℕ
late_text c None = codes "too late"
late_text c (Some slot) = codes "too late: " ++ called kinds.Slot slot c.names

-- a handler: 0 is one that is connected too late
abbrev pub handler_or_late : Calling → Told → ℕ → List ℕ
handler_or_late c told id = if id == 0 then late_text c told.slot else codes "handler " ++ handler_text c told.lane id

-- what a line tells
abbrev pub event_text : Calling → Told → Event → List ℕ
event_text c told (Dispatch context source priority depth) =
    codes "dispatch " ++ (source_text c context source ++ (callee_text c told.callee ++ (codes " (" ++ (priority_text priority ++ (depth_text depth ++ codes ")")))))
event_text c told (Log n) = codes "log " ++ thing_text c (things.Text n)
event_text c told (Iterate context answer) = codes "iterate " ++ (called kinds.Context context c.names ++ answer_text answer)
event_text c told (Pending context answer) = codes "pending " ++ (called kinds.Context context c.names ++ answer_text answer)
event_text c told (LoopEnd n) = codes "loop " ++ (called kinds.Loop n c.names ++ codes " end")
event_text c told (Acquire context answer) = codes "acquire " ++ (called kinds.Context context c.names ++ answer_text answer)
event_text c told (Default context) = codes "default " ++ called kinds.Context context c.names
event_text c told (Invoke context how) = codes "invoke in " ++ (called kinds.Context context c.names ++ (callee_text c told.callee ++ invoked_text how))
event_text c told (Arrive context source) = codes "arrive " ++ (source_text c context source ++ (codes " in " ++ called kinds.Context context c.names))
event_text c told (Cancel n) = codes "cancel " ++ called kinds.Cancellable n c.names
event_text c told (Handler id) = handler_or_late c told id
event_text c told (Task lane number outcome) = codes "task " ++ (within kinds.Thread lane number c.names ++ outcome_text outcome)
event_text c told (TaskLate lane number) = codes "task " ++ (within kinds.Thread lane number c.names ++ codes " late")
event_text c told (Give context lane) = codes "give " ++ (called kinds.Context context c.names ++ (codes " to " ++ called kinds.Thread lane c.names))
event_text c told (Hold context) = codes "hold " ++ called kinds.Context context c.names
event_text c told (Miss word) = codes "miss " ++ word_text word
event_text c told HaltDepth = codes "halt depth"
event_text c told HaltSteps = codes "halt steps"
event_text c told End = codes "end"

-- what is behind the whole milliseconds, in as many digits as it takes
abbrev pub part_text : ℕ → List ℕ
part_text part =
    if part == 0 then [] else
    (if part % 100 == 0 then codes "." ++ decimal (part / 100) else
    (if part % 10 == 0 then codes "." ++ (decimal (part / 100) ++ decimal (part / 10 % 10)) else
    codes "." ++ (decimal (part / 100) ++ (decimal (part / 10 % 10) ++ decimal (part % 10)))))

-- a time in microseconds as milliseconds
abbrev pub milliseconds_text : ℕ → List ℕ
milliseconds_text us = decimal (us / 1000) ++ part_text (us % 1000)

-- a line of a run with ticks of so many microseconds: its time, and what it tells
abbrev pub line_text : ℕ → Calling → Told → List ℕ
line_text tick_us c told = milliseconds_text (told.line.tick * tick_us) ++ (codes " ms  " ++ (event_text c told told.line.event ++ codes "\n"))
