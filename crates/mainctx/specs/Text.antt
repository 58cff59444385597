-- The text of a run: for each lane a heading, and a line for each event.
use Rattle.std.specs.Prelude.{ℕ, Bool, List, ◌++◌, codes, if◌then◌else◌}
use Rattle.std.specs.List.{flat_map}
use Rattle.std.specs.Fmt.{decimal, signed_decimal}
use Rattle.loop_script.specs.declared.plan.Plan.{Plan}
use Rattle.loop_script.specs.declared.outcome.Outcome.{Outcome}
use Rattle.loop_script.specs.declared.outcome.Outcome.TheVariants as outcomes
use Rattle.lane_turn.specs.declared.line.Line.{Line}
use Rattle.lane_turn.specs.declared.line.Event.{Event}
use Rattle.lane_turn.specs.declared.line.Event.TheVariants.{Dispatch, Log, Iterate, Pending, LoopEnd, Acquire, Default, Invoke, Arrive, Cancel, Handler, Task, TaskLate, Give, Hold, Miss, HaltDepth, HaltSteps, End}
use Rattle.lane_turn.specs.declared.line.Invoked.{Invoked}
use Rattle.lane_turn.specs.declared.line.Invoked.TheVariants.{Direct, Attached, Posted}
use Rattle.lane_turn.specs.declared.line.Word.{Word}
use Rattle.lane_turn.specs.declared.line.Word.TheVariants as words
use Rattle.lane_turn.specs.Lane.{Lane}
use Rattle.lane_turn.specs.Tick.{lanes_at}
use Rattle.loop_script.specs.Units.{LaneNumber}

-- a truth
abbrev pub truth_text : Bool → List ℕ
truth_text b = if b then codes "true" else codes "false"

-- how a procedure was invoked
abbrev pub invoked_text : Invoked → List ℕ
invoked_text Direct = codes "direct"
invoked_text Attached = codes "attached"
invoked_text Posted = codes "posted"

-- how a task ended
abbrev pub outcome_text : Outcome → List ℕ
outcome_text (outcomes.Ok v) = codes "ok " ++ signed_decimal v
outcome_text outcomes.Failed = codes "failed"
outcome_text outcomes.Cancelled = codes "cancelled"
outcome_text outcomes.TimedOut = codes "timed-out"

-- an action, as scripts write it
abbrev pub word_text : Word → List ℕ
word_text words.Attach = codes "attach"
word_text words.Child = codes "child"
word_text words.Destroy = codes "destroy"
word_text words.SetReady = codes "set_ready"
word_text words.SetPriority = codes "set_priority"
word_text words.Run = codes "run"
word_text words.Quit = codes "quit"
word_text words.Disconnect = codes "disconnect"
word_text words.Push = codes "push"
word_text words.Pop = codes "pop"
word_text words.Release = codes "release"
word_text words.Give = codes "give"

-- what a line tells
abbrev pub event_text : Event → List ℕ
event_text (Dispatch ctx source priority depth) =
    codes "dispatch ctx " ++ (decimal ctx ++ (codes " source " ++ (decimal source ++ (codes " priority " ++ (signed_decimal priority ++ (codes " depth " ++ decimal depth))))))
event_text (Log n) = codes "log " ++ decimal n
event_text (Iterate ctx answer) = codes "iterate ctx " ++ (decimal ctx ++ (codes " " ++ truth_text answer))
event_text (Pending ctx answer) = codes "pending ctx " ++ (decimal ctx ++ (codes " " ++ truth_text answer))
event_text (LoopEnd number) = codes "loop " ++ (decimal number ++ codes " end")
event_text (Acquire ctx answer) = codes "acquire ctx " ++ (decimal ctx ++ (codes " " ++ truth_text answer))
event_text (Default ctx) = codes "default ctx " ++ decimal ctx
event_text (Invoke ctx how) = codes "invoke ctx " ++ (decimal ctx ++ (codes " " ++ invoked_text how))
event_text (Arrive ctx source) = codes "arrive ctx " ++ (decimal ctx ++ (codes " source " ++ decimal source))
event_text (Cancel cancellable) = codes "cancel " ++ decimal cancellable
event_text (Handler id) = codes "handler " ++ decimal id
event_text (Task lane number outcome) = codes "task " ++ (decimal lane ++ (codes "." ++ (decimal number ++ (codes " " ++ outcome_text outcome))))
event_text (TaskLate lane number) = codes "task " ++ (decimal lane ++ (codes "." ++ (decimal number ++ codes " late")))
event_text (Give ctx lane) = codes "give ctx " ++ (decimal ctx ++ (codes " lane " ++ decimal lane))
event_text (Hold ctx) = codes "hold ctx " ++ decimal ctx
event_text (Miss word) = codes "miss " ++ word_text word
event_text HaltDepth = codes "halt depth"
event_text HaltSteps = codes "halt steps"
event_text End = codes "end"

-- the tick and what the line tells
abbrev pub line_text : Line → List ℕ
line_text line = decimal line.tick ++ (codes " " ++ (event_text line.event ++ codes "\n"))

-- a lane's part of the text: the heading, and the lines in order
abbrev pub lane_text : LaneNumber → List Line → List ℕ
lane_text number lines = codes "thread " ++ (decimal number ++ (codes "\n" ++ flat_map line_text lines))

-- the part of a lane, under its number
abbrev pub part_of : Lane → List ℕ
part_of lane = lane_text lane.number lane.trace

-- the text of a script: the parts of its lanes in order, when its ticks are over
abbrev pub text_of : Plan → List ℕ
text_of script = flat_map part_of (lanes_at script script.ticks)
