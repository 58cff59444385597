-- One step of the innermost frame.
use Rattle.std.specs.Prelude.{ℕ, zero, suc, ◌+◌, ◌&&◌, not, Bool, true, false, Option, Some, None, is_some, is_none, nat_lt, slice_get, List, [], ◌∷◌, ◌++◌, if◌then◌else◌}
use Rattle.loop_script.specs.declared.plan.Plan.{Plan}
use Rattle.loop_script.specs.declared.action.Action.{Action}
use Rattle.loop_script.specs.declared.body.Body.{Body}
use Rattle.loop_script.specs.declared.body.Body.TheVariants.{Procedure, Nothing}
use Rattle.loop_script.specs.Parts.{time_of, actions_of, stays}
use Rattle.source_rows.specs.declared.row.Row.{Row}
use Rattle.source_rows.specs.Rows.{destroyed, counted as counted_once}
use Rattle.lane_turn.specs.declared.line.Line.{Line}
use Rattle.lane_turn.specs.declared.line.Event.TheVariants as events
use Rattle.lane_turn.specs.declared.lane.Status.{Status}
use Rattle.lane_turn.specs.declared.lane.Status.TheVariants.{GoesOn, Ended, Halted}
use Rattle.lane_turn.specs.declared.layer.Call.{Call}
use Rattle.lane_turn.specs.declared.layer.Asker.{Asker}
use Rattle.lane_turn.specs.declared.layer.Asker.TheVariants as askers
use Rattle.lane_turn.specs.declared.layer.Caller.{Caller}
use Rattle.lane_turn.specs.declared.layer.Origin.{Origin}
use Rattle.lane_turn.specs.declared.layer.Origin.TheVariants.{Start, Source, Invoke}
use Rattle.lane_turn.specs.declared.layer.Top.{Top}
use Rattle.lane_turn.specs.declared.layer.Top.TheVariants as tops
use Rattle.lane_turn.specs.Frames.{CallOf, top_of, depth, calls_in_progress}
use Rattle.lane_turn.specs.Sources.{restarted}
use Rattle.lane_turn.specs.Lane.{Lane, Turn, written, pushed, popped, taken, stopped, is_running, edited, row_of, iterating}
use Rattle.lane_turn.specs.Acted.{acted, sends}
use Rattle.lane_watch.specs.Tasks.{Started, reply_at, is_late_at, stays_at}
use Rattle.lane_turn.specs.Replies.{reply_held, without_reply}
use Rattle.lane_turn.specs.declared.replies.Awaited.{Awaited}
use Rattle.loop_script.specs.declared.outcome.Outcome.{Outcome}
use Rattle.loop_script.specs.declared.outcome.Outcome.TheVariants as outcomes
use Rattle.task_steps.specs.declared.entry.Reply.{Reply}
use Rattle.task_steps.specs.Book.{sees}
use Rattle.cancel_view.specs.Seen.{Seen}
use Rattle.post_office.specs.declared.letter.Letter.{Letter}
use Rattle.post_office.specs.declared.letter.Body.{Body as Mail}
use Rattle.post_office.specs.declared.letter.Body.TheVariants as mails
use Rattle.lane_turn.specs.Limits.{most_calls}
use Rattle.loop_script.specs.Units.{Tick, LaneNumber, ContextNumber, LoopNumber, ProcNumber, SourceId, TaskNumber}

-- what a source calls
abbrev pub body_of : Option ProcNumber → Body
body_of None = Nothing
body_of (Some proc) = Procedure proc

-- the result of a task, taken from its reply: cancelled where that is checked and the view has the cancellable
abbrev pub result_of : Seen → Reply → Outcome
result_of view reply = if reply.check && sees view reply.cancel then outcomes.Cancelled else reply.outcome

-- the line of the result that is taken from the reply that a source holds, if it holds one
abbrev pub result_lines : Tick → Option Awaited → Seen → List Line
result_lines tick None view = []
result_lines tick (Some awaited) view = record { tick = tick; event = events.Task awaited.sender awaited.reply.task (result_of view awaited.reply) } ∷ []

-- the result of a reply that was held is told
abbrev pub taking : Tick → Option Awaited → Lane → Lane
taking tick awaited lane = record lane { trace = lane.trace ++ result_lines tick awaited lane.view }

-- the call of a row's dispatch is begun; `once` says that the source goes after it, as that of a reply does
abbrev pub called : ContextNumber → Row → Bool → Lane → Lane
called context row once lane = pushed (CallOf (record {
  origin = Source (record { context = context; id = row.id; recurse = row.recurse; number = row.count + 1; once = once });
  body = body_of row.call;
  place = 0;
})) lane

-- the same once the reply that its source held is taken
abbrev pub begun_call : Tick → ContextNumber → Row → Option Awaited → Lane → Lane
begun_call tick context row awaited lane =
    called context row (is_some awaited) (taking tick awaited (record lane { replies = without_reply context row.id lane.replies }))

-- a row's dispatch at a depth, of a lane that took the id already: the count, the line, the result of a reply, and its call
abbrev pub dispatched_at : Tick → ContextNumber → Row → ℕ → Lane → Lane
dispatched_at tick context row n lane =
    begun_call tick context row (reply_held context row.id lane.replies) (written tick (events.Dispatch context row.id row.priority (n + 1)) (edited context (counted_once row.id) lane))

-- the same at the depth of the frames
abbrev pub dispatched : Tick → ContextNumber → Row → Lane → Lane
dispatched tick context row lane = dispatched_at tick context row (depth lane.frames) (taken lane)

-- the same where fewer than the most calls are in progress; else the lane is halted
abbrev pub dispatching : Tick → ContextNumber → Row → Lane → Lane
dispatching tick context row lane =
    if nat_lt (calls_in_progress lane.frames) most_calls then dispatched tick context row lane else stopped Halted (written tick events.HaltDepth lane)

-- a source after its call: one that stays begins anew, one that does not is destroyed, as that of a reply is
abbrev pub left_source : Plan → Tick → Body → Caller → Lane → Lane
left_source script tick body caller lane =
    if not caller.once && stays script body caller.number
    then edited caller.context (restarted (time_of script tick) caller.id) lane
    else edited caller.context (destroyed caller.id) lane

-- what the end of a call does: that of the start list ends the lane
abbrev pub returned : Plan → Tick → Body → Origin → Lane → Lane
returned script tick body Start lane = stopped Ended (written tick events.End lane)
returned script tick body (Source caller) lane = left_source script tick body caller lane
returned script tick body (Invoke acquired) lane = lane

-- what the end of an iteration tells the `iterate` that asked
abbrev pub answered : Tick → ContextNumber → Asker → Lane → Lane
answered tick context askers.Loop lane = lane
answered tick context (askers.Iterate any) lane = written tick (events.Iterate context any) lane

-- the same change within a turn
abbrev pub with_lane : (Lane → Lane) → Turn → Turn
with_lane f t = record t { lane = f t.lane }

-- a change of a turn's lane
abbrev pub letter : (tick : Tick) (sender : LaneNumber) (number : ℕ) → Mail → Letter
letter tick sender number body = record { tick = tick; sender = sender; number = number; body = body }

-- how many letters were sent, with this one
abbrev pub sent_with : Option Mail → ℕ → ℕ
sent_with None n = n
sent_with (Some body) n = n + 1

-- what is posted, with this letter
abbrev pub posted_with : (tick : Tick) (sender : LaneNumber) (number : ℕ) → List Letter → Option Mail → List Letter
posted_with tick sender number posted None = posted
posted_with tick sender number posted (Some body) = posted ++ letter tick sender number body ∷ []

-- a letter is sent, if there is one
abbrev pub sending : Tick → Option Mail → Turn → Turn
sending tick mail t = record t { sent = sent_with mail t.sent; posted = posted_with tick t.lane.number t.sent t.posted mail }

-- what is counted is done, and sends what it sends, where the turn may count one more; else the lane is halted
abbrev pub limited_by : Tick → Option Mail → (Lane → Lane) → Turn → ℕ → Turn
limited_by tick mail f t zero = with_lane (λ lane. stopped Halted (written tick events.HaltSteps lane)) t
limited_by tick mail f t (suc n) = record (sending tick mail t) { lane = f t.lane; left = n }

-- the same by what the turn may still count
abbrev pub limited : Tick → Option Mail → (Lane → Lane) → Turn → Turn
limited tick mail f t = limited_by tick mail f t t.left

-- the next action of a call, or its end
abbrev pub step_call : Plan → Tick → Turn → Call → Option Action → Turn
step_call script tick t call (Some action) = limited tick (sends script action (taken t.lane)) (λ lane. acted script tick action (taken lane)) t
step_call script tick t call None = with_lane (λ lane. returned script tick call.body call.origin (popped lane)) t

-- an id was taken: its source is dispatched; one that is destroyed is passed over, and not counted
abbrev pub step_id : Tick → Turn → ContextNumber → Option Row → Turn
step_id tick t context None = with_lane taken t
step_id tick t context (Some row) = limited tick None (dispatching tick context row) t

-- the next id of an iteration, or its end
abbrev pub step_iteration : Tick → Turn → ContextNumber → Asker → Option SourceId → Turn
step_iteration tick t context asker None = with_lane (λ lane. answered tick context asker (popped lane)) t
step_iteration tick t context asker (Some id) = step_id tick t context (row_of context id t.lane)

-- a loop that was quit ends; one that runs begins an iteration, and no step is left where a loop did so in this tick already
abbrev pub step_loop : Plan → Tick → Turn → LoopNumber → ContextNumber → Option Turn
step_loop script tick t number context =
    if is_running number t.lane
    then if t.iterated then None else Some (record t { lane = iterating script tick context askers.Loop t.lane; iterated = true })
    else Some (with_lane (λ lane. written tick (events.LoopEnd number) (popped lane)) t)

-- whether what comes next is an id whose source is destroyed
abbrev pub is_passed : Lane → Top → Bool
is_passed lane tops.Nothing = false
is_passed lane (tops.Call call) = false
is_passed lane (tops.Iteration context None asker) = false
is_passed lane (tops.Iteration context (Some id) asker) = is_none (row_of context id lane)
is_passed lane (tops.Loop number context) = false

-- a step by what the innermost takes next
abbrev pub step_top : Plan → Tick → Turn → Top → Option Turn
step_top script tick t tops.Nothing = None
step_top script tick t (tops.Call call) = Some (step_call script tick t call (slice_get (actions_of script call.body) call.place))
step_top script tick t (tops.Iteration context next asker) = Some (step_iteration tick t context asker next)
step_top script tick t (tops.Loop number context) = step_loop script tick t number context

-- the same of a lane that goes on
abbrev pub step_going : Plan → Tick → Turn → Status → Option Turn
step_going script tick t GoesOn = step_top script tick t (top_of t.lane.frames)
step_going script tick t Ended = None
step_going script tick t Halted = None

-- the line of a body that ends after its reply or with it
abbrev pub late_line : Tick → LaneNumber → TaskNumber → Line
late_line tick lane number = record { tick = tick; event = events.TaskLate lane number }

-- a list of one, if so
abbrev pub one_if : {A : Type 0} → Bool → A → List A
one_if true x = x ∷ []
one_if false x = []

-- a task that is late is told of; one that goes on after its poll stays one of the lane's
abbrev pub told : Tick → Bool → Bool → Started → Lane → Lane
told tick late stays task lane = record lane {
  tasks = record lane.tasks { started = lane.tasks.started ++ one_if stays task };
  trace = lane.trace ++ one_if late (late_line tick lane.number task.number);
}

-- the letter of a reply
abbrev pub mail_of : Option Reply → Option Mail
mail_of None = None
mail_of (Some reply) = Some (mails.Complete reply)

-- one poll: the reply is sent if it comes now, and the lane is told of the task as `told` says
abbrev pub polled : Tick → Started → Turn → Turn
polled tick task t = record (sending tick (mail_of (reply_at tick t.lane.tasks task)) t) {
  lane = told tick (is_late_at tick t.lane.tasks task) (stays_at tick t.lane.tasks task) task t.lane;
}

-- the next poll; once there is none, a step of the innermost
abbrev pub step_polling : Plan → Tick → Turn → List Started → Option Turn
step_polling script tick t [] = step_going script tick t t.lane.status
step_polling script tick t (task ∷ tasks) = Some (polled tick task (record t { unpolled = tasks }))

-- one step: a poll of a task where there is one to be polled, halted or not; else one of the innermost frame; none where the lane
-- rests, has ended or is halted
abbrev pub step : Plan → Tick → Turn → Option Turn
step script tick t = step_polling script tick t t.unpolled
