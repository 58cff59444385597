-- The line by which a lane halts in place of its next step.
use Rattle.std.specs.Prelude.{ℕ, zero, suc, Bool, true, false, nat_lt, Option, None, Some, slice_get}
use Rattle.loop_script.specs.declared.plan.Plan.{Plan}
use Rattle.loop_script.specs.declared.action.Action.{Action}
use Rattle.loop_script.specs.Parts.{actions_of}
use Rattle.source_rows.specs.declared.row.Row.{Row}
use Rattle.lane_turn.specs.declared.layer.Top.{Top}
use Rattle.lane_turn.specs.declared.layer.Top.TheVariants as tops
use Rattle.lane_turn.specs.declared.line.Event.{Event}
use Rattle.lane_turn.specs.declared.line.Event.TheVariants as events
use Rattle.lane_turn.specs.Frames.{calls_in_progress}
use Rattle.lane_turn.specs.Lane.{Lane, row_of}
use Rattle.lane_turn.specs.Limits.{most_calls}

-- in place of an action that a call has left, where a turn may count so many more
abbrev pub halt_of_action : (left : ℕ) → Option Action → Option Event
halt_of_action zero (Some action) = Some events.HaltSteps
halt_of_action zero None = None
halt_of_action (suc left) action = None

-- in place of a dispatch, where the lane may begin a call or not
abbrev pub halt_of_dispatch : (left : ℕ) → (may_call : Bool) → Option Event
halt_of_dispatch zero may_call = Some events.HaltSteps
halt_of_dispatch (suc left) true = None
halt_of_dispatch (suc left) false = Some events.HaltDepth

-- in place of the dispatch of a source that is there; none where it is destroyed
abbrev pub halt_of_id : (left : ℕ) → (may_call : Bool) → Option Row → Option Event
halt_of_id left may_call None = None
halt_of_id left may_call (Some row) = halt_of_dispatch left may_call

-- in place of what the innermost takes next
abbrev pub halt_of : Plan → (left : ℕ) → Lane → Top → Option Event
halt_of script left lane tops.Nothing = None
halt_of script left lane (tops.Call call) = halt_of_action left (slice_get (actions_of script call.body) call.place)
halt_of script left lane (tops.Iteration context None asker) = None
halt_of script left lane (tops.Iteration context (Some id) asker) = halt_of_id left (nat_lt (calls_in_progress lane.frames) most_calls) (row_of context id lane)
halt_of script left lane (tops.Loop number context) = None
