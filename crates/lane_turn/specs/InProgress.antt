-- What is shown of what is in progress.
use Rattle.lane_turn.specs.declared.in_progress.Activity.{Activity}
use Rattle.lane_turn.specs.declared.in_progress.Activity.TheVariants as activities
use Rattle.lane_turn.specs.Frames.{Frame, CallOf, IterOf, LoopOf}

-- the frame that an activity shows
abbrev pub frame_shown : Activity → Frame
frame_shown (activities.Call call) = CallOf call
frame_shown (activities.Iteration context left asker) = IterOf context left.now asker
frame_shown (activities.Loop number context) = LoopOf number context
