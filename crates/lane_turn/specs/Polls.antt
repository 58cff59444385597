-- All polls of a turn at once.
use Rattle.std.specs.Prelude.{ℕ, ◌+◌, List, [], ◌∷◌, ◌++◌, map, filter, length}
use Rattle.std.specs.List.{filter_map}
use Rattle.task_steps.specs.declared.entry.Reply.{Reply}
use Rattle.post_office.specs.declared.letter.Letter.{Letter}
use Rattle.post_office.specs.declared.letter.Body.TheVariants as mails
use Rattle.lane_watch.specs.Tasks.{Started, Tasks, reply_at, is_late_at, stays_at}
use Rattle.lane_turn.specs.Lane.{Lane, Turn}
use Rattle.lane_turn.specs.Step.{late_line}
use Rattle.loop_script.specs.Units.{Tick, LaneNumber, TaskNumber}

-- the letters of replies, numbered on
abbrev pub letters_of : (tick : Tick) (sender : LaneNumber) (number : ℕ) → List Reply → List Letter
letters_of tick sender number [] = []
letters_of tick sender number (reply ∷ replies) =
    record { tick = tick; sender = sender; number = number; body = mails.Complete reply } ∷ letters_of tick sender (number + 1) replies

-- the replies that a poll of some tasks gives
abbrev pub replies_among : Tick → Tasks → List Started → List Reply
replies_among tick tasks ts = filter_map (reply_at tick tasks) ts

-- the numbers of the tasks that are late
abbrev pub late_among : Tick → Tasks → List Started → List TaskNumber
late_among tick tasks ts = map (λ t. t.number) (filter (is_late_at tick tasks) ts)

-- the tasks that go on
abbrev pub staying_among : Tick → Tasks → List Started → List Started
staying_among tick tasks ts = filter (stays_at tick tasks) ts

-- the lane once all its tasks are polled
abbrev pub polled_lane : Tick → List Started → Lane → Lane
polled_lane tick ts lane = record lane {
  tasks = record lane.tasks { started = lane.tasks.started ++ staying_among tick lane.tasks ts };
  trace = lane.trace ++ map (late_line tick lane.number) (late_among tick lane.tasks ts);
}

-- the turn after all polls
abbrev pub after_polls : Tick → Turn → Turn
after_polls tick t = record t {
  lane = polled_lane tick t.unpolled t.lane;
  unpolled = [];
  sent = t.sent + length (replies_among tick t.lane.tasks t.unpolled);
  posted = t.posted ++ letters_of tick t.lane.number t.sent (replies_among tick t.lane.tasks t.unpolled);
}
