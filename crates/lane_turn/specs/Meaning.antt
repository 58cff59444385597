-- The lane that its fields stand for.
use Rattle.std.specs.Prelude.{◌≡◌, List, []}
use Rattle.post_office.specs.declared.letter.Letter.{Letter}
use Rattle.lane_turn.specs.declared.lane.Lane.{Lane as Fields}
use Rattle.lane_turn.specs.declared.step.Progress.{Progress}
use Rattle.lane_turn.specs.declared.turn.Turn.{Turn as Begun}
use Rattle.lane_turn.specs.Lane.{Lane, Turn}

-- the lane of its fields
abbrev pub lane_of : Fields → Lane
lane_of p = record {
  number = p.number;
  contexts = p.contexts.items;
  given = p.given.items;
  slots = p.slots.items;
  view = p.watch.view;
  tasks = p.watch.tasks;
  frames = p.frames;
  running = p.running.items;
  defaults = p.defaults;
  replies = p.replies.items;
  trace = p.trace.items;
  status = p.status;
}

-- the turn of a lane once its tasks are polled, with how far it has come and what the post holds
abbrev pub turn_with : Lane → Progress → List Letter → Turn
turn_with lane progress letters = record {
  lane = lane;
  unpolled = [];
  left = progress.left;
  iterated = progress.iterated;
  sent = progress.sent;
  posted = letters;
}

-- the same of a lane's fields
abbrev pub turn_of : Fields → Progress → List Letter → Turn
turn_of p progress letters = turn_with (lane_of p) progress letters

-- a turn that was begun, of a lane as it is now
abbrev pub turn_at : Lane → Begun → List Letter → Turn
turn_at lane turn letters = turn_with lane turn.progress letters

-- it is a turn of that lane
abbrev pub IsTurnOf : Lane → Begun → Type 0
IsTurnOf lane turn = turn.lane ≡ lane.number
