-- What goes to a worker that stays for a run, and what comes back.
use Rattle.std.specs.Prelude.{◌≡◌, ◌<◌, ◌≤◌, Option, Some, None, List, [], length, slice_get, option_map}
use Rattle.std.specs.List.{All, flat_map}
use Rattle.loop_script.specs.declared.plan.Plan.{Plan}
use Rattle.loop_script.specs.Bounds.{most_lanes, most_ticks}
use Rattle.post_office.specs.declared.letter.Letter.{Letter}
use Rattle.lane_turn.specs.Lane.{State}
use Rattle.lane_turn.specs.Tick.{lanes_at}
use Rattle.tick_stepper.specs.declared.share.Share.{Share}
use Rattle.tick_stepper.specs.Share.{unspent, turned_one, out_of_one}
use Rattle.loop_script.specs.Units.{Tick, LaneNumber}

-- the lane of a number in the run of one thread, at a tick
abbrev pub own_of : Plan → Tick → LaneNumber → Option State
own_of script tick number = option_map unspent (slice_get (lanes_at script tick) number)

-- the same after its turn
abbrev pub turned_of : Plan → Tick → LaneNumber → Option State
turned_of script tick number = option_map (turned_one script tick) (own_of script tick number)

-- the letters that a lane posts in its turn, where there is one
abbrev pub posted_by : Plan → Tick → Option State → List Letter
posted_by script tick None = []
posted_by script tick (Some s) = out_of_one script tick s

-- what the lane of a number posts in its turn
abbrev pub posted_of : Plan → Tick → LaneNumber → List Letter
posted_of script tick number = posted_by script tick (own_of script tick number)

-- each is the lane of its number in the run of one thread
abbrev pub AreOwn : Plan → Tick → List State → Type 0
AreOwn script tick lanes = All (λ s. own_of script tick s.lane.number ≡ Some s) lanes

-- lanes of a run before their turns at a tick, and an empty tray
pub record IsCall (script : Plan) (tick : Tick) (share : Share) : Type 0 where
  pub low : tick < most_ticks
  pub few : length script.lanes ≤ most_lanes
  pub own : AreOwn script tick share.lanes.items
  pub tray : share.tray ≡ []

-- lanes of a run after their turns at a tick, and what they posted
pub record IsReply (script : Plan) (tick : Tick) (lanes : List State) (letters : List Letter) : Type 0 where
  pub turns : All (λ s. turned_of script tick s.lane.number ≡ Some s) lanes
  pub posted : letters ≡ flat_map (λ s. posted_of script tick s.lane.number) lanes
