-- What a worker is handed, and what it gives back.
use Rattle.std.specs.Prelude.{◌≡◌, ℕ, ◌+◌, ◌<◌, ◌==◌, Bool, false, nat_lt, length, Result, Ok, List, [], ◌∷◌, map, if◌then◌else◌}
use Rattle.std.specs.List.{AllByRecursion, filter, flat_map, range_with_len}
use Rattle.loop_script.specs.declared.plan.Plan.{Plan}
use Rattle.post_office.specs.declared.letter.Letter.{Letter}
use Rattle.lane_turn.specs.Limits.{half_count}
use Rattle.lane_turn.specs.Lane.{Lane, State}
use Rattle.lane_turn.specs.Turn.{turned, out_of}
use Rattle.lane_turn.specs.Sound.{IsReady}
use Rattle.lane_turn.specs.Handover.{handing_of, moved}
use Rattle.tick_stepper.specs.Crew.{worker_of}
use Rattle.tick_stepper.specs.Order.{RisesBy}
use Rattle.tick_stepper.specs.declared.crew.Crew.{Crew}
use Rattle.tick_stepper.specs.declared.share.Share.{Share}
use Rattle.lane_turn.specs.declared.state.LaneFault.{LaneFault}
use Rattle.loop_script.specs.Units.{Tick, LaneNumber}

-- a lane of which no call was refused memory
abbrev pub unspent : Lane → State
unspent lane = record { lane = lane; spent = false }

-- the same of all
abbrev pub unspent_all : List Lane → List State
unspent_all lanes = map unspent lanes

-- the lanes, without whether they are spent
abbrev pub lanes_in : List State → List Lane
lanes_in states = map (λ (s : State). s.lane) states

-- lanes of which no call was refused memory, each in the place of its number
pub record AreLined (states : List State) : Type 0 where
  pub unspent : states ≡ unspent_all (lanes_in states)
  pub places : map (λ lane. lane.number) (lanes_in states) ≡ range_with_len 0 (length states)

-- what a letter gives has gone over, between lanes in the places of their numbers
pub record HasGone (tick : Tick) (letter : Letter) (states now : List State) : Type 0 where
  pub over : now ≡ unspent_all (moved tick (handing_of letter (lanes_in states)) (lanes_in states))

-- a lane after a step, where it is that of a number
abbrev pub at_number : LaneNumber → (Lane → Lane) → Lane → Lane
at_number number step lane = if lane.number == number then step lane else lane

-- a lane after a step, of which no call was refused memory
abbrev pub stepped_one : (Lane → Lane) → State → State
stepped_one step s = unspent (step s.lane)

-- the same where the step is its turn
abbrev pub turned_one : Plan → Tick → State → State
turned_one script tick s = stepped_one (turned script tick) s

-- the letters that a lane posts in its turn
abbrev pub out_of_one : Plan → Tick → State → List Letter
out_of_one script tick s = out_of script tick s.lane

-- a lane that may take its turn at a tick, or the delivery before it
pub record IsReadyOne (script : Plan) (tick : Tick) (s : State) : Type 0 where
  pub unspent : s.spent ≡ false
  pub ready : IsReady script tick half_count s.lane

-- lanes of a script by their rising numbers, each of which may take its turn at a tick
pub record IsRound (script : Plan) (tick : Tick) (states : List State) : Type 0 where
  pub ready : AllByRecursion (IsReadyOne script tick) states
  pub order : RisesBy (λ (s : State). s.lane.number) states
  pub below : AllByRecursion (λ s. s.lane.number < length script.lanes) states

-- lanes that may take their turns, and an empty tray
pub record IsFresh (script : Plan) (tick : Tick) (share : Share) : Type 0 where
  pub lanes : AllByRecursion (IsReadyOne script tick) share.lanes.items
  pub tray : share.tray ≡ []

-- the lanes after their turns, in their order, and what they posted
pub record IsTurned (script : Plan) (tick : Tick) (old new : Share) : Type 0 where
  pub lanes : new.lanes.items ≡ map (turned_one script tick) old.lanes.items
  pub letters : new.tray ≡ flat_map (out_of_one script tick) old.lanes.items

-- whether a share has lanes: for one that has none no worker is started
abbrev pub has_lanes : Share → Bool
has_lanes share = nat_lt 0 (length share.lanes.items)

-- the lanes of all shares
abbrev pub handed : List Share → List State
handed shares = flat_map (λ share. share.lanes.items) shares

-- the letters of all shares
abbrev pub carried : List Share → List Letter
carried shares = flat_map (λ share. share.tray) shares

-- no worker failed, and these are the lanes and the letters of their shares
pub record IsGathered (hauls : List (Result Share LaneFault)) (lanes : List State) (letters : List Letter) : Type 0 where
  pub shares : List Share
  pub all : hauls ≡ map Ok shares
  pub back : lanes ≡ handed shares
  pub posted : letters ≡ carried shares

-- shares stand by their workers' numbers, from n on
abbrev pub AreWorkers : ℕ → List Share → Type 0
AreWorkers n [] = Unit {0}
AreWorkers n (share ∷ shares) = (share.worker ≡ n) × AreWorkers (n + 1) shares

-- the lanes of a worker, in their order
abbrev pub lanes_of : Crew → ℕ → List State → List State
lanes_of crew worker lanes = filter (λ s. worker_of crew s.lane.number == worker) lanes

-- of the lanes that were dealt, a share has those of its worker
abbrev pub HasTheirs : Crew → List State → Share → Type 0
HasTheirs crew lanes share = share.lanes.items ≡ lanes_of crew share.worker lanes
