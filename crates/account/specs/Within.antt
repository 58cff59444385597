-- What is so of each place in a tick of a run.
use Rattle.std.specs.Prelude.{◌≡◌, ℕ, ◌+◌, ◌*◌, ◌≤◌, Option, Some, None, List, [], ◌∷◌, ◌++◌, map, length}
use Rattle.std.specs.List.{AllByRecursion}
use Rattle.loop_script.specs.declared.plan.Plan.{Plan}
use Rattle.loop_script.specs.Units.{Tick}
use Rattle.post_office.specs.declared.letter.Letter.{Letter}
use Rattle.lane_turn.specs.Lane.{Lane, Turn}
use Rattle.lane_turn.specs.Turn.{turned, begun_polled}
use Rattle.lane_turn.specs.Handover.{handed_over}
use Rattle.lane_turn.specs.Tick.{posted_at, lanes_at}
use Rattle.lane_turn.specs.Sound.{IsReady, IsGoing}
use Rattle.lane_turn.specs.Limits.{half_count, turn_growth}
use Rattle.tick_stepper.specs.Account.{Place, Turning, Giving, Bringing, held_lanes, held_end, held_posted, all_brought}

-- the turn in progress keeps its bounds
abbrev pub IsHeld : Plan → Tick → Option Turn → Type 0
IsHeld script tick None = Unit {0}
IsHeld script tick (Some t) = IsGoing script tick (half_count + turn_growth) t

-- while turns are taken: they come to the run's, and post its letters; and each lane that waits may take its turn
pub record TakesTurns (script : Plan) (tick : Tick) (over : List Lane) (held : Option Turn) (waiting : List Lane) (posted : List Letter) : Type 0 where
  pub lanes : over ++ (held_lanes (held_end script tick held) ++ map (turned script tick) waiting) ≡ map (turned script tick) (lanes_at script tick)
  pub letters : posted ++ (held_posted (held_end script tick held) ++ posted_at script tick waiting) ≡ posted_at script tick (lanes_at script tick)
  pub bounds : IsHeld script tick held
  pub ready : AllByRecursion (IsReady script tick half_count) waiting

-- lanes with the numbers from n on
abbrev pub StandFrom : ℕ → List Lane → Type 0
StandFrom n [] = Unit {0}
StandFrom n (lane ∷ lanes) = (lane.number ≡ n) × StandFrom (n + 1) lanes

-- while contexts go over: what the letters that are left give comes to the run's lanes, which stand by number
pub record GoesOver (script : Plan) (tick : Tick) (lanes : List Lane) (left letters : List Letter) : Type 0 where
  pub sent : letters ≡ posted_at script tick (lanes_at script tick)
  pub comes : handed_over tick left lanes ≡ handed_over tick letters (map (turned script tick) (lanes_at script tick))
  pub places : StandFrom 0 lanes

-- a lane that may be brought letters: no counter passes its bound
pub record MayTake (script : Plan) (tick : Tick) (letters : List Letter) (lane : Lane) : Type 0 where
  pub bound : ℕ
  pub fits : bound + 2 * length letters ≤ half_count
  pub ready : IsReady script (tick + 1) bound lane

-- lanes that wait for letters, of which the first has some left
abbrev pub AllMayTake : Plan → Tick → (waiting : List Lane) → (left letters : List Letter) → Type 0
AllMayTake script tick [] left letters = Unit {0}
AllMayTake script tick (lane ∷ waiting) left letters = MayTake script tick left lane × AllByRecursion (MayTake script tick letters) waiting

-- while letters are brought: with those that are left the lanes are the run's after the tick
pub record Brings (script : Plan) (tick : Tick) (over waiting : List Lane) (left letters : List Letter) : Type 0 where
  pub lanes : over ++ all_brought script tick waiting left letters ≡ lanes_at script (tick + 1)
  pub may : AllMayTake script tick waiting left letters

-- a place in a tick of the run
abbrev pub IsWithin : Plan → Tick → Place → Type 0
IsWithin script tick (Turning over held waiting posted) = TakesTurns script tick over held waiting posted
IsWithin script tick (Giving lanes left letters) = GoesOver script tick lanes left letters
IsWithin script tick (Bringing over waiting left letters) = Brings script tick over waiting left letters

-- a lane's turn begins: its tasks are polled, all of them at once
abbrev pub polled : Plan → Tick → Place → Place
polled script tick (Turning over None (lane ∷ waiting) posted) = Turning over (Some (begun_polled script tick [] lane)) waiting posted
polled script tick (Turning over None [] posted) = Turning over None [] posted
polled script tick (Turning over (Some t) waiting posted) = Turning over (Some t) waiting posted
polled script tick (Giving lanes left letters) = Giving lanes left letters
polled script tick (Bringing over waiting left letters) = Bringing over waiting left letters
