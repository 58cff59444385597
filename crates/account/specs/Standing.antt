-- The place that the fields of a tick in progress stand for.
use Rattle.std.specs.Prelude.{◌≡◌, ℕ, ◌+◌, ◌++◌, Bool, true, false, Option, Some, None, List, [], ◌∷◌, map, length, take, drop}
use Rattle.loop_script.specs.declared.plan.Plan.{Plan}
use Rattle.loop_script.specs.Units.{Tick}
use Rattle.post_office.specs.declared.letter.Letter.{Letter}
use Rattle.lane_turn.specs.Lane.{Lane, State, Turn}
use Rattle.lane_turn.specs.Tick.{lanes_at}
use Rattle.lane_turn.specs.Meaning.{turn_at, IsTurnOf}
use Rattle.tick_stepper.specs.Account.{Place, Turning, Giving, Bringing, started}
use Rattle.tick_stepper.specs.Share.{unspent, lanes_in as lanes_of}
use Rattle.account.specs.declared.turns.Begun.{Begun}
use Rattle.account.specs.declared.going.Going.{Going}
use Rattle.account.specs.declared.going.Phase.{Phase}
use Rattle.account.specs.declared.going.Phase.TheVariants as phases
use Rattle.account.specs.Within.{IsHeld, IsWithin}

-- no call of these lanes was refused memory
abbrev pub AreUnspent : List State → Type 0
AreUnspent states = states ≡ map unspent (lanes_of states)

-- the turn that was begun, of a lane as it is now
abbrev pub turn_in : Lane → Begun → Turn
turn_in lane begun = turn_at lane begun.turn begun.post

-- the first lane that waits is in a turn that was begun, whose bounds it keeps
abbrev pub IsInTurn : Plan → Tick → List Lane → Begun → Type 0
IsInTurn script tick [] begun = Unit {0}
IsInTurn script tick (lane ∷ waiting) begun = IsHeld script tick (Some (turn_in lane begun))

-- a turn that was begun is one of the first lane that waits
abbrev pub OwnsTurn : List Lane → Option Begun → Type 0
OwnsTurn [] begun = Unit {0}
OwnsTurn (lane ∷ waiting) None = Unit {0}
OwnsTurn (lane ∷ waiting) (Some begun) = IsTurnOf lane begun.turn

-- where the turns are, with the first lane that waits in its turn, where it was begun
abbrev pub turning_from : (over waiting : List Lane) → Option Begun → (posted : List Letter) → Place
turning_from over [] begun posted = Turning over None [] posted
turning_from over (lane ∷ waiting) None posted = Turning over None (lane ∷ waiting) posted
turning_from over (lane ∷ waiting) (Some begun) posted = Turning over (Some (turn_in lane begun)) waiting posted

-- the same where the turns of the first n lanes are over
abbrev pub turning : ℕ → List Lane → Option Begun → List Letter → Place
turning n lanes begun posted = turning_from (take n lanes) (drop n lanes) begun posted

-- the same after a step of the turn, or after its end where no step was left
abbrev pub turning_after : Bool → ℕ → List Lane → Begun → List Letter → Place
turning_after true n lanes begun posted = turning n lanes (Some begun) posted
turning_after false n lanes begun posted = turning (n + 1) lanes None (posted ++ begun.post)

-- where letters are brought: the first n lanes have all of them, and the next has the first k
abbrev pub bringing : (n k : ℕ) → List Lane → List Letter → Place
bringing n k lanes letters = Bringing (take n lanes) (drop n lanes) (drop k letters) letters

-- the place of a phase
abbrev pub place_at : List Lane → List Letter → Option Begun → Phase → Place
place_at lanes letters begun (phases.Turning n) = turning n lanes begun letters
place_at lanes letters begun (phases.Giving k) = Giving lanes (drop k letters) letters
place_at lanes letters begun (phases.Bringing n k) = bringing n k lanes letters

-- the place that all fields of a tick in progress stand for
abbrev pub place_of : Going → Place
place_of g = place_at (lanes_of g.lanes.items) g.letters.items g.begun g.phase

-- the turn that was begun is the next lane's
abbrev pub OwnsBegun : List Lane → Option Begun → Phase → Type 0
OwnsBegun lanes begun (phases.Turning n) = OwnsTurn (drop n lanes) begun
OwnsBegun lanes begun (phases.Giving k) = Unit {0}
OwnsBegun lanes begun (phases.Bringing n k) = Unit {0}

-- the fields stand for a place in a tick of the run
pub record Stands (script : Plan) (tick : Tick) (g : Going) : Type 0 where
  pub unspent : AreUnspent g.lanes.items
  pub count : length g.lanes.items ≡ length script.lanes
  pub owns : OwnsBegun (lanes_of g.lanes.items) g.begun g.phase
  pub within : IsWithin script tick (place_of g)

-- the same of a tick of the script; when all are over, the lanes are those of the run
pub record IsCurrent (script : Plan) (tick : Tick) (g : Going) : Type 0 where
  pub stands : Stands script tick g
  pub last : tick ≡ script.ticks → place_of g ≡ started (lanes_at script tick)
