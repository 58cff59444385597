-- Lanes commute within a tick.
use Rattle.std.specs.Prelude.{◌≡◌, ◌⊎◌, ℕ, List, map, IsPermutation}
use Rattle.loop_script.specs.declared.plan.Plan.{Plan}
use Rattle.post_office.specs.declared.letter.Letter.{Letter}
use Rattle.post_office.specs.Order.{InOrder}
use Rattle.lane_turn.specs.Lane.{Lane}
use Rattle.lane_turn.specs.Turn.{turned}
use Rattle.lane_turn.specs.Deliver.{delivered}
use Rattle.lane_turn.specs.Tick.{posted_at, ticked}
use Rattle.post_office.specs.Merge.{IsMerge, concat}
use Rattle.post_office.specs.Parts.{claims, posts, all_claims, unclaimed}
use Rattle.tick_stepper.specs.Order.{ByNumber}
use Rattle.tick_stepper.specs.Machine.{TickState, Move, Claim, Step, Done, moved, after, opening, AreFree, IsFull, taken_of, over_of, posted_of, work_of, mail_of}
use Rattle.loop_script.specs.Units.{Tick}

-- what the lanes of each list post at a tick, in order
abbrev pub sent_by : Plan → Tick → List (List Lane) → List (List Letter)
sent_by script tick lists = map (posted_at script tick) lists

-- each lane was taken once, each worker posted what its lanes post, the office is a merge of that, and the lanes are the turned ones:
-- put in order again, they are those that one thread turns
pub record IsTurned (script : Plan) (tick : Tick) (lanes : List Lane) (s : TickState) : Type 0 where
  pub split : IsPermutation lanes (concat (taken_of s))
  pub posted : posted_of s ≡ sent_by script tick (taken_of s)
  pub office : IsMerge (posted_of s) s.office
  pub each : over_of s ≡ map (map (turned script tick)) (taken_of s)
  pub ends : (sorted : List Lane) → ByNumber lanes → IsPermutation (concat (over_of s)) sorted → ByNumber sorted → sorted ≡ map (turned script tick) lanes

-- whatever workers there are and however their moves fall, where all is done the tick's turns are those of one thread
abbrev pub EachTurnedOnce : Type 0
EachTurnedOnce = (script : Plan) (tick : Tick) (workers : ℕ) (lanes : List Lane) (moves : List Move)
    → IsFull (after script tick moves (opening workers lanes)) → IsTurned script tick lanes (after script tick moves (opening workers lanes))

-- whoever turned the lanes, and however their letters were mixed, what is put in order and delivered leads to the tick of one thread
abbrev pub DeliveryIsOne : Type 0
DeliveryIsOne = (script : Plan) (tick : Tick) (lanes : List Lane) (lists : List (List Lane)) (office sorted : List Letter)
    → ByNumber lanes → IsPermutation lanes (concat lists) → IsMerge (sent_by script tick lists) office → IsPermutation office sorted → InOrder sorted
    → delivered script tick sorted (map (turned script tick) lanes) ≡ ticked script tick lanes

-- so the tick of several workers is the tick of one thread, once its lanes and its letters are put in order
abbrev pub TickIsOne : Type 0
TickIsOne = (script : Plan) (tick : Tick) (workers : ℕ) (lanes : List Lane) (moves : List Move) (turns : List Lane) (letters : List Letter)
    → (let s = after script tick moves (opening workers lanes) in IsFull s → ByNumber lanes → IsPermutation (concat (over_of s)) turns → ByNumber turns
    → IsPermutation s.office letters → InOrder letters → delivered script tick letters turns ≡ ticked script tick lanes)

-- a claim changes the work by at most one taken lane, a step the mail by at most one letter, and nothing else changes either
abbrev pub Changes : Move → TickState → TickState → Type 0
Changes (Claim w n) s s' = ((work_of s' ≡ work_of s) ⊎ (work_of s' ≡ claims w n (work_of s))) × (mail_of s' ≡ mail_of s)
Changes (Step w) s s' = (work_of s' ≡ work_of s) × ((mail_of s' ≡ mail_of s) ⊎ ((x : Letter) × (mail_of s' ≡ posts w x (mail_of s))))
Changes (Done w) s s' = (work_of s' ≡ work_of s) × (mail_of s' ≡ mail_of s)

-- each move changes the parts that it says, and no other
abbrev pub ChangesArePartial : Type 0
ChangesArePartial = (script : Plan) (tick : Tick) (s : TickState) (move : Move) → Changes move s (moved script tick s move)

-- whatever workers claim the first that waits, one after another: there are moves that do just that, and end each turn
abbrev pub ClaimsHappen : Type 0
ClaimsHappen = (script : Plan) (tick : Tick) (workers : ℕ) (lanes : List Lane) (who : List ℕ)
    → (moves : List Move) × (let s = after script tick moves (opening workers lanes) in
    (work_of s ≡ all_claims who (unclaimed workers lanes)) × AreFree s.workers)
