-- What the letters of a turn tell of their sender.
use Rattle.std.specs.Prelude.{◌≡◌, ℕ, ◌+◌, List, [], ◌∷◌}
use Rattle.loop_script.specs.declared.plan.Plan.{Plan}
use Rattle.post_office.specs.declared.letter.Letter.{Letter}
use Rattle.lane_turn.specs.Lane.{Lane}
use Rattle.lane_turn.specs.Turn.{turned, out_of}
use Rattle.lane_turn.specs.Handover.{Handing, all_handed}
use Rattle.lane_turn.specs.Deliver.{received_all}
use Rattle.loop_script.specs.Units.{Tick, LaneNumber}

-- letters of one sender and tick, numbered on
abbrev pub AreNumbered : (tick : Tick) (sender : LaneNumber) (n : ℕ) → List Letter → Type 0
AreNumbered tick sender n [] = Unit {0}
AreNumbered tick sender n (letter ∷ letters) =
    (letter.tick ≡ tick) × ((letter.sender ≡ sender) × ((letter.number ≡ n) × AreNumbered tick sender (n + 1) letters))

-- how letters are numbered
pub record LettersTell : Type 0 where
  -- a turn's letters carry its tick, its lane's number, and their own from 0 on
  pub numbered : (script : Plan) (tick : Tick) (lane : Lane) → AreNumbered tick lane.number 0 (out_of script tick lane)
  -- no lane changes its number
  pub turned : (script : Plan) (tick : Tick) (lane : Lane) → (turned script tick lane).number ≡ lane.number
  pub handed : (tick : Tick) (hs : List Handing) (lane : Lane) → (all_handed tick hs lane).number ≡ lane.number
  pub received : (script : Plan) (tick : Tick) (letters : List Letter) (lane : Lane) → (received_all script tick letters lane).number ≡ lane.number
