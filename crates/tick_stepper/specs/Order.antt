-- Lists in the order of a number, and lanes in that of theirs.
use Rattle.std.specs.Prelude.{ℕ, ◌<◌, List, [], ◌∷◌}
use Rattle.std.specs.List.{AllByRecursion}
use Rattle.lane_turn.specs.Lane.{Lane}

-- each number is below all that follow
abbrev pub RisesBy : {X : Type 0} → (X → ℕ) → List X → Type 0
RisesBy number [] = Unit {0}
RisesBy number (x ∷ xs) = AllByRecursion (λ later. number x < number later) xs × RisesBy number xs

-- lanes by rising number
abbrev pub ByNumber : List Lane → Type 0
ByNumber lanes = RisesBy (λ (lane : Lane). lane.number) lanes
