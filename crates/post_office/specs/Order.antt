-- The order in which letters are delivered.
use Rattle.std.specs.Prelude.{◌≡◌, ◌⊎◌, ◌<◌, ◌≤◌, ◌==◌, ◌&&◌, Bool, List, [], ◌∷◌, IsPermutation}
use Rattle.std.specs.List.{AllByRecursion, IsDistinct}
use Rattle.post_office.specs.declared.letter.Letter.{Letter}

-- a letter may stand before another: by sender, those of one sender by number
abbrev pub MayPrecede : Letter → Letter → Type 0
MayPrecede x y = (x.sender < y.sender) ⊎ ((x.sender ≡ y.sender) × (x.number ≤ y.number))

-- each may stand before all that follow
abbrev pub InOrder : List Letter → Type 0
InOrder [] = Unit {0}
InOrder (x ∷ xs) = AllByRecursion (MayPrecede x) xs × InOrder xs

-- whether two have the same sender and number
abbrev pub same_place : Letter → Letter → Bool
same_place x y = (x.sender == y.sender) && (x.number == y.number)

-- letters of which no two have the same sender and number
abbrev pub AreApart : List Letter → Type 0
AreApart letters = IsDistinct same_place letters

-- letters that no two share a sender and number of have one order
abbrev pub OrderIsOne : Type 0
OrderIsOne = (xs ys : List Letter) → AreApart xs → IsPermutation xs ys → InOrder xs → InOrder ys → xs ≡ ys
