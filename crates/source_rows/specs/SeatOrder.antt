-- Seats in two trees, of which one stands behind the other.
use Rattle.std.specs.Prelude.{◌≡◌, ℕ, true, false, Option, List, [], ◌∷◌, ◌++◌, max}
use Rattle.std.specs.List.{AllByRecursion}
use Rattle.source_rows.specs.declared.seats.Seat.{Seat}
use Rattle.source_rows.specs.Rows.{Key}
use Rattle.source_rows.specs.Seats.{is_passed}

-- the seats of both in order, and the height of the higher one
abbrev pub seen_together : List Seat × ℕ → List Seat × ℕ → List Seat × ℕ
seen_together front back = (front.0 ++ back.0, max front.1 back.1)

-- no seat stands behind a bound; where there is none, there is no seat
abbrev pub ArePassed : Option Key → List Seat → Type 0
ArePassed bound seats = AllByRecursion (λ u. is_passed bound u.key ≡ true) seats

-- each seat stands behind a bound, or there is none
abbrev pub AreBehind : Option Key → List Seat → Type 0
AreBehind bound seats = AllByRecursion (λ u. is_passed bound u.key ≡ false) seats

-- the key of the last of the seats
pub record IsLastKey (seats : List Seat) (key : Key) : Type 0 where
  pub others : List Seat
  pub seat : Seat
  pub are : seats ≡ others ++ seat ∷ []
  pub is : key ≡ seat.key
