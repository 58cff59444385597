-- The last seat, and the last row, that does not stand behind a key.
use Rattle.std.specs.Prelude.{◌≡◌, Bool, true, false, not, List, ◌∷◌, ◌++◌, Some}
use Rattle.std.specs.List.{AllByRecursion}
use Rattle.std.specs.Ordering.{is_lt, is_gt}
use Rattle.source_rows.specs.declared.row.Row.{Row}
use Rattle.source_rows.specs.declared.seats.Seat.{Seat}
use Rattle.source_rows.specs.Rows.{Key, key_cmp, key_of, row_of}

-- the key does not stand before the seat
abbrev pub stands_to : Key → Seat → Bool
stands_to key s = not (is_lt (key_cmp key s.key))

-- the seat does not stand behind the key, and each that follows it does
pub record IsLastTo (key : Key) (seats : List Seat) (s : Seat) : Type 0 where
  pub before : List Seat
  pub behind : List Seat
  pub are : seats ≡ before ++ s ∷ behind
  pub here : stands_to key s ≡ true
  pub none : AllByRecursion (λ u. stands_to key u ≡ false) behind

-- the row does not stand behind the key, and no row that does not stands behind it
pub record IsLastRow (key : Key) (rows : List Row) (r : Row) : Type 0 where
  pub own : row_of r.id rows ≡ Some r
  pub here : is_gt (key_cmp (key_of r) key) ≡ false
  pub last : AllByRecursion (λ x. is_gt (key_cmp (key_of x) key) ≡ false → is_lt (key_cmp (key_of r) (key_of x)) ≡ false) rows
