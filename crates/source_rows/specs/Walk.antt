-- A walk through the seats of a tree, one after another.
use Rattle.std.specs.Prelude.{◌≡◌, ℕ, not, Option, Some, None, List, [], ◌∷◌, ◌++◌, filter}
use Rattle.std.specs.Borrow.{Bor}
use Rattle.source_rows.specs.declared.seats.Fork.{Fork}
use Rattle.source_rows.specs.declared.walk.After.{After}
use Rattle.source_rows.specs.declared.seats.Seat.{Seat}
use Rattle.std.specs.Ordering.{is_lt}
use Rattle.source_rows.specs.Inserted.{Rises}
use Rattle.source_rows.specs.declared.row.Row.{Row}
use Rattle.source_rows.specs.Rows.{Key, key_cmp, key_of, in_order}
use Rattle.source_rows.specs.Seats.{is_passed}

-- how many forks a path keeps
abbrev pub most_kept : ℕ
most_kept = 12

-- the seats that stand behind a key, or all of them
abbrev pub behind_key : Option Key → List Seat → List Seat
behind_key after seats = filter (λ s. not (is_passed after s.key)) seats

-- the key of a seat, or another where there is none
abbrev key_after : Option Key → Option (Bor Seat) → Option Key
key_after first None = first
key_after first (Some s) = Some s.now.key

-- the key behind which all stand that are left to a walk: that of the seat that came last, or else that behind which it began
abbrev pub after_of : After → Option Key
after_of a = key_after a.first a.last

-- the seat of a fork, and those on its later side
abbrev pub from_fork : Option (Bor Fork) → List Seat
from_fork None = []
from_fork (Some f) = f.now.seat ∷ f.now.later.0

-- the same of forks one after another
abbrev pub over : List (Option (Bor Fork)) → List Seat
over [] = []
over (f ∷ fs) = from_fork f ++ over fs

-- a list begins with a part
pub record Begins (all part : List Seat) : Type 0 where
  pub rest : List Seat
  pub is : all ≡ part ++ rest

-- each seat stands before the next ones by its key alone
abbrev pub KeysRise : List Seat → Type 0
KeysRise seats = Rises (λ a b. is_lt (key_cmp a.key b.key)) seats

-- the rows that stand behind a key, or all of them, in order
abbrev pub rows_behind : Option Key → List Row → List Row
rows_behind after rows = filter (λ r. not (is_passed after (key_of r))) (in_order rows)
