-- One step through the rows that may be ready at a time.
use Rattle.std.specs.Prelude.{◌≡◌, ◌==◌, ◌&&◌, ◌∷◌, [], Bool, true, false, not, Option, Some, None, List, filter, IfSome, if◌then◌else◌}
use Rattle.std.specs.List.{AllByRecursion}
use Rattle.std.specs.Option.{option_map}
use Rattle.source_rows.specs.declared.row.Row.{Row}
use Rattle.source_rows.specs.declared.seats.Seat.{Seat}
use Rattle.source_rows.specs.declared.candidates.Near.{Near}
use Rattle.source_rows.specs.declared.candidates.Near.TheVariants.{Came, Sleep, Ended}
use Rattle.source_rows.specs.InOrder.{AllFound, ids_of, rows_of}
use Rattle.source_rows.specs.Rows.{key_of, row_of, in_order, is_under, stands_before}
use Rattle.source_rows.specs.Tree.{IsForest, parent_of}
use Rattle.source_rows.specs.Kept.{AllApart}
use Rattle.source_rows.specs.Seats.{is_passed, seat_of}
use Rattle.source_rows.specs.Candidates.{is_awake, may_call}
use Rattle.source_rows.specs.declared.sight.Sight.{Sight}
use Rattle.loop_script.specs.Units.{SourceId}

-- a row stands behind the last one, if there was one
abbrev pub follows : Option Row → Row → Bool
follows last r = not (is_passed (option_map key_of last) (key_of r))

-- a row behind the last one that may be ready, by itself or by one under it
abbrev pub comes : Sight → List Row → Option Row → Row → Bool
comes sight rows last r = follows last r && may_call sight rows r

-- a row behind the last one that may be ready by itself
abbrev pub wakes : Sight → Option Row → Row → Bool
wakes sight last r = follows last r && is_awake sight r

-- the rows that are left behind the last one
abbrev pub left_of : Sight → List Row → Option Row → List Row
left_of sight rows last = filter (comes sight rows last) (in_order rows)

-- the parent of the last row
abbrev pub parent_at : List Row → Option Row → Option Row
parent_at rows None = None
parent_at rows (Some r) = parent_of rows r.parent

-- the row with an id, where the last row stands under it
abbrev pub above_at : List Row → Option Row → SourceId → Option Row
above_at rows None id = None
above_at rows (Some r) id = if is_under id r then row_of id rows else None

-- which of two rows stands first
abbrev pub nearer : Option Row → Option Row → Option Row
nearer None b = b
nearer (Some a) None = Some a
nearer (Some a) (Some b) = if stands_before b a then Some b else Some a

-- rows stand in trees, and the last one, if there was one, may be ready, by itself or by one under it
pub record IsStep (rows : List Row) (sight : Sight) (last : Option Row) : Type 0 where
  pub forest : IsForest rows
  pub apart : AllApart rows
  pub valid : IfSome last (λ r. (row_of r.id rows ≡ Some r) × (may_call sight rows r ≡ true))

-- ---- a part of the order that is left

-- the row has the id of a parent
abbrev pub is_parent : Option SourceId → Row → Bool
is_parent None r = false
is_parent (Some id) r = id == r.id

-- the id is that of a parent
abbrev pub is_parent_id : Option SourceId → SourceId → Bool
is_parent_id None n = false
is_parent_id (Some id) n = id == n

-- the last row is a child of the one with an id
abbrev pub is_above_id : Option Row → SourceId → Bool
is_above_id None n = false
is_above_id (Some l) n = is_parent_id l.parent n

-- the last row is a child of this one
abbrev pub is_above_last : Option Row → Row → Bool
is_above_last None r = false
is_above_last (Some l) r = is_parent l.parent r

-- the rows that may be ready of those whose seats a part of the order has
abbrev pub ready_in : Sight → List Row → List Seat → List Row
ready_in sight rows seats = filter (may_call sight rows) (rows_of rows (ids_of seats))

-- a seat is that of the row of its id
abbrev pub IsOfRow : List Row → Seat → Type 0
IsOfRow rows s = (r : Row) → row_of s.id rows ≡ Some r → s ≡ seat_of r

-- a part of the order has all that is left behind the last row
pub record HasLeft (rows : List Row) (sight : Sight) (last : Option Row) (seats : List Seat) : Type 0 where
  pub found : AllFound rows (ids_of seats)
  pub are : AllByRecursion (IsOfRow rows) seats
  pub ready : ready_in sight rows seats ≡ left_of sight rows last

-- what a look at the next rows of a part of the order tells, and the part that it leaves
abbrev pub Looks : Sight → List Row → List Seat → List Seat → Near → Type 0
Looks sight rows before after (Came r) = ready_in sight rows before ≡ r.now ∷ ready_in sight rows after
Looks sight rows before after Sleep = ready_in sight rows before ≡ ready_in sight rows after
Looks sight rows before after Ended = (ready_in sight rows before ≡ []) × (ready_in sight rows after ≡ [])

-- the walk stands behind a row that may be ready, with a part of the order that has all that is left
pub record IsWalk (rows : List Row) (sight : Sight) (last : Option Row) (seats : List Seat) : Type 0 where
  pub step : IsStep rows sight last
  pub left : HasLeft rows sight last seats
