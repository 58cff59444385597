-- The seats of rows in their order: where a row stands, its id, the mark by which it is open, and when it is due.
use Rattle.std.specs.Prelude.{ℕ, ℤ, pos, ◌*ℤ◌, ◌+ℤ◌, ◌^◌, slice_index, zero, suc, nat_lt, ◌+◌, length, ◌≡◌, ◌≤◌, ◌<◌, ◌⊎◌, Bool, false, not, Option, Some, None, List, [], ◌∷◌, map, filter, bit_or, if◌then◌else◌}
use Rattle.std.specs.Ordering.{is_lt, is_eq, ordering_then, nat_cmp}
use Rattle.std.specs.declared.cmp.Ordering.{Ordering}
use Rattle.loop_script.specs.Bounds.{count_end}
use Rattle.source_rows.specs.declared.row.Row.{Row}
use Rattle.source_rows.specs.declared.least.Least.{Least}
use Rattle.source_rows.specs.declared.seats.Seat.{Seat}
use Rattle.source_rows.specs.Inserted.{inserted}
use Rattle.source_rows.specs.Rows.{Key, key_cmp, key_of}
use Rattle.source_rows.specs.Candidates.{never, due_at, mark_number, sleeps}
use Rattle.source_rows.specs.declared.sight.Sight.{Sight}
use Rattle.cancel_view.specs.Marks.{Marks, opening}
use Rattle.cancel_view.specs.Units.{MarkNumber}
use Rattle.loop_script.specs.Units.{Microseconds, SourceId}

-- by key, then by id, then by mark and time
abbrev pub seat_cmp : Seat → Seat → Ordering
seat_cmp a b = ordering_then (key_cmp a.key b.key) (ordering_then (nat_cmp a.id b.id) (ordering_then (nat_cmp a.mark b.mark) (nat_cmp a.due b.due)))

-- a seat stands before another
abbrev pub is_ahead : Seat → Seat → Bool
is_ahead a b = is_lt (seat_cmp a b)

-- the priority and the first number of the path, as one number
abbrev pub front_of : Key → ℤ
front_of k = k.0 *ℤ pos (2 ^ 64) +ℤ pos (slice_index k.1 0)

-- the seats without one of them
abbrev pub without : Seat → List Seat → List Seat
without t seats = filter (λ u. not (is_eq (seat_cmp t u))) seats

-- two seats are not the same
abbrev pub is_other : Seat → Seat → Bool
is_other a b = not (is_eq (seat_cmp a b))

-- a seat, or another where it is the one
abbrev pub swap : Seat → Seat → Seat → Seat
swap a b u = if is_eq (seat_cmp a u) then b else u

-- the seats with another where one stands
abbrev pub swapped : Seat → Seat → List Seat → List Seat
swapped a b seats = map (swap a b) seats

-- both have one key
abbrev pub stays : Seat → Seat → Bool
stays a b = is_eq (key_cmp a.key b.key)

-- the seats with another in the place of one
abbrev pub replaced : Seat → Seat → List Seat → List Seat
replaced a b seats = if is_other a b then (if stays a b then swapped a b seats else inserted is_ahead b (without a seats)) else seats

-- the lesser of two times
abbrev pub lesser : Microseconds → Microseconds → Microseconds
lesser a b = if nat_lt a b then a else b

-- a time is later than a least one, or it is never
abbrev pub IsLater : Microseconds → Microseconds → Type 0
IsLater time least = (least < time) ⊎ (time ≡ never)

-- the least of a time of each seat, never for none
abbrev pub least_by : (Seat → Microseconds) → List Seat → Microseconds
least_by time [] = never
least_by time (s ∷ seats) = lesser (time s) (least_by time seats)

-- the marks of seats, all together
abbrev pub marks_of : List Seat → Marks
marks_of [] = 0
marks_of (s ∷ seats) = bit_or (opening s.mark) (marks_of seats)

-- the mark of a number adds nothing to those of seats
abbrev pub AddsNone : MarkNumber → List Seat → Type 0
AddsNone n seats = bit_or (marks_of seats) (opening n) ≡ marks_of seats

-- all marks of seats, and the least of their times
abbrev pub least_of : List Seat → Least
least_of seats = record { marks = marks_of seats; due = least_by (λ s. s.due) seats }

-- the key does not stand behind the other
abbrev pub is_passed : Option Key → Key → Bool
is_passed None k = false
is_passed (Some a) k = not (is_lt (key_cmp a k))

-- the id of the first seat behind a key that does not sleep
abbrev pub first_awake : Option Key → Sight → List Seat → Option SourceId
first_awake after sight [] = None
first_awake after sight (s ∷ seats) = if is_passed after s.key then first_awake after sight seats
    else if sleeps sight (opening s.mark) s.due then first_awake after sight seats
    else Some s.id

-- when a seat is due where that is after a time, else never
abbrev pub due_after : Microseconds → Seat → Microseconds
due_after now s = if nat_lt now s.due then s.due else never

-- when the next of the seats is due, after a time
abbrev pub next_due : Microseconds → List Seat → Microseconds
next_due now seats = least_by (due_after now) seats

-- the seat of a row
abbrev pub seat_of : Row → Seat
seat_of r = record { key = key_of r; id = r.id; mark = mark_number r.kind; due = due_at r.ready }

-- the seats of rows
abbrev pub in_seats : List Row → List Seat
in_seats [] = []
in_seats (r ∷ rows) = inserted is_ahead (seat_of r) (in_seats rows)

-- the fewest seats that a tree of a height has where the heights of no two sides differ by more than one: one at its root, and on
-- its sides the fewest of the height below it and of the one below that
abbrev pub fewest : ℕ → ℕ
fewest zero = 0
fewest (suc zero) = 1
fewest (suc (suc h)) = fewest (suc h) + fewest h + 1

-- a tree of seats, seen with its height, is no higher than it has seats, and no higher than a balanced tree of so many can be
abbrev pub IsLow : List Seat × ℕ → Type 0
IsLow v = (v.1 ≤ length v.0) × (fewest v.1 ≤ length v.0)

-- the seats of rows, in a tree that is low
pub record IsSeated (rows : List Row) (seats : List Seat × ℕ) : Type 0 where
  pub are : seats.0 ≡ in_seats rows
  pub few : length seats.0 ≤ count_end
  pub low : IsLow seats
