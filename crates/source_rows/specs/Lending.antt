-- How one side of a tree is lent.
use Rattle.std.specs.Prelude.{ℕ, Bool, List, if◌then◌else◌}
use Rattle.std.specs.Borrow.{Lends, MutBor, Fml}
use Rattle.source_rows.specs.declared.seats.Fork.{Fork}
use Rattle.source_rows.specs.declared.seats.Seat.{Seat}
use Rattle.source_rows.specs.contracts.seats.Fork.{the_row as fork_row}
use Rattle.source_rows.specs.contracts.seats.Seats.{the_row as seats_row}

-- a fork with other seats on one side
abbrev pub with_side : Fork → Bool → List Seat × ℕ → Fork
with_side f first side = if first then record f { sooner = side } else record f { later = side }

-- f ends with that side set to the last value behind r
abbrev pub LendsSide : MutBor Fork → Bool → MutBor (List Seat × ℕ) → Fml
LendsSide f first r = Lends fork_row seats_row f r (with_side f.now first)
