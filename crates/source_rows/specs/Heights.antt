-- How high a balanced tree of seats can be.
use Rattle.std.specs.Prelude.{ℕ, ◌+◌, ◌*◌, ◌^◌, ◌≤◌, List, length}
use Rattle.source_rows.specs.declared.seats.Seat.{Seat}
use Rattle.source_rows.specs.Seats.{IsLow}

-- what it means for the seats of a tree, seen with its height, that the tree is low
pub record HeightLaws : Type 0 where
  -- its height is at most twice the logarithm of one more than its seats, and one more
  pub logarithm : (v : List Seat × ℕ) (h : ℕ) → IsLow v → 2 * h ≤ v.1 → 2 ^ h ≤ length v.0 + 1
  -- of 2,000 seats at most 15 stand above each other, of 100 at most 9
  pub of_2000 : (v : List Seat × ℕ) → IsLow v → length v.0 ≤ 2000 → v.1 ≤ 15
  pub of_100 : (v : List Seat × ℕ) → IsLow v → length v.0 ≤ 100 → v.1 ≤ 9
