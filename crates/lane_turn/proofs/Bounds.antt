-- What is looked up in a lane is within the bound of its counters.
use Rattle.std.proofs.Common.{◌≡◌, ℕ, zero, suc, ◌^◌, ◌<◌, ◌≤◌, Bool, true, false, cond, Option, Some, None, List, [], ◌∷◌, refl, ap, arith, ◌==◌, find}
use Rattle.std.specs.Prelude.{slice_get, IfSome}
use Rattle.std.specs.List.{AllByRecursion}
use Rattle.source_rows.specs.declared.row.Row.{Row}
use Rattle.source_rows.specs.Rows.{RowSet, row_of as row_with}
use Rattle.context_core.specs.declared.context.Context.{Context}
use Rattle.lane_turn.specs.Lane.{Lane, present, context_at, row_in, row_of}
use Rattle.lane_turn.specs.Sound.{IsBounded, Bounded, IsWithin}

-- a row that is found is within the bound of its lane
some_row : (a b : Row) → Some a ≡ Some b → a ≡ b
some_row a b e = cc

found_by : (m : ℕ) (p : Row → Bool) (r : Row) (rows : List Row) (row : Row) (b : Bool) → b ≡ p r → AllByRecursion (λ q. q.count ≤ m) (r ∷ rows) → (Some row ≡ find p rows → row.count ≤ m) → Some row ≡ cond b (Some r) (find p rows) → row.count ≤ m
found_by m p r rows row true e h f k = let s : row ≡ r = some_row row r k in omega (arith, ap (λ (q : Row). q.count) s, h.0)
found_by m p r rows row false e h f k = f k

found : (m : ℕ) (p : Row → Bool) (rows : List Row) (row : Row) → AllByRecursion (λ r. r.count ≤ m) rows → Some row ≡ find p rows → row.count ≤ m
found m p [] row h e = cc
found m p (r ∷ rows) row h e = found_by m p r rows row (p r) refl h (found m p rows row h.1) e

count_by_bound : (o : Option Row) → ((r : Row) → Some r ≡ o → r.count ≤ 2 ^ 62) → IfSome o (λ r. r.count < 2 ^ 63)
count_by_bound None h = tt
count_by_bound (Some r) h = let k = h r refl in omega (arith, k)

pub count_fits : (id : ℕ) (s : RowSet) → IsBounded (2 ^ 62) s → IfSome (row_with id s.rows) (λ r. r.count < 2 ^ 63)
count_fits id s b = count_by_bound (row_with id s.rows) (λ r e. found (2 ^ 62) (λ q. q.id == id) s.rows r b.counts e)

pub bounded_at : (m : ℕ) (contexts : List (Option Context)) (i : ℕ) → AllByRecursion (Bounded m) contexts → Bounded m (present (slice_get contexts i))
bounded_at m [] i b = tt
bounded_at m (o ∷ contexts) zero b = b.0
bounded_at m (o ∷ contexts) (suc i) b = bounded_at m contexts i b.1

in_bounded : (m id : ℕ) (row : Row) (o : Option Context) → Bounded m o → Some row ≡ row_in id o → row.count ≤ m
in_bounded m id row None b e = cc
in_bounded m id row (Some c) b e = found m (λ r. r.id == id) c.rows.rows row b.sources.counts e

pub row_within : (m context id : ℕ) (lane : Lane) (row : Row) → IsWithin m lane → Some row ≡ row_of context id lane → row.count ≤ m
row_within m context id lane row w e = in_bounded m id row (context_at context lane) (bounded_at m lane.contexts context w.contexts) e
