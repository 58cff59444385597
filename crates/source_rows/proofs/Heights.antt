-- How high a balanced tree can be, by the fewest seats that one of its height has.
use Rattle.std.proofs.Common.{◌≡◌, ℕ, zero, suc, ◌+◌, ◌*◌, ◌^◌, ◌≤◌, ◌⊎◌, inl, inr, List, length, refl, ap, arith}
use Rattle.std.proofs.Math.Nat.{pow-succ'}
use Rattle.source_rows.specs.declared.seats.Seat.{Seat}
use Rattle.source_rows.specs.Seats.{fewest, IsLow}
use Rattle.source_rows.proofs.Low.{fewest_rises}

-- ---- more height, more seats
at_most_or_next : (a b : ℕ) → a ≤ suc b → (a ≤ b) ⊎ (a ≡ suc b)
at_most_or_next zero b h = inl (omega arith)
at_most_or_next (suc a) zero h = inr (ap suc (omega arith))
at_most_or_next (suc a) (suc b) h = more (at_most_or_next a b (omega arith))
  where
    more : (a ≤ b) ⊎ (a ≡ suc b) → (suc a ≤ suc b) ⊎ (suc a ≡ suc (suc b))
    more (inl le) = inl (omega arith)
    more (inr e) = inr (ap suc e)

fewest_up : (a b : ℕ) → a ≤ b → fewest a ≤ fewest b
fewest_up zero zero h = omega arith
fewest_up (suc a) zero h = absurd (omega arith)
fewest_up a (suc b) h = more (λ le. fewest_up a b le) (at_most_or_next a b h)
  where
    more : (a ≤ b → fewest a ≤ fewest b) → (a ≤ b) ⊎ (a ≡ suc b) → fewest a ≤ fewest (suc b)
    more ih (inl le) = let less = ih le in let up = fewest_rises b in omega (arith, less, up)
    more ih (inr e) = rw e (omega arith)

at_most_or_above : (a b : ℕ) → (a ≤ b) ⊎ (b + 1 ≤ a)
at_most_or_above zero b = inl (omega arith)
at_most_or_above (suc a) zero = inr (omega arith)
at_most_or_above (suc a) (suc b) = more (at_most_or_above a b)
  where
    more : (a ≤ b) ⊎ (b + 1 ≤ a) → (suc a ≤ suc b) ⊎ (suc b + 1 ≤ suc a)
    more (inl le) = inl (omega arith)
    more (inr le) = inr (omega arith)

pub of_2000 : (v : List Seat × ℕ) → IsLow v → length v.0 ≤ 2000 → v.1 ≤ 15
of_2000 v low few = by (at_most_or_above v.1 15)
  where
    by : (v.1 ≤ 15) ⊎ (15 + 1 ≤ v.1) → v.1 ≤ 15
    by (inl le) = le
    by (inr le) =
        let is : fewest 16 ≡ 2583 = refl in
        let up : fewest 16 ≤ fewest v.1 = fewest_up 16 v.1 (omega arith) in
        absurd (omega (arith, is, up, low.1, few))

pub of_100 : (v : List Seat × ℕ) → IsLow v → length v.0 ≤ 100 → v.1 ≤ 9
of_100 v low few = by (at_most_or_above v.1 9)
  where
    by : (v.1 ≤ 9) ⊎ (9 + 1 ≤ v.1) → v.1 ≤ 9
    by (inl le) = le
    by (inr le) =
        let is : fewest 10 ≡ 143 = refl in
        let up : fewest 10 ≤ fewest v.1 = fewest_up 10 v.1 (omega arith) in
        absurd (omega (arith, is, up, low.1, few))

-- ---- two levels more, twice as many
doubles : (h n : ℕ) → n ≡ 2 * h → 2 ^ h ≤ fewest n + 1
doubles zero n e = omega arith
doubles (suc h) n e =
    let is : n ≡ suc (suc (2 * h)) = omega arith in
    let ih = doubles h (2 * h) refl in
    let up = fewest_rises (2 * h) in
    let power = pow-succ' 2 h in
    rw is (omega (arith, power, ih, up))

pub logarithm : (v : List Seat × ℕ) (h : ℕ) → IsLow v → 2 * h ≤ v.1 → 2 ^ h ≤ length v.0 + 1
logarithm v h low le =
    let up = fewest_up (2 * h) v.1 le in
    let twice = doubles h (2 * h) refl in
    omega (arith, up, twice, low.1)
