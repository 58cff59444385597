-- How low a balanced tree of seats is.
use Rattle.std.proofs.Common.{◌≡◌, ℕ, zero, suc, ◌+◌, ◌≤◌, ◌⊎◌, inl, inr, max, Some, None, List, ◌∷◌, ◌++◌, length, refl, ap, sym, ◌∙◌, subst, arith, length-append}
use Rattle.source_rows.specs.declared.seats.Fork.{Fork}
use Rattle.source_rows.specs.declared.seats.Seat.{Seat}
use Rattle.source_rows.specs.Seats.{swapped, fewest, IsLow}
use Rattle.source_rows.specs.SeatTree.{Root, seats_of, seen_of, DifferBy, IsEvenFork, IsEven}
use Rattle.source_rows.proofs.Ahead.{length_swapped}

pub fewest_rises : (h : ℕ) → fewest h ≤ fewest (suc h)
fewest_rises zero = omega arith
fewest_rises (suc h) = omega arith

-- as many on one side as on the other, or one level less
fewest_even : (h : ℕ) → fewest (suc h) ≤ fewest h + fewest h + 1
fewest_even zero = omega arith
fewest_even (suc h) = let le = fewest_rises h in omega arith

apart_by : (a b : ℕ) → a ≤ b + 1 → b ≤ a + 1 → (a ≡ b) ⊎ ((a ≡ suc b) ⊎ (b ≡ suc a))
apart_by zero zero h k = inl refl
apart_by zero (suc zero) h k = inr (inr refl)
apart_by zero (suc (suc b)) h k = absurd (omega arith)
apart_by (suc zero) zero h k = inr (inl refl)
apart_by (suc (suc a)) zero h k = absurd (omega arith)
apart_by (suc a) (suc b) h k = more (apart_by a b (omega arith) (omega arith))
  where
    more : (a ≡ b) ⊎ ((a ≡ suc b) ⊎ (b ≡ suc a)) → (suc a ≡ suc b) ⊎ ((suc a ≡ suc (suc b)) ⊎ (suc b ≡ suc (suc a)))
    more (inl e) = inl (ap suc e)
    more (inr (inl e)) = inr (inl (ap suc e))
    more (inr (inr e)) = inr (inr (ap suc e))

-- one more seat over two sides
fewest_over : (a b : ℕ) → DifferBy 1 a b → fewest (suc (max a b)) ≤ fewest a + fewest b + 1
fewest_over a b d = by (apart_by a b d.0 d.1)
  where
    to : (h : ℕ) → max a b ≡ h → fewest (suc h) ≤ fewest a + fewest b + 1 → fewest (suc (max a b)) ≤ fewest a + fewest b + 1
    to h e le = subst (λ n. fewest (suc n) ≤ fewest a + fewest b + 1) (sym e) le

    by : (a ≡ b) ⊎ ((a ≡ suc b) ⊎ (b ≡ suc a)) → fewest (suc (max a b)) ≤ fewest a + fewest b + 1
    by (inl e) = to a (omega (arith, e)) (subst (λ n. fewest (suc a) ≤ fewest a + fewest n + 1) e (fewest_even a))
    by (inr (inl e)) = to a (omega (arith, e)) (subst (λ n. fewest (suc n) ≤ fewest n + fewest b + 1) (sym e) (omega arith))
    by (inr (inr e)) = to b (omega (arith, e)) (subst (λ n. fewest (suc n) ≤ fewest a + fewest n + 1) (sym e) (omega arith))

pub low_sides : (v w : List Seat × ℕ) (t : Seat) → DifferBy 1 v.1 w.1 → IsLow v → IsLow w → IsLow (v.0 ++ t ∷ w.0, max v.1 w.1 + 1)
low_sides v w t d l m =
    let is : max v.1 w.1 + 1 ≡ suc (max v.1 w.1) = omega arith in
    let long : length (v.0 ++ t ∷ w.0) ≡ length v.0 + length w.0 + 1 = omega (arith, length-append v.0 (t ∷ w.0)) in
    let over = fewest_over v.1 w.1 d in (
      omega (arith, long, l.0, m.0),
      subst (λ n. fewest n ≤ length (v.0 ++ t ∷ w.0)) (sym is) (omega (arith, long, l.1, m.1, over)),
    )

-- a tree in balance is low
pub low_fork : (f : Fork) → IsEvenFork f → IsLow (seats_of f, f.height)
low_fork f e = subst (λ h. IsLow (seats_of f, h)) (sym e.0) (low_sides f.sooner f.later f.seat e.1 e.2 e.3)

pub low_even : (n : Root) → IsEven n → IsLow (seen_of n)
low_even None e = (omega arith, omega arith)
low_even (Some f) e = low_fork f.value e

-- sides of which one has a seat put where another stands
pub side_swapped : (v w : List Seat × ℕ) (a b : Seat) → w.0 ≡ swapped a b v.0 → w.1 ≡ v.1 → IsLow v → IsLow w
side_swapped v w a b s h low =
    let long = ap (λ (l : List Seat). length l) s ∙ length_swapped a b v.0 in
    (omega (arith, low.0, h, long), subst (λ n. fewest n ≤ length w.0) (sym h) (omega (arith, low.1, long)))
