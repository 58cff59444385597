-- Lanes that stand by number: the one of a number is at its place.
use Rattle.std.proofs.Common.{◌≡◌, ◌≢◌, ◌⊎◌, inl, inr, ℕ, zero, suc, ◌+◌, ◌<◌, ◌≤◌, ◌==◌, Bool, false, cond, Some, None, List, [], ◌∷◌, map, length, get_or, refl, ap, sym, ◌∙◌, arith}
use Rattle.std.specs.List.{AllByRecursion}
use Rattle.std.proofs.lemmas.Bool.{eq-eqb, ne_eqb}
use Rattle.lane_turn.specs.Lane.{Lane}
use Rattle.lane_turn.specs.Handover.{lane_of_number}

-- numbers from n on
abbrev pub Counted : ℕ → List Lane → Type 0
Counted n [] = Unit {0}
Counted n (lane ∷ lanes) = (lane.number ≡ n) × Counted (n + 1) lanes

pub counted_step : (step : Lane → Lane) → ((lane : Lane) → (step lane).number ≡ lane.number) → (n : ℕ) (lanes : List Lane) → Counted n lanes → Counted n (map step lanes)
counted_step step same n [] h = tt
counted_step step same n (lane ∷ lanes) h = (same lane ∙ h.0, counted_step step same (n + 1) lanes h.1)

abbrev pub IsOutside : (k a n : ℕ) → Type 0
IsOutside k a n = (k < a) ⊎ (a + n ≤ k)

pub tail_outside : (k a n : ℕ) → IsOutside k a (suc n) → IsOutside k (a + 1) n
tail_outside k a n (inl h) = inl (omega (arith, h))
tail_outside k a n (inr h) = inr (omega (arith, h))

pub is_other : (k a n : ℕ) → IsOutside k a (suc n) → a ≢ k
is_other k a n (inl h) e = absurd (omega (arith, h, e))
is_other k a n (inr h) e = absurd (omega (arith, h, e))

pub other_number : (k a : ℕ) (lane : Lane) → lane.number ≡ a → a ≢ k → (lane.number == k) ≡ false
other_number k a lane c h = ne_eqb lane.number k (λ e. h (sym c ∙ e))

pub found_none : (k a : ℕ) (lanes : List Lane) → Counted a lanes → IsOutside k a (length lanes) → lane_of_number k lanes ≡ None
found_none k a [] c h = refl
found_none k a (lane ∷ lanes) c h =
    ap (λ (b : Bool). cond b (Some lane) (lane_of_number k lanes)) (other_number k a lane c.0 (is_other k a (length lanes) h))
    ∙ found_none k (a + 1) lanes c.1 (tail_outside k a (length lanes) h)

pub found_at : (k a i : ℕ) (lanes : List Lane) (d : Lane) → k ≡ a + i → Counted a lanes → i < length lanes → lane_of_number k lanes ≡ Some (get_or lanes i d)
found_at k a i [] d e c h = absurd (omega (arith, h))
found_at k a zero (lane ∷ lanes) d e c h = ap (λ (b : Bool). cond b (Some lane) (lane_of_number k lanes)) (eq-eqb lane.number k (omega (arith, c.0, e)))
found_at k a (suc i) (lane ∷ lanes) d e c h =
    ap (λ (b : Bool). cond b (Some lane) (lane_of_number k lanes)) (other_number k a lane c.0 (λ p. absurd (omega (arith, p, e))))
    ∙ found_at k (a + 1) i lanes d (omega (arith, e)) c.1 (omega (arith, h))

pub number_at : (a i : ℕ) (lanes : List Lane) (d : Lane) → Counted a lanes → i < length lanes → (get_or lanes i d).number ≡ a + i
number_at a i [] d c h = absurd (omega (arith, h))
number_at a zero (lane ∷ lanes) d c h = omega (arith, c.0)
number_at a (suc i) (lane ∷ lanes) d c h = number_at (a + 1) i lanes d c.1 (omega (arith, h)) ∙ omega arith

pub each_at : (P : Lane → Type 0) (i : ℕ) (lanes : List Lane) (d : Lane) → AllByRecursion P lanes → i < length lanes → P (get_or lanes i d)
each_at P i [] d a h = absurd (omega (arith, h))
each_at P zero (lane ∷ lanes) d a h = a.0
each_at P (suc i) (lane ∷ lanes) d a h = each_at P i lanes d a.1 (omega (arith, h))
