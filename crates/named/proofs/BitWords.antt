-- The bits of words with bars between them.
use Rattle.std.proofs.Common.{◌≡◌, ◌-◌, ℕ, zero, suc, List, None, refl, ap, arith, if◌then◌else◌}
use Rattle.std.specs.List.{before_first, after_first}
use Rattle.named.specs.Leaf.{bit, bits_in, both, has_bar, is_bar}

pub bits_none : (n : ℕ) (s : List ℕ) → n ≡ 0 → bits_in n s ≡ None
bits_none n s e = ap (λ m. bits_in m s) e

pub bits_step : (n : ℕ) (s : List ℕ) → (n ≡ 0 → ⊥) → bits_in n s ≡ (if has_bar s then both (bit (before_first is_bar s)) (bits_in (n - 1) (after_first is_bar s)) else bit s)
bits_step zero s h = absurd (h refl)
bits_step (suc n) s h =
    let e : n ≡ suc n - 1 = omega arith in
    ap (λ m. if has_bar s then both (bit (before_first is_bar s)) (bits_in m (after_first is_bar s)) else bit s) e
