-- Options that are the same, and propositions that say the same of alternatives.
use Rattle.std.proofs.Common.{◌≡◌, ◌⊎◌, ◌↔◌, inl, inr, Some, None}

pub some_inj : {A : Type 0} {x y : A} → Some x ≡ Some y → x ≡ y
some_inj p = cc

pub is_none : {A : Type 0} {x : A} → Some x ≡ None → ⊥
is_none p = cc

pub same_side : {X : Type 0} → X ↔ X
same_side = (λ x. x, λ x. x)

pub along : {X Y Z : Type 0} → X ↔ Y → Z ↔ Y → X ↔ Z
along f g = (λ x. g.1 (f.0 x), λ z. f.1 (g.0 z))

-- an alternative that never is
pub either_part : {N S : Type 0} → (N → ⊥) → S ↔ (N ⊎ S)
either_part {N = N} {S = S} n = (inr, back)
  where
    back : N ⊎ S → S
    back (inl x) = absurd (n x)
    back (inr s) = s

pub no_more : {B : Type 0} → (B ⊎ ⊥) ↔ B
no_more {B = B} = (out, inl)
  where
    out : B ⊎ ⊥ → B
    out (inl b) = b
    out (inr x) = absurd x

-- the same in another order
pub turned : {S N M : Type 0} → N ↔ M → (S ⊎ N) ↔ (M ⊎ S)
turned {S = S} {N = N} {M = M} e = (out, back)
  where
    out : S ⊎ N → M ⊎ S
    out (inl s) = inr s
    out (inr n) = inl (e.0 n)

    back : M ⊎ S → S ⊎ N
    back (inl m) = inr (e.1 m)
    back (inr s) = inl s

pub regrouped : {S N K M L : Type 0} → N ↔ M → K ↔ L → ((S ⊎ N) ⊎ K) ↔ ((M ⊎ L) ⊎ S)
regrouped {S = S} {N = N} {K = K} {M = M} {L = L} e f = (out, back)
  where
    out : (S ⊎ N) ⊎ K → (M ⊎ L) ⊎ S
    out (inl (inl s)) = inr s
    out (inl (inr n)) = inl (inl (e.0 n))
    out (inr k) = inl (inr (f.0 k))

    back : (M ⊎ L) ⊎ S → (S ⊎ N) ⊎ K
    back (inl (inl m)) = inl (inr (e.1 m))
    back (inl (inr l)) = inr (f.1 l)
    back (inr s) = inl (inl s)
