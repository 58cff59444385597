-- What a reading sees and gives, said of its faults one by one: how the forms of reading are put together.
use Rattle.std.proofs.Common.{◌≡◌, ◌⊎◌, ◌↔◌, inl, inr, refl, Bool, true, false, cond}
use Rattle.loop_script.specs.Read.{Read, done, misshapen, beyond, ◌>>=◌}
use Rattle.loop_script.specs.declared.faults.Faults.{Faults}

-- it adds a fault of shape exactly where M, and else, granted Q, one of limits exactly where B; where neither is, its
-- value is so
pub record Meets (Q A : Type 0) (r : Read A) (M B : Type 0) (V : A → Type 0) : Type 0 where
  pub shape : (s : Faults) → ((r.faults s).shape ≡ true) ↔ ((s.shape ≡ true) ⊎ M)
  pub limit : (s : Faults) → Q → (M → ⊥) → ((r.faults s).limit ≡ true) ↔ ((s.limit ≡ true) ⊎ B)
  pub value : Q → (M → ⊥) → (B → ⊥) → V r.value

-- ---- truths
pub either_way : (b : Bool) → (b ≡ true) ⊎ (b ≡ false)
either_way true = inl refl
either_way false = inr refl

pub not_both : {b : Bool} → b ≡ true → b ≡ false → ⊥
not_both h k = cc

only_first : {S M : Type 0} → (M → ⊥) → S ⊎ M → S
only_first n (inl s) = s
only_first n (inr m) = absurd (n m)

pub adds_none : {S M : Type 0} → (M → ⊥) → S ↔ (S ⊎ M)
adds_none n = (inl, only_first n)

pub chained : {F G S M N : Type 0} → G ↔ (F ⊎ N) → F ↔ (S ⊎ M) → G ↔ (S ⊎ (M ⊎ N))
chained {F = F} {G = G} {S = S} {M = M} {N = N} g f = (λ x. out (g.0 x), λ y. g.1 (back y))
  where
    held : S ⊎ M → S ⊎ (M ⊎ N)
    held (inl s) = inl s
    held (inr m) = inr (inl m)

    out : F ⊎ N → S ⊎ (M ⊎ N)
    out (inl x) = held (f.0 x)
    out (inr n) = inr (inr n)

    back : S ⊎ (M ⊎ N) → F ⊎ N
    back (inl s) = inl (f.1 (inl s))
    back (inr (inl m)) = inl (f.1 (inr m))
    back (inr (inr n)) = inr n

pub swapped : {F S M N : Type 0} → F ↔ (S ⊎ M) → M ↔ N → F ↔ (S ⊎ N)
swapped {F = F} {S = S} {M = M} {N = N} f m = (λ x. out (f.0 x), λ y. f.1 (back y))
  where
    out : S ⊎ M → S ⊎ N
    out (inl s) = inl s
    out (inr x) = inr (m.0 x)

    back : S ⊎ N → S ⊎ M
    back (inl s) = inl s
    back (inr x) = inr (m.1 x)

-- ---- the forms
pub meets_done : {Q A M B : Type 0} {V : A → Type 0} (x : A) → (M → ⊥) → (B → ⊥) → V x → Meets Q A (done x) M B V
meets_done x m b v = record { shape = λ s. adds_none m; limit = λ s q n. adds_none b; value = λ q n k. v }

pub meets_misshapen : {Q A M B : Type 0} {V : A → Type 0} (x : A) → M → Meets Q A (misshapen x) M B V
meets_misshapen x m = record {
  shape = λ s. (λ h. inr m, λ h. refl);
  limit = λ s q n. absurd (n m);
  value = λ q n k. absurd (n m);
}

pub meets_beyond : {Q A M B : Type 0} {V : A → Type 0} (x : A) → (M → ⊥) → B → Meets Q A (beyond x) M B V
meets_beyond x m b = record {
  shape = λ s. adds_none m;
  limit = λ s q n. (λ h. inr b, λ h. refl);
  value = λ q n k. absurd (k b);
}

-- a value, where a test holds; else that is beyond its range
pub meets_test : {Q A M B : Type 0} {V : A → Type 0} (c : Bool) (x z : A) → (M → ⊥) → (c ≡ false) ↔ B → V x → Meets Q A (cond c (done x) (beyond z)) M B V
meets_test true x z m b v = meets_done x m (λ k. not_both refl (b.1 k)) v
meets_test false x z m b v = meets_beyond z m (b.0 refl)

-- the same of shape
pub meets_shape : {Q A M B : Type 0} {V : A → Type 0} (c : Bool) (x : A) → (c ≡ false) ↔ M → (B → ⊥) → (c ≡ true → V x) → Meets Q A (cond c (done x) (misshapen x)) M B V
meets_shape true x m b v = meets_done x (λ k. not_both refl (m.1 k)) b (v refl)
meets_shape false x m b v = meets_misshapen x (m.0 refl)

-- ---- the same in other words
pub recast : {Q A M B N C : Type 0} {V W : A → Type 0} {r : Read A} → M ↔ N → (Q → B ↔ C) → (V r.value → W r.value) → Meets Q A r M B V → Meets Q A r N C W
recast m b v h = record {
  shape = λ s. swapped (h.shape s) m;
  limit = λ s q n. swapped (h.limit s q (λ x. n (m.0 x))) (b q);
  value = λ q n k. v (h.value q (λ x. n (m.0 x)) (λ x. k ((b q).0 x)));
}

pub granted : {Q P A M B : Type 0} {V : A → Type 0} {r : Read A} → (P → Q) → Meets Q A r M B V → Meets P A r M B V
granted g h = record { shape = h.shape; limit = λ s q n. h.limit s (g q) n; value = λ q n k. h.value (g q) n k }

-- ---- one part, and then the next
abbrev pub then : {A C : Type 0} → Read A → Read C → Read C
then r k = record { value = k.value; faults = λ s. k.faults (r.faults s) }

pub next : {Q A C M B N D : Type 0} {V : A → Type 0} {W : C → Type 0} {r : Read A} {k : Read C} → Meets Q A r M B V → Meets Q C k N D (λ y. V r.value → W y) → Meets Q C (then r k) (M ⊎ N) (B ⊎ D) W
next {r = r} h k = record {
  shape = λ s. chained (k.shape (r.faults s)) (h.shape s);
  limit = λ s q n. chained (k.limit (r.faults s) q (λ m. n (inr m))) (h.limit s q (λ m. n (inl m)));
  value = λ q n b. k.value q (λ m. n (inr m)) (λ m. b (inr m)) (h.value q (λ m. n (inl m)) (λ m. b (inl m)));
}

-- the last part, of which a value is made
pub last : {Q A C M B : Type 0} {V : A → Type 0} {W : C → Type 0} {r : Read A} (g : A → C) → Meets Q A r M B V → (V r.value → W (g r.value)) → Meets Q C (r >>= λ x. done (g x)) M B W
last g h w = record { shape = h.shape; limit = h.limit; value = λ q n b. w (h.value q n b) }

-- what was read, where a test of it holds; else that is beyond its range
abbrev tested : {A : Type 0} → Read A → A → Bool → Read A
tested r z c = record { value = (cond c (done r.value) (beyond z)).value; faults = λ s. (cond c (done r.value) (beyond z)).faults (r.faults s) }

tested_meets : {Q A M B D : Type 0} {V : A → Type 0} {r : Read A} (z : A) (c : Bool) → Meets Q A r M B V → (V r.value → (c ≡ false) ↔ D) → Meets Q A (tested r z c) M (B ⊎ D) V
tested_meets {Q = Q} {M = M} {B = B} {D = D} {r = r} z true h t = record { shape = h.shape; limit = limit; value = λ q n b. h.value q n (λ x. b (inl x)) }
  where
    limit : (s : Faults) → Q → (M → ⊥) → ((r.faults s).limit ≡ true) ↔ ((s.limit ≡ true) ⊎ (B ⊎ D))
    limit s q n = (λ x. out ((h.limit s q n).0 x), back)
      where
        out : (s.limit ≡ true) ⊎ B → (s.limit ≡ true) ⊎ (B ⊎ D)
        out (inl x) = inl x
        out (inr x) = inr (inl x)

        further : D → ((r.faults s).limit ≡ true) ⊎ ((r.faults s).limit ≡ false) → (r.faults s).limit ≡ true
        further d (inl x) = x
        further d (inr x) = absurd (not_both refl ((t (h.value q n (λ b. not_both ((h.limit s q n).1 (inr b)) x))).1 d))

        back : (s.limit ≡ true) ⊎ (B ⊎ D) → (r.faults s).limit ≡ true
        back (inl x) = (h.limit s q n).1 (inl x)
        back (inr (inl x)) = (h.limit s q n).1 (inr x)
        back (inr (inr x)) = further x (either_way (r.faults s).limit)
tested_meets {Q = Q} {M = M} {B = B} {D = D} {r = r} z false h t = record { shape = h.shape; limit = limit; value = λ q n b. absurd (b (inr ((t (h.value q n (λ x. b (inl x)))).0 refl))) }
  where
    limit : (s : Faults) → Q → (M → ⊥) → (true ≡ true) ↔ ((s.limit ≡ true) ⊎ (B ⊎ D))
    limit s q n = (λ x. by (either_way (r.faults s).limit), λ x. refl)
      where
        out : (s.limit ≡ true) ⊎ B → (s.limit ≡ true) ⊎ (B ⊎ D)
        out (inl x) = inl x
        out (inr x) = inr (inl x)

        by : ((r.faults s).limit ≡ true) ⊎ ((r.faults s).limit ≡ false) → (s.limit ≡ true) ⊎ (B ⊎ D)
        by (inl x) = out ((h.limit s q n).0 x)
        by (inr x) = inr (inr ((t (h.value q n (λ b. not_both ((h.limit s q n).1 (inr b)) x))).0 refl))

pub meets_tested : {Q A M B D : Type 0} {V : A → Type 0} {r : Read A} (b : A → Bool) (z : A) → Meets Q A r M B V → (V r.value → (b r.value ≡ false) ↔ D) → Meets Q A (r >>= λ x. cond (b x) (done x) (beyond z)) M (B ⊎ D) V
meets_tested {r = r} b z h t = tested_meets z (b r.value) h t
