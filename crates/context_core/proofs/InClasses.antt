-- What the places of classes tell of a list.
use Rattle.std.proofs.Common.{◌≡◌, ◌≢◌, ◌⊎◌, inl, inr, ℕ, zero, suc, ◌+◌, ◌==◌, ◌||◌, Bool, true, false, cond, Some, List, [], ◌∷◌, min, slice_index_or, slice_set, replicate, refl, ap, sym, ◌∙◌, arith}
use Rattle.std.specs.Prelude.{slice_get}
use Rattle.std.specs.List.{list_any, find}
use Rattle.std.proofs.lemmas.Bool.Decides.{eqb_tells, nat_tests}
use Rattle.context_core.specs.declared.interest.Shown.{Shown}
use Rattle.context_core.specs.Phases.{shown, level_of}
use Rattle.context_core.specs.Classes.{class_count, class_of, no_places, far, place_of, noted, TellsFirst}

-- ---- no number noted
empty_at : (n k : ℕ) → (slice_index_or (replicate n 0) k far ≡ 0) ⊎ (slice_index_or (replicate n 0) k far ≡ far)
empty_at zero k = inr refl
empty_at (suc n) zero = inl refl
empty_at (suc n) (suc k) = empty_at n k

pub empty_tells : (list : List Shown) → TellsFirst list no_places
empty_tells list s n is near at = elim (empty_at class_count (class_of s.fd)) [ inl e ↦ absurd (omega (arith, e, is)) | inr e ↦ absurd (omega (arith, e, is, near)) ]

-- ---- one number noted

-- what was set stands there, if anything was; all else stays
set_at : (xs : List ℕ) (c d p : ℕ) → (slice_index_or (slice_set xs c p) d far ≡ slice_index_or xs d far) ⊎ ((slice_index_or (slice_set xs c p) d far ≡ p) × (c ≡ d))
set_at [] c d p = inl refl
set_at (x ∷ xs) zero zero p = inr (refl, refl)
set_at (x ∷ xs) zero (suc d) p = inl refl
set_at (x ∷ xs) (suc c) zero p = inl refl
set_at (x ∷ xs) (suc c) (suc d) p = more (set_at xs c d p)
  where
    more : (slice_index_or (slice_set xs c p) d far ≡ slice_index_or xs d far) ⊎ ((slice_index_or (slice_set xs c p) d far ≡ p) × (c ≡ d)) → (slice_index_or (slice_set xs c p) d far ≡ slice_index_or xs d far) ⊎ ((slice_index_or (slice_set xs c p) d far ≡ p) × (suc c ≡ suc d))
    more (inl e) = inl e
    more (inr e) = inr (e.0, ap suc e.1)

-- where a place is set, there is one
own : (xs : List ℕ) (c p : ℕ) → p ≢ 0 → slice_index_or (slice_set xs c p) c far ≢ 0
own [] c p n e = absurd (omega (arith, e))
own (x ∷ xs) zero p n e = n e
own (x ∷ xs) (suc c) p n e = own xs c p n e

own_by : (one p : ℕ) (places : List ℕ) (b : Bool) → (place_of one places == 0) ≡ b → p ≢ 0 → slice_index_or (cond b (slice_set places (class_of one) p) places) (class_of one) far ≢ 0
own_by one p places true e n h = own places (class_of one) p n h
own_by one p places false e n h = absurd (grind (arith, nat_tests, e, h))

-- a number that was noted has a place
has_place : (one p : ℕ) (places : List ℕ) → p ≢ 0 → place_of one (noted one p places) ≢ 0
has_place one p places n = own_by one p places (place_of one places == 0) refl n

before_by : (one n p : ℕ) (places : List ℕ) (b : Bool) → p ≢ 0 → slice_index_or (cond b (slice_set places (class_of one) p) places) (class_of n) far ≡ 0 → place_of n places ≡ 0
before_by one n p places true h e = elim (set_at places (class_of one) (class_of n) p) [ inl s ↦ sym s ∙ e | inr s ↦ absurd (h (sym s.0 ∙ e)) ]
before_by one n p places false h e = e

-- a class without a place had none before
pub had_none : (one n p : ℕ) (places : List ℕ) → p ≢ 0 → place_of n (noted one p places) ≡ 0 → place_of n places ≡ 0
had_none one n p places h e = before_by one n p places (place_of one places == 0) h e

-- and is not that of the number
pub is_other : (one n p : ℕ) (places : List ℕ) → p ≢ 0 → place_of n (noted one p places) ≡ 0 → (one == n) ≡ false
is_other one n p places h e = elim (eqb_tells one n) [
  | inl t ↦ absurd (has_place one p places h (ap (λ (m : ℕ). place_of m (noted one p places)) t.1 ∙ e))
  | inr f ↦ f.0
]

-- a place is an older one, or that of the number, whose class had none
placed_by : (one n p : ℕ) (places : List ℕ) (b : Bool) → (place_of one places == 0) ≡ b → (slice_index_or (cond b (slice_set places (class_of one) p) places) (class_of n) far ≡ place_of n places)
    ⊎ ((slice_index_or (cond b (slice_set places (class_of one) p) places) (class_of n) far ≡ p) × (place_of one places ≡ 0))
placed_by one n p places true e = elim (set_at places (class_of one) (class_of n) p) [ inl s ↦ inl s | inr s ↦ inr (s.0, grind (arith, nat_tests, e)) ]
placed_by one n p places false e = inl refl

pub placed : (one n p : ℕ) (places : List ℕ) → (place_of n (noted one p places) ≡ place_of n places) ⊎ ((place_of n (noted one p places) ≡ p) × (place_of one places ≡ 0))
placed one n p places = placed_by one n p places (place_of one places == 0) refl

pub some_place : (place p : ℕ) → p ≡ min (place + 1) far → p ≢ 0
some_place place p e z = absurd (grind (arith, e, z))

pub next_min : (place i : ℕ) → place ≡ min i far → min (place + 1) far ≡ min (i + 1) far
next_min place i e = grind (arith, e)

-- ---- ids
pub passed_id : (ids here rest : List ℕ) (one p : ℕ) (places new : List ℕ) → here ≡ one ∷ rest → p ≢ 0 → new ≡ noted one p places
    → ((id : ℕ) → place_of id places ≡ 0 → list_any (λ b. b == id) ids ≡ list_any (λ b. b == id) here)
    → (id : ℕ) → place_of id new ≡ 0 → list_any (λ b. b == id) ids ≡ list_any (λ b. b == id) rest
passed_id ids here rest one p places new at n s h id e =
    let none : place_of id (noted one p places) ≡ 0 = sym (ap (place_of id) s) ∙ e in
    h id (had_none one id p places n none) ∙ (ap (list_any (λ b. b == id)) at ∙ ap (λ (b : Bool). b || list_any (λ b. b == id) rest) (is_other one id p places n none))

-- an id that stands at a place is listed
pub stands : (ids : List ℕ) (place id b : ℕ) → slice_get ids place ≡ Some b → (b == id) ≡ true → list_any (λ b. b == id) ids ≡ true
stands [] place id b h e = cc
stands (t ∷ ts) zero id b h e = cc
stands (t ∷ ts) (suc place) id b h e = later (t == id) (stands ts place id b h e)
  where
    later : (c : Bool) → list_any (λ b. b == id) ts ≡ true → (c || list_any (λ b. b == id) ts) ≡ true
    later true i = refl
    later false i = i

-- ---- descriptors
pub passed_fd : (list here rest : List Shown) (one : Shown) (p : ℕ) (places new : List ℕ) → here ≡ one ∷ rest → p ≢ 0 → new ≡ noted one.fd p places
    → ((fd : ℕ) → place_of fd places ≡ 0 → shown list fd ≡ shown here fd)
    → (fd : ℕ) → place_of fd new ≡ 0 → shown list fd ≡ shown rest fd
passed_fd list here rest one p places new at n s h fd e =
    let none : place_of fd (noted one.fd p places) ≡ 0 = sym (ap (place_of fd) s) ∙ e in
    h fd (had_none one.fd fd p places n none)
    ∙ (ap (λ (l : List Shown). shown l fd) at ∙ ap (λ (b : Bool). level_of (cond b (Some one) (find (λ s. s.fd == fd) rest))) (is_other one.fd fd p places n none))

same_one : (one s : Shown) → Some one ≡ Some s → one ≡ s
same_one one s e = cc

shows_first : (one : Shown) (rest : List Shown) → shown (one ∷ rest) one.fd ≡ one.level
shows_first one rest = elim (eqb_tells one.fd one.fd) [
  | inl t ↦ ap (λ (b : Bool). level_of (cond b (Some one) (find (λ s. s.fd == one.fd) rest))) t.0
  | inr f ↦ absurd (f.1 refl)
]

pub first_fd : (list here rest : List Shown) (one : Shown) (i p : ℕ) (places new : List ℕ) → here ≡ one ∷ rest → slice_get list i ≡ Some one → p ≡ min (i + 1) far → new ≡ noted one.fd p places
    → ((fd : ℕ) → place_of fd places ≡ 0 → shown list fd ≡ shown here fd)
    → TellsFirst list places → TellsFirst list new
first_fd list here rest one i p places new at got e s none first t n is near stands =
    elim (placed one.fd t.fd p places) [
      | inl o ↦ first t n (sym o ∙ is_noted) near stands
      | inr o ↦
          let is_n : suc n ≡ p = sym is_noted ∙ o.0 in
          let i_n : n ≡ i = grind (arith, is_n, e, near) in
          let same : one ≡ t = same_one one t (sym got ∙ (ap (slice_get list) (sym i_n) ∙ stands)) in
          ap (λ (u : Shown). shown list u.fd) (sym same) ∙ (none one.fd o.1 ∙ (ap (λ (l : List Shown). shown l one.fd) at ∙ (shows_first one rest ∙ ap (λ (u : Shown). u.level) same)))
    ]
  where
    is_noted : place_of t.fd (noted one.fd p places) ≡ suc n
    is_noted = sym (ap (place_of t.fd) s) ∙ is
