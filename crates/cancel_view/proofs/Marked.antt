-- Marks of two sets together.
use Rattle.std.proofs.Common.{◌≡◌, ℕ, nat_lt, ◌<◌, ◌%◌, ◌^◌, ◌==◌, Bool, true, false, cond, not, List, [], ◌∷◌, refl, ap, sym, ◌∙◌, arith}
use Rattle.std.proofs.lemmas.Bool.Decides.{nat_tests}
use Rattle.std.proofs.lemmas.Nat.{and_comm, and_le_l, and_or_self, and_assoc, or_comm, pow_pos}
use Rattle.std.specs.Prelude.{zero, suc, bit_and, bit_or, replicate, slice_index_or, slice_set}
use Rattle.cancel_view.specs.Marks.{Marks, no_mark, cancel_number, mark_of, meets, AreMarked}

none_by : (n : ℕ) → n ≡ 0 → not (n == 0) ≡ false
none_by n e = let is : (n == 0) ≡ true = grind (arith, nat_tests) in ap not is

pub some_by : (n : ℕ) → 0 < n → not (n == 0) ≡ true
some_by n h = let is : (n == 0) ≡ false = grind (arith, nat_tests) in ap not is

zero_of : (n : ℕ) → not (n == 0) ≡ false → n ≡ 0
zero_of n h = grind (arith, nat_tests)

pub zero_and : (m : ℕ) → bit_and 0 m ≡ 0
zero_and m = omega (arith, and_le_l 0 m)

-- what has none of two sets has none of one
apart : (a m n : Marks) → bit_and a (bit_or m n) ≡ 0 → bit_and a m ≡ 0
apart a m n e =
    ap (bit_and a) (sym (and_or_self m n))
    ∙ (sym (and_assoc m a (bit_or n m))
    ∙ (ap (λ (x : ℕ). bit_and (bit_and a x) m) (or_comm n m)
    ∙ (ap (λ (x : ℕ). bit_and x m) e ∙ zero_and m)))

pub apart_first : (a m n : Marks) → meets a (bit_or m n) ≡ false → meets a m ≡ false
apart_first a m n h = none_by _ (apart a m n (zero_of _ h))

pub apart_second : (a m n : Marks) → meets a (bit_or m n) ≡ false → meets a n ≡ false
apart_second a m n h = apart_first a n m (ap (meets a) (or_comm n m) ∙ h)

-- what has one of a set has one of two
pub meets_more : (a m n : Marks) → meets a m ≡ true → meets a (bit_or m n) ≡ true
meets_more a m n h = by (meets a (bit_or m n)) refl
  where
    by : (b : Bool) → meets a (bit_or m n) ≡ b → b ≡ true
    by true e = refl
    by false e = sym (apart_first a m n e) ∙ h

pub meets_same : (a b : Marks) → meets a b ≡ meets b a
meets_same a b = ap (λ (n : ℕ). not (n == 0)) (and_comm a b)

-- a power of two that was added is there
pub meets_own : (m k : ℕ) → meets (2 ^ k) (bit_or m (2 ^ k)) ≡ true
meets_own m k = ap (λ (n : ℕ). not (n == 0)) (and_comm (2 ^ k) (bit_or m (2 ^ k)) ∙ and_or_self (2 ^ k) m) ∙ some_by (2 ^ k) (pow_pos k)

-- ---- members and their marks

none_at : (n c : ℕ) → slice_index_or (replicate n false) c false ≡ false
none_at zero c = refl
none_at (suc n) zero = refl
none_at (suc n) (suc c) = none_at n c

pub marked_none : (n : ℕ) (marks : Marks) → AreMarked (replicate n false) marks
marked_none n marks = λ c h. let no : false ≡ true = sym (none_at n c) ∙ h in cc

same_or_old : (c d : ℕ) (members : List Bool) → (d == c) ≡ false → slice_index_or (slice_set members c true) d false ≡ slice_index_or members d false
same_or_old c d [] e = refl
same_or_old zero zero (x ∷ members) e = cc
same_or_old zero (suc d) (x ∷ members) e = refl
same_or_old (suc c) zero (x ∷ members) e = refl
same_or_old (suc c) (suc d) (x ∷ members) e = same_or_old c d members (grind (arith, nat_tests))

cancel_opens : (c : ℕ) → mark_of c ≡ 2 ^ cancel_number c
cancel_opens c = let here : nat_lt (cancel_number c) no_mark ≡ true = let l : c % 256 < 256 = omega arith in grind (arith, nat_tests, l) in ap (λ (b : Bool). cond b (2 ^ cancel_number c) 0) here

pub marked_more : (c : ℕ) (members new_members : List Bool) (marks new_marks : Marks) → AreMarked members marks → new_members ≡ slice_set members c true → new_marks ≡ bit_or marks (mark_of c) → AreMarked new_members new_marks
marked_more c members new_members marks new_marks k e f = rw (e, f) (λ d h. by d h (d == c) refl)
  where
    by : (d : ℕ) → slice_index_or (slice_set members c true) d false ≡ true → (b : Bool) → (d == c) ≡ b → meets (mark_of d) (bit_or marks (mark_of c)) ≡ true
    by d h true g = let same : d ≡ c = grind (arith, nat_tests) in rw (same, cancel_opens c) (meets_own marks (cancel_number c))
    by d h false g = meets_more (mark_of d) marks (mark_of c) (k d (sym (same_or_old c d members g) ∙ h))
