-- What is known of a tree's seats once its root is a fork.
use Rattle.std.proofs.Common.{◌≡◌, ℕ, Some, ◌+◌, ◌≤◌, Bool, true, false, not, cond, ◌||◌, List, [], ◌∷◌, ◌++◌, length, filter, refl, Box, sym, ap, ◌∙◌, subst, arith, length-append}
use Rattle.std.specs.declared.alloc.Global.{Global}
use Rattle.source_rows.specs.Inserted.{inserted, Rises}
use Rattle.source_rows.specs.declared.seats.Seat.{Seat}
use Rattle.source_rows.specs.Seats.{seat_cmp, is_ahead, without}
use Rattle.std.specs.List.{list_any}
use Rattle.std.specs.Ordering.{is_eq}
use Rattle.source_rows.specs.SeatTree.{Root, seats_of, seen_of, IsEvenFork, IsEven}
use Rattle.source_rows.specs.declared.seats.Fork.{Fork}
use Rattle.source_rows.proofs.Inserted.{rises_left, rises_right}

pub record AtFork (d l : List Seat) (k : Seat) (r : List Seat) : Type 0 where
  pub is : d ≡ l ++ k ∷ r
  pub rises : Rises is_ahead (l ++ k ∷ r)
  pub sooner : Rises is_ahead l
  pub later : Rises is_ahead r
  pub parts : length d ≡ length l + length r + 1

pub sides_shorter : (l : List Seat) (k : Seat) (r : List Seat) → length (l ++ k ∷ r) ≡ length l + length r + 1
sides_shorter l k r = omega (arith, length-append l (k ∷ r))

-- what a root shows
pub parts_of : {n : Root} {d : List Seat × ℕ} {f : Box Fork Global} {g : Fork} → seen_of n ≡ d → n ≡ Some f → g ≡ f.value → d.0 ≡ seats_of g
parts_of {n} {d} {f} {g} view_is is same = ap (λ (v : List Seat × ℕ). v.0) (sym view_is ∙ ap seen_of is) ∙ sym (ap seats_of same)

pub even_at : {n : Root} {f : Box Fork Global} {g : Fork} → IsEven n → n ≡ Some f → g ≡ f.value → IsEvenFork g
even_at {n} {f} {g} even is same = subst IsEvenFork (sym same) (subst IsEven is even)

pub at_Fork : {n : Root} {d : List Seat × ℕ} {f : Box Fork Global} {g : Fork} → seen_of n ≡ d → Rises is_ahead d.0 → n ≡ Some f → g ≡ f.value → AtFork d.0 g.sooner.0 g.seat g.later.0
at_Fork {n} {d} {f} {g} view_is rises is same =
    let e = parts_of {f = f} {g = g} view_is is same in
    let s = subst (Rises is_ahead) e rises in
    record {
      is = e;
      rises = s;
      sooner = rises_left is_ahead g.sooner.0 g.seat g.later.0 s;
      later = rises_right is_ahead g.sooner.0 g.seat g.later.0 s;
      parts = rw e (sides_shorter g.sooner.0 g.seat g.later.0);
    }

-- what both sides have, the one that is lent has
pub of_side : (P : List Seat × ℕ → Type 0) (first : Bool) (v w u : List Seat × ℕ) → u ≡ cond first v w → P v → P w → P u
of_side P true v w u e p q = subst P (sym e) p
of_side P false v w u e p q = subst P (sym e) q

-- ---- lengths

length_inserted_by : {A : Type 0} (a x : A) (xs ys : List A) (b : Bool) → length ys ≡ length xs + 1 → length (cond b (a ∷ x ∷ xs) (x ∷ ys)) ≡ length (x ∷ xs) + 1
length_inserted_by a x xs ys true ih = omega arith
length_inserted_by a x xs ys false ih = omega (arith, ih)

pub length_inserted : {A : Type 0} (before : A → A → Bool) (a : A) (xs : List A) → length (inserted before a xs) ≡ length xs + 1
length_inserted before a [] = refl
length_inserted before a (x ∷ xs) = length_inserted_by a x xs (inserted before a xs) (before a x) (length_inserted before a xs)

length_filter_by : {A : Type 0} (x : A) (xs ys : List A) (b : Bool) → length ys ≤ length xs → length (cond b (x ∷ ys) ys) ≤ length (x ∷ xs)
length_filter_by x xs ys true h = omega (arith, h)
length_filter_by x xs ys false h = omega (arith, h)

pub length_filter : {A : Type 0} (p : A → Bool) (xs : List A) → length (filter p xs) ≤ length xs
length_filter p [] = omega arith
length_filter p (x ∷ xs) = length_filter_by x xs (filter p xs) (p x) (length_filter p xs)

length_without_by : (t u : Seat) (ts : List Seat) (b : Bool) → length (without t ts) ≤ length ts → (list_any (λ v. is_eq (seat_cmp t v)) ts ≡ true → length (without t ts) + 1 ≤ length ts)
    → (b || list_any (λ v. is_eq (seat_cmp t v)) ts) ≡ true → length (cond (not b) (u ∷ without t ts) (without t ts)) + 1 ≤ length (u ∷ ts)
length_without_by t u ts true h ih e = omega (arith, h)
length_without_by t u ts false h ih e = let k = ih e in omega (arith, k)

-- a time that is there leaves one fewer
pub length_without : (t : Seat) (ts : List Seat) → list_any (λ u. is_eq (seat_cmp t u)) ts ≡ true → length (without t ts) + 1 ≤ length ts
length_without t [] e = cc
length_without t (u ∷ ts) e = length_without_by t u ts (is_eq (seat_cmp t u)) (length_filter (λ v. not (is_eq (seat_cmp t v))) ts) (length_without t ts) e
