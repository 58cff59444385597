-- Lists in the order of a number are told by which members they have.
use Rattle.std.proofs.Common.{◌≡◌, ◌≢◌, ◌⊎◌, ℕ, zero, suc, ◌<◌, ◌≤◌, ◌==◌, false, List, [], ◌∷◌, refl, sym, ◌∙◌, subst, inl, inr, ⊎_elim, arith, ne_eqb, eq-eqb, true≢false}
use Rattle.std.specs.Prelude.{IsPermutation, Contains}
use Rattle.std.specs.List.{AllByRecursion, IsDistinct}
use Rattle.std.specs.List.Sorted.{IsNonDecreasingBy}
use Rattle.std.proofs.lemmas.Bool.Decides.{nat_tests}
use Rattle.std.proofs.lemmas.List.Sorted.{IsPermutation-sym, Contains-permutation}
use Rattle.std.proofs.lemmas.Map.Keys.{IsDistinct-IsPermutation}
use Rattle.lane_turn.specs.Lane.{Lane}
use Rattle.tick_stepper.specs.Order.{RisesBy, ByNumber}

module _ {X : Type 0} where
  head_or : (y : X) (ys : List X) (x : X) → Contains (y ∷ ys) x → (y ≡ x) ⊎ Contains ys x
  head_or y ys x (zero, lt, e) = inl e
  head_or y ys x (suc i, lt, e) = inr (i, omega arith, e)

  here : (x : X) (xs : List X) → Contains (x ∷ xs) x
  here x xs = (0, omega arith, refl)

  later : (x : X) (xs : List X) (z : X) → Contains xs z → Contains (x ∷ xs) z
  later x xs z c = (suc c.0, omega (arith, c.1), c.2)

  nothing : (z : X) → Contains [] z → ⊥
  nothing z c = let lt = c.1 in omega arith

  rec_at : (P : X → Type 0) (xs : List X) (y : X) → AllByRecursion P xs → Contains xs y → P y
  rec_at P [] y h c = absurd (nothing y c)
  rec_at P (x ∷ xs) y h c = ⊎_elim (λ e. subst P e h.0) (λ d. rec_at P xs y h.1 d) (head_or x xs y c)

  all_rec : (P : X → Type 0) (xs : List X) → ((y : X) → Contains xs y → P y) → AllByRecursion P xs
  all_rec P [] h = tt
  all_rec P (x ∷ xs) h = (h x (here x xs), all_rec P xs (λ y c. h y (later x xs y c)))

module _ {X : Type 0} (n : X → ℕ) where
  abbrev Below : X → X → Type 0
  Below x y = n x < n y

  both_ways : (x y : X) → Below x y → Below y x → ⊥
  both_ways x y p q = omega arith

  -- lists in order that have the same members
  same_members : (xs ys : List X) → RisesBy n xs → RisesBy n ys → ((z : X) → Contains xs z → Contains ys z) → ((z : X) → Contains ys z → Contains xs z) → xs ≡ ys
  same_members [] [] a b f g = refl
  same_members [] (y ∷ ys) a b f g = absurd (nothing y (g y (here y ys)))
  same_members (x ∷ xs) [] a b f g = absurd (nothing x (f x (here x xs)))
  same_members (x ∷ xs) (y ∷ ys) a b f g =
      let e : x ≡ y = ⊎_elim (λ (p : y ≡ x). sym p)
      (λ c. ⊎_elim (λ (q : x ≡ y). q) (λ d. absurd (both_ways y x (rec_at (Below y) ys x b.0 c) (rec_at (Below x) xs y a.0 d))) (head_or x xs y (g y (here y ys))))
      (head_or y ys x (f x (here x xs))) in
      let f' : (z : X) → Contains xs z → Contains ys z = (λ z c. ⊎_elim (λ (p : y ≡ z). let r : Below x z = rec_at (Below x) xs z a.0 c in let q : Below z z = subst (λ (w : X). Below w z) (e ∙ p) r in absurd (both_ways z z q q)) (λ d. d) (head_or y ys z (f z (later x xs z c)))) in
      let g' : (z : X) → Contains ys z → Contains xs z = (λ z c. ⊎_elim (λ (p : x ≡ z). let r : Below y z = rec_at (Below y) ys z b.0 c in let q : Below z z = subst (λ (w : X). Below w z) (sym e ∙ p) r in absurd (both_ways z z q q)) (λ d. d) (head_or x xs z (g z (later y ys z c)))) in
      λ i. e i ∷ same_members xs ys a.1 b.1 f' g' i

  -- the same members, put in order, are the same list
  pub rising_is_one : (xs ys : List X) → IsPermutation xs ys → RisesBy n xs → RisesBy n ys → ys ≡ xs
  rising_is_one xs ys p a b = sym (same_members xs ys a b (λ z c. Contains-permutation xs ys z p c) (λ z c. Contains-permutation ys xs z (IsPermutation-sym xs ys p) c))

  distinct_of : (xs : List X) → RisesBy n xs → IsDistinct (λ x y. n x == n y) xs
  unfolding IsDistinct
  distinct_of [] h = tt
  distinct_of (x ∷ xs) h = (all_rec (λ y. (n x == n y) ≡ false) xs (λ y c. let lt : Below x y = rec_at (Below x) xs y h.0 c in ne_eqb (n x) (n y) (λ e. omega arith)), distinct_of xs h.1)

  rises_of : (xs : List X) → IsNonDecreasingBy n xs → IsDistinct (λ x y. n x == n y) xs → RisesBy n xs
  unfolding IsDistinct
  rises_of [] up h = tt
  rises_of (x ∷ xs) up h = (
    all_rec (Below x) xs
        (λ y c.
        let le : n x ≤ n y = subst (λ (z : X). n x ≤ n z) c.2 (up 0 (suc c.0) y (omega arith) (omega (arith, c.1))) in
        let ne : n x ≢ n y = (λ e. true≢false (sym (eq-eqb (n x) (n y) e) ∙ rec_at (λ z. (n x == n z) ≡ false) xs y h.0 c)) in
        omega arith),
    rises_of xs (λ i j d le lt. up (suc i) (suc j) d (omega arith) (omega arith)) h.1,
  )

  flips : (a b : ℕ) → (a == b) ≡ (b == a)
  flips a b = grind (arith, nat_tests)

  -- what a sort makes of a list whose numbers differ is the list in order
  pub sorted_is : (ys xs : List X) → IsPermutation ys xs → IsNonDecreasingBy n xs → RisesBy n ys → xs ≡ ys
  sorted_is ys xs p up r =
      let apart : IsDistinct (λ x y. n x == n y) xs = IsDistinct-IsPermutation (λ x y. n x == n y) (λ x y. flips (n x) (n y)) ys xs p (distinct_of ys r) in
      rising_is_one ys xs p r (rises_of xs up apart)

-- the same lanes, put in order, are the same list
pub order_is_one : (xs ys : List Lane) → IsPermutation xs ys → ByNumber xs → ByNumber ys → ys ≡ xs
order_is_one xs ys p a b = rising_is_one (λ (lane : Lane). lane.number) xs ys p a b
