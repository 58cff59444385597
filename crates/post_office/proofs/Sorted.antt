-- Letters that were sorted, and the one order of them.
use Rattle.std.proofs.Common.{◌≡◌, ◌≢◌, ◌⊎◌, ℕ, zero, suc, ◌<◌, ◌≤◌, ◌==◌, Bool, true, false, cond, nat_lt, List, [], ◌∷◌, refl, sym, ◌∙◌, subst, inl, inr, ⊎_elim, arith, eq-eqb, eqb-true, ltb-false, true≢false}
use Rattle.std.specs.Prelude.{Contains}
use Rattle.std.specs.List.{IsDistinct, AllByRecursion}
use Rattle.std.specs.Ordering.{is_lt, nat_cmp, ordering_then}
use Rattle.std.specs.List.Sorted.{IsSortedByKey}
use Rattle.std.specs.declared.cmp.Ordering.{Ordering}
use Rattle.std.specs.declared.cmp.Ordering.TheVariants.{Less, Equal, Greater}
use Rattle.std.proofs.lemmas.List.Sorted.{IsPermutation-sym, Contains-permutation}
use Rattle.std.proofs.lemmas.Map.Keys.{IsDistinct-IsPermutation}
use Rattle.std.proofs.lemmas.Bool.Decides.{nat_tests}
use native.Mathlib.Numerals.{unary_clauses}
use Rattle.post_office.specs.declared.letter.Letter.{Letter}
use Rattle.post_office.specs.Order.{MayPrecede, InOrder, same_place, AreApart, OrderIsOne}

abbrev pub place : Letter → ℕ × ℕ
place x = (x.sender, x.number)

abbrev pub by_place : ℕ × ℕ → ℕ × ℕ → Ordering
by_place p q = ordering_then (nat_cmp p.0 q.0) (nat_cmp p.1 q.1)

-- ---- what a sort leaves is in order

-- each may stand before the next
abbrev Steps : List Letter → Type 0
Steps [] = Unit {0}
Steps (x ∷ []) = Unit {0}
Steps (x ∷ (y ∷ zs)) = MayPrecede x y × Steps (y ∷ zs)

by_tests : (p q r s : Bool) → is_lt (ordering_then (cond p Less (cond q Equal Greater)) (cond r Less (cond s Equal Greater))) ≡ false → (p ≡ false) × ((q ≡ false) ⊎ ((q ≡ true) × (r ≡ false)))
by_tests true q r s h = cc
by_tests false true true s h = cc
by_tests false true false s h = (refl, inr (refl, refl))
by_tests false false r s h = (refl, inl refl)

not_before : (a b c d : ℕ) → is_lt (ordering_then (nat_cmp a b) (nat_cmp c d)) ≡ false → (b < a) ⊎ ((b ≡ a) × (d ≤ c))
not_before a b c d h =
    let t = by_tests (nat_lt a b) (a == b) (nat_lt c d) (c == d) h in
    let above : b ≤ a = ltb-false a b t.0 in
    ⊎_elim
    (λ (apart : (a == b) ≡ false). inl (let differ : a ≢ b = λ e. true≢false (sym (eq-eqb a b e) ∙ apart) in omega arith))
    (λ (both : ((a == b) ≡ true) × (nat_lt c d ≡ false)). let same : a ≡ b = eqb-true a b both.0 in inr (sym same, ltb-false c d both.1))
    t.1

steps_of : (xs : List Letter) → IsSortedByKey place by_place xs → Steps xs
steps_of [] h = tt
steps_of (x ∷ []) h = tt
steps_of (x ∷ (y ∷ zs)) h = (
  not_before y.sender x.sender y.number x.number (h 0 x (omega arith) (omega arith)),
  steps_of (y ∷ zs) (λ k d low high. let next = h (suc k) d (omega arith) (omega arith) in let plain = simp unary_clauses at next in simp unary_clauses plain),
)

along : (x y z : Letter) → MayPrecede x y → MayPrecede y z → MayPrecede x z
along x y z (inl p) (inl q) = inl (omega arith)
along x y z (inl p) (inr q) = let same = q.0 in inl (omega arith)
along x y z (inr p) (inl q) = let same = p.0 in inl (omega arith)
along x y z (inr p) (inr q) = let less = p.1 in let less' = q.1 in inr (p.0 ∙ q.0, omega arith)

all_along : (x y : Letter) (zs : List Letter) → MayPrecede x y → AllByRecursion (MayPrecede y) zs → AllByRecursion (MayPrecede x) zs
all_along x y [] p h = tt
all_along x y (z ∷ zs) p h = (along x y z p h.0, all_along x y zs p h.1)

in_steps : (xs : List Letter) → Steps xs → InOrder xs
in_steps [] h = tt
in_steps (x ∷ []) h = (tt, tt)
in_steps (x ∷ (y ∷ zs)) h = let rest = in_steps (y ∷ zs) h.1 in ((h.0, all_along x y zs h.0 rest.0), rest)

pub in_order_of : (xs : List Letter) → IsSortedByKey place by_place xs → InOrder xs
in_order_of xs h = in_steps xs (steps_of xs h)

-- ---- letters that are apart stand in one order

here : (x : Letter) (xs : List Letter) → Contains (x ∷ xs) x
here x xs = (0, omega arith, refl)

later : (x : Letter) (xs : List Letter) (z : Letter) → Contains xs z → Contains (x ∷ xs) z
later x xs z c = (suc c.0, omega (arith, c.1), c.2)

nothing : (z : Letter) → Contains [] z → ⊥
nothing z c = let lt = c.1 in omega arith

head_or : (y : Letter) (ys : List Letter) (x : Letter) → Contains (y ∷ ys) x → (y ≡ x) ⊎ Contains ys x
head_or y ys x (zero, lt, e) = inl e
head_or y ys x (suc i, lt, e) = inr (i, omega arith, e)

at : (P : Letter → Type 0) (xs : List Letter) (y : Letter) → AllByRecursion P xs → Contains xs y → P y
at P [] y h c = absurd (nothing y c)
at P (x ∷ xs) y h c = ⊎_elim (λ e. subst P e h.0) (λ d. at P xs y h.1 d) (head_or x xs y c)

-- two that may each precede the other have the same place
both_ways : (x y : Letter) → MayPrecede x y → MayPrecede y x → same_place x y ≡ true
both_ways x y (inl p) (inl q) = absurd (omega arith)
both_ways x y (inl p) (inr q) = let same = q.0 in absurd (omega arith)
both_ways x y (inr p) (inl q) = let same = p.0 in absurd (omega arith)
both_ways x y (inr p) (inr q) =
    let less = p.1 in
    let less' = q.1 in
    let numbers : x.number ≡ y.number = omega arith in
    rw (eq-eqb x.sender y.sender p.0, eq-eqb x.number y.number numbers) refl

one : (xs ys : List Letter) → AreApart xs → InOrder xs → InOrder ys → ((z : Letter) → Contains xs z → Contains ys z) → ((z : Letter) → Contains ys z → Contains xs z) → AreApart ys → xs ≡ ys
unfolding IsDistinct
one [] [] a p q f g b = refl
one [] (y ∷ ys) a p q f g b = absurd (nothing y (g y (here y ys)))
one (x ∷ xs) [] a p q f g b = absurd (nothing x (f x (here x xs)))
one (x ∷ xs) (y ∷ ys) a p q f g b =
    let e : x ≡ y =
    ⊎_elim (λ (e : y ≡ x). sym e)
    (λ c. ⊎_elim (λ (e : x ≡ y). e)
    (λ d. absurd (true≢false (sym (both_ways x y (at (MayPrecede x) xs y p.0 d) (at (MayPrecede y) ys x q.0 c)) ∙ at (λ z. same_place x z ≡ false) xs y a.0 d)))
    (head_or x xs y (g y (here y ys))))
    (head_or y ys x (f x (here x xs))) in
    let self : (z : Letter) → same_place z z ≡ true = λ z. rw (eq-eqb z.sender z.sender refl, eq-eqb z.number z.number refl) refl in
    let f' : (z : Letter) → Contains xs z → Contains ys z =
    λ z c. ⊎_elim
    (λ (k : y ≡ z). absurd (true≢false (sym (self x) ∙ subst (λ (w : Letter). same_place x w ≡ false) (sym (e ∙ k)) (at (λ w. same_place x w ≡ false) xs z a.0 c))))
    (λ d. d) (head_or y ys z (f z (later x xs z c))) in
    let g' : (z : Letter) → Contains ys z → Contains xs z =
    λ z c. ⊎_elim
    (λ (k : x ≡ z). absurd (true≢false (sym (self y) ∙ subst (λ (w : Letter). same_place y w ≡ false) (sym (sym e ∙ k)) (at (λ w. same_place y w ≡ false) ys z b.0 c))))
    (λ d. d) (head_or x xs z (g z (later y ys z c))) in
    λ i. e i ∷ one xs ys a.1 p.1 q.1 f' g' b.1 i

flips : (x y : Letter) → same_place x y ≡ same_place y x
flips x y = let a : (x.sender == y.sender) ≡ (y.sender == x.sender) = equal_flips x.sender y.sender in let b : (x.number == y.number) ≡ (y.number == x.number) = equal_flips x.number y.number in rw (a, b) refl
  where
    equal_flips : (a b : ℕ) → (a == b) ≡ (b == a)
    equal_flips a b = grind (arith, nat_tests)

pub order_is_one : OrderIsOne
order_is_one xs ys apart p a b =
    one xs ys apart a b (λ z c. Contains-permutation xs ys z p c) (λ z c. Contains-permutation ys xs z (IsPermutation-sym xs ys p) c)
    (IsDistinct-IsPermutation same_place flips xs ys p apart)
