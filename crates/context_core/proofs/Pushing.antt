-- A stack of thread-default contexts after a push and after a pop.
use Rattle.std.proofs.Common.{◌≡◌, ◌⊎◌, inl, inr, ℕ, zero, suc, ◌-◌, ◌==◌, ◌||◌, Bool, true, false, cond, Option, Some, None, List, [], ◌∷◌, ◌++◌, length, take, slice_get, refl, ap, sym, subst, ◌∙◌, arith, option_to_list, option_map}
use Rattle.std.proofs.lemmas.Bool.Decides.{nat_tests}
use Rattle.std.proofs.lemmas.List.{take-append-le, length-append, length-map, length-take-le, map-append}
use Rattle.std.proofs.lemmas.Option.{slice_get_within, slice_get-map}
use Rattle.std.specs.Ordering.{nat_cmp}
use Rattle.std.specs.BTreeSet.{BTreeSet, contains, Updates}
use Rattle.std.specs.BTreeMap.{is_at}
use Rattle.context_core.specs.declared.defaults.Pushed.{Pushed}
use Rattle.context_core.specs.Defaults.{top_of, is_pushed, is_on_top, names, popped}
use Rattle.context_core.specs.Pushed.{contexts_of, IsKnown}

is_at_number : (k q : ℕ) → is_at (nat_cmp k) q ≡ (k == q)
is_at_number k q = by (is_at (nat_cmp k) q) refl
  where
    by : (b : Bool) → is_at (nat_cmp k) q ≡ b → b ≡ (k == q)
    by true e = grind (arith, nat_tests)
    by false e = grind (arith, nat_tests)

are_same : (a b : ℕ) → (a == b) ≡ true → a ≡ b
are_same a b h = grind (arith, nat_tests)

same_self : (a : ℕ) → (a == a) ≡ true
same_self a = grind (arith, nat_tests)

or_false : (b : Bool) → (b || false) ≡ b
or_false true = refl
or_false false = refl

all_of : {A : Type 0} (xs : List A) → take (length xs) xs ≡ xs
all_of [] = refl
all_of (x ∷ xs) = ap (λ l. x ∷ l) (all_of xs)

some_same : {A : Type 0} {x y : A} → Some x ≡ Some y → x ≡ y
some_same {A} {x} {y} e = cc

-- an element of a list with one more is of the list, or that one
of_longer : {A : Type 0} (xs : List A) (y : A) (k : ℕ) (p : A) → slice_get (xs ++ y ∷ []) k ≡ Some p → (slice_get xs k ≡ Some p) ⊎ ((k ≡ length xs) × (y ≡ p))
of_longer [] y zero p e = inr (refl, some_same e)
of_longer [] y (suc k) p e = absurd (cc)
of_longer (x ∷ xs) y zero p e = inl e
of_longer (x ∷ xs) y (suc k) p e = by (of_longer xs y k p e)
  where
    by : (slice_get xs k ≡ Some p) ⊎ ((k ≡ length xs) × (y ≡ p)) → (slice_get xs k ≡ Some p) ⊎ ((suc k ≡ suc (length xs)) × (y ≡ p))
    by (inl h) = inl h
    by (inr h) = inr (ap suc h.0, h.1)

of_shorter : {A : Type 0} (xs : List A) (y : A) (k : ℕ) (p : A) → slice_get xs k ≡ Some p → slice_get (xs ++ y ∷ []) k ≡ Some p
of_shorter [] y k p e = absurd (cc)
of_shorter (x ∷ xs) y zero p e = e
of_shorter (x ∷ xs) y (suc k) p e = of_shorter xs y k p e

is_last : {A : Type 0} (xs : List A) (y : A) → slice_get (xs ++ y ∷ []) (length xs) ≡ Some y
is_last [] y = refl
is_last (x ∷ xs) y = is_last xs y

-- what stands on a stack with one more context
is_pushed_on : (c : ℕ) (ps : List Pushed) (q : Pushed) → is_pushed c (contexts_of (ps ++ q ∷ [])) ≡ (is_pushed c (contexts_of ps) || (q.context == c))
is_pushed_on c [] q = by (q.context == c)
  where
    by : (b : Bool) → (b || false) ≡ (false || b)
    by true = refl
    by false = refl
is_pushed_on c (p ∷ ps) q = by (p.context == c) (is_pushed_on c ps q)
  where
    by : (b : Bool) → is_pushed c (contexts_of (ps ++ q ∷ [])) ≡ (is_pushed c (contexts_of ps) || (q.context == c))
        → (b || is_pushed c (contexts_of (ps ++ q ∷ []))) ≡ ((b || is_pushed c (contexts_of ps)) || (q.context == c))
    by true e = refl
    by false e = e

pub known_pushed : (ps : List Pushed) (q : Pushed) (s n : BTreeSet ℕ) → IsKnown ps s → q.again ≡ contains nat_cmp s q.context → Updates nat_cmp s n q.context true
    → IsKnown (ps ++ q ∷ []) n
known_pushed ps q s n k again updates = record {
  has = λ c. updates.0 c ∙ (ap (λ b. cond b true (contains nat_cmp s c)) (is_at_number q.context c) ∙ (by (q.context == c) (contains nat_cmp s c)
      ∙ (ap (λ b. b || (q.context == c)) (k.has c) ∙ sym (is_pushed_on c ps q))));
  again = λ i p e. each i p (of_longer ps q i p e);
}
  where
    by : (a b : Bool) → cond a true b ≡ (b || a)
    by true true = refl
    by true false = refl
    by false true = refl
    by false false = refl

    each : (i : ℕ) (p : Pushed) → (slice_get ps i ≡ Some p) ⊎ ((i ≡ length ps) × (q ≡ p)) → p.again ≡ is_pushed p.context (contexts_of (take i (ps ++ q ∷ [])))
    each i p (inl e) = k.again i p e ∙ ap (λ l. is_pushed p.context (contexts_of l)) (sym (take-append-le i ps (q ∷ []) (let l = slice_get_within ps i p e in omega arith)))
    each i p (inr e) =
        let front : take i (ps ++ q ∷ []) ≡ ps = ap (λ j. take j (ps ++ q ∷ [])) e.0 ∙ (take-append-le (length ps) ps (q ∷ []) (omega arith) ∙ all_of ps) in
        subst (λ r. r.again ≡ is_pushed r.context (contexts_of (take i (ps ++ q ∷ [])))) e.1
        (again ∙ (k.has q.context ∙ ap (λ l. is_pushed q.context (contexts_of l)) (sym front)))

known_front : (ps : List Pushed) (q : Pushed) (s : BTreeSet ℕ) → IsKnown (ps ++ q ∷ []) s → (i : ℕ) (p : Pushed) → slice_get ps i ≡ Some p → p.again ≡ is_pushed p.context (contexts_of (take i ps))
known_front ps q s k i p e =
    k.again i p (of_shorter ps q i p e) ∙ ap (λ l. is_pushed p.context (contexts_of l)) (take-append-le i ps (q ∷ []) (let l = slice_get_within ps i p e in omega arith))

-- whether the last stood there already
last_again : (ps : List Pushed) (q : Pushed) (s : BTreeSet ℕ) → IsKnown (ps ++ q ∷ []) s → q.again ≡ is_pushed q.context (contexts_of ps)
last_again ps q s k =
    k.again (length ps) q (is_last ps q) ∙ ap (λ l. is_pushed q.context (contexts_of l)) (take-append-le (length ps) ps (q ∷ []) (omega arith) ∙ all_of ps)

pub known_popped : (ps : List Pushed) (q : Pushed) (s n : BTreeSet ℕ) → IsKnown (ps ++ q ∷ []) s → q.again ≡ false → Updates nat_cmp s n q.context false → IsKnown ps n
known_popped ps q s n k first updates = record {
  has = λ c. updates.0 c ∙ (ap (λ b. cond b false (contains nat_cmp s c)) (is_at_number q.context c)
      ∙ (ap (λ b. cond (q.context == c) false b) (k.has c ∙ is_pushed_on c ps q) ∙ by c (q.context == c) refl));
  again = known_front ps q s k;
}
  where
    by : (c : ℕ) (b : Bool) → (q.context == c) ≡ b → cond b false (is_pushed c (contexts_of ps) || b) ≡ is_pushed c (contexts_of ps)
    by c true e = sym (ap (λ d. is_pushed d (contexts_of ps)) (sym (are_same q.context c e)) ∙ (sym (last_again ps q s k) ∙ first))
    by c false e = or_false (is_pushed c (contexts_of ps))

pub known_again : (ps : List Pushed) (q : Pushed) (s : BTreeSet ℕ) → IsKnown (ps ++ q ∷ []) s → q.again ≡ true → IsKnown ps s
known_again ps q s k more = record {
  has = λ c. k.has c ∙ (is_pushed_on c ps q ∙ by c (q.context == c) refl);
  again = known_front ps q s k;
}
  where
    by : (c : ℕ) (b : Bool) → (q.context == c) ≡ b → (is_pushed c (contexts_of ps) || b) ≡ is_pushed c (contexts_of ps)
    by c true e = let there : is_pushed c (contexts_of ps) ≡ true = ap (λ d. is_pushed d (contexts_of ps)) (sym (are_same q.context c e)) ∙ (sym (last_again ps q s k) ∙ more) in ap (λ b. b || true) there ∙ sym there
    by c false e = or_false (is_pushed c (contexts_of ps))

of_last : {A : Type 0} (front : List A) (x : A) → slice_get (front ++ x ∷ []) (length (front ++ x ∷ []) - 1) ≡ Some x
of_last front x =
    let size : length (front ++ x ∷ []) - 1 ≡ length front = ap (λ n. n - 1) (length-append front (x ∷ [])) ∙ omega arith in
    ap (slice_get (front ++ x ∷ [])) size ∙ is_last front x

-- what is popped was the last, and the others are left
pub popped_last : (ps front : List Pushed) (o : Option Pushed) (top : Pushed) → ps ≡ front ++ option_to_list o → front ≡ take (length ps - 1) ps → slice_get ps (length ps - 1) ≡ Some top
    → ps ≡ front ++ top ∷ []
popped_last ps front (Some x) top e r t =
    let same : x ≡ top = some_same (sym (of_last front x) ∙ (ap (λ l. slice_get l (length l - 1)) (sym e) ∙ t)) in
    e ∙ ap (λ y. front ++ y ∷ []) same
popped_last ps front None top e r t =
    let there = slice_get_within ps (length ps - 1) top t in
    let all : length ps ≡ length front = ap length e ∙ (length-append front [] ∙ omega arith) in
    let fewer : length front ≡ length ps - 1 = ap length r ∙ length-take-le (length ps - 1) ps (omega arith) in
    absurd (omega arith)

top_is : (front : List Pushed) (top : Pushed) → top_of (contexts_of (front ++ top ∷ [])) ≡ Some top.context
top_is front top = ap top_of (map-append (λ (p : Pushed). p.context) front (top ∷ [])) ∙ of_last (contexts_of front) top.context

pub on_top : (context : ℕ) (front : List Pushed) (top : Pushed) (b : Bool) → (top.context == context) ≡ b → is_on_top context (contexts_of (front ++ top ∷ [])) ≡ b
on_top context front top b e = ap (names context) (top_is front top) ∙ e

pub front_popped : (context : ℕ) (front : List Pushed) (top : Pushed) → (top.context == context) ≡ true → contexts_of front ≡ popped context (contexts_of (front ++ top ∷ []))
front_popped context front top e =
    let one = map-append (λ (p : Pushed). p.context) front (top ∷ []) in
    let size : length (contexts_of (front ++ top ∷ [])) - 1 ≡ length (contexts_of front) = ap (λ l. length l - 1) one ∙ (ap (λ n. n - 1) (length-append (contexts_of front) (top.context ∷ [])) ∙ omega arith) in
    let cut : take (length (contexts_of (front ++ top ∷ [])) - 1) (contexts_of (front ++ top ∷ [])) ≡ contexts_of front =
    ap (λ n. take n (contexts_of (front ++ top ∷ []))) size ∙ (ap (take (length (contexts_of front))) one
    ∙ (take-append-le (length (contexts_of front)) (contexts_of front) (top.context ∷ []) (omega arith) ∙ all_of (contexts_of front))) in
    sym cut ∙ ap (λ b. cond b (take (length (contexts_of (front ++ top ∷ [])) - 1) (contexts_of (front ++ top ∷ []))) (contexts_of (front ++ top ∷ []))) (sym (on_top context front top true e))

-- the one on top, where there is one
pub top_of_all : (ps : List Pushed) → top_of (contexts_of ps) ≡ option_map (λ (p : Pushed). p.context) (slice_get ps (length ps - 1))
top_of_all ps =
    ap (λ n. slice_get (contexts_of ps) (n - 1)) (length-map ps (λ (p : Pushed). p.context)) ∙ slice_get-map (λ (p : Pushed). p.context) ps (length ps - 1)
