-- What is in a list.
use Rattle.std.proofs.Common.{◌≡◌, ◌⊎◌, inl, inr, refl, sym, subst, ap, ◌∙◌, Bool, true, false, ◌||◌, List, [], ◌∷◌, ◌++◌}
use Rattle.std.specs.List.{list_any}
use Rattle.loop_script.specs.Form.{Form}
use Rattle.script_check.specs.declared.fault.Cause.{Cause}
use Rattle.script_check.specs.Found.{Step, Found}
use Rattle.script_check.specs.Faults.{together, found_at}
use Rattle.script_check.specs.Laws.{In}

pub in_first : {A : Type 0} (x : A) (xs ys : List A) → In x xs → In x (xs ++ ys)
in_first x [] ys h = absurd h
in_first x (z ∷ zs) ys (inl h) = inl h
in_first x (z ∷ zs) ys (inr h) = inr (in_first x zs ys h)

pub in_second : {A : Type 0} (x : A) (xs ys : List A) → In x ys → In x (xs ++ ys)
in_second x [] ys h = h
in_second x (z ∷ zs) ys h = inr (in_second x zs ys h)

pub in_either : {A : Type 0} (x : A) (xs ys : List A) → In x (xs ++ ys) → In x xs ⊎ In x ys
in_either x [] ys h = inr h
in_either x (z ∷ zs) ys (inl h) = inl (inl h)
in_either {A} x (z ∷ zs) ys (inr h) = more (in_either x zs ys h)
  where
    more : In x zs ⊎ In x ys → In x (z ∷ zs) ⊎ In x ys
    more (inl k) = inl (inr k)
    more (inr k) = inr k

pub in_together : {A B : Type 0} (f : A → List B) (x : A) (y : B) (xs : List A) → In x xs → In y (f x) → In y (together f xs)
in_together f x y [] h k = absurd h
in_together f x y (z ∷ zs) (inl h) k = in_first y (f z) (together f zs) (subst (λ w. In y (f w)) (sym h) k)
in_together f x y (z ∷ zs) (inr h) k = in_second y (f z) (together f zs) (in_together f x y zs h k)

one_more : {A B : Type 0} (f : A → List B) (y : B) (z : A) (zs : List A) → (In y (together f zs) → (x : A) × In x zs × In y (f x)) → In y (f z) ⊎ In y (together f zs) → (x : A) × In x (z ∷ zs) × In y (f x)
one_more f y z zs r (inl k) = (z, inl refl, k)
one_more f y z zs r (inr k) = let (x, i, j) = r k in (x, inr i, j)

pub of_together : {A B : Type 0} (f : A → List B) (y : B) (xs : List A) → In y (together f xs) → (x : A) × In x xs × In y (f x)
of_together f y [] h = absurd h
of_together f y (z ∷ zs) h = one_more f y z zs (of_together f y zs) (in_either y (f z) (together f zs) h)

pub in_found : (place : List Step) (f : Form) (c : Cause) (cs : List Cause) → In c cs → In (record { place = place; form = f; cause = c }) (found_at place f cs)
in_found place f c [] h = absurd h
in_found place f c (b ∷ bs) (inl h) = inl (ap (λ a. record { place = place; form = f; cause = a }) h)
in_found place f c (b ∷ bs) (inr h) = inr (in_found place f c bs h)

pub of_found : (place : List Step) (f : Form) (x : Found) (cs : List Cause) → In x (found_at place f cs) → (c : Cause) × In c cs × (record { place = place; form = f; cause = c } ≡ x)
of_found place f x [] h = absurd h
of_found place f x (b ∷ bs) (inl h) = (b, inl refl, h)
of_found place f x (b ∷ bs) (inr h) = let (c, i, e) = of_found place f x bs h in (c, inr i, e)

-- ---- tests
first_or : {A : Type 0} (test : A → Bool) (x : A) (xs : List A) → (list_any test xs ≡ true → (y : A) × In y xs × (test y ≡ true)) → (b : Bool) → test x ≡ b → (b || list_any test xs) ≡ true → (y : A) × In y (x ∷ xs) × (test y ≡ true)
first_or test x xs r true e k = (x, inl refl, e)
first_or test x xs r false e k = let (y, i, t) = r k in (y, inr i, t)

pub any_in : {A : Type 0} (test : A → Bool) (xs : List A) → list_any test xs ≡ true → (x : A) × In x xs × (test x ≡ true)
any_in test [] h = absurd (cc)
any_in test (x ∷ xs) h = first_or test x xs (any_in test xs) (test x) refl h

pub in_any : {A : Type 0} (test : A → Bool) (x : A) (xs : List A) → In x xs → test x ≡ true → list_any test xs ≡ true
in_any test x [] h t = absurd h
in_any test x (y ∷ ys) (inl h) t = let e : test y ≡ true = ap test h ∙ t in ap (λ b. b || list_any test ys) e
in_any test x (y ∷ ys) (inr h) t = by (test y) (in_any test x ys h t)
  where
    by : (b : Bool) → list_any test ys ≡ true → (b || list_any test ys) ≡ true
    by true k = refl
    by false k = k
