-- What holds of all values of a list, and of any two of them.
use Rattle.std.proofs.Common.{◌≡◌, Bool, true, false, cond, Option, Some, None, List, [], ◌∷◌, ◌++◌, map, filter, refl, ap, ◌∙◌}
use Rattle.std.specs.List.{AllByRecursion, cons_option}
use Rattle.source_rows.specs.Lists.{Pairs}

-- ---- all

pub all_of : {A : Type 0} (P Q : A → Type 0) → ((x : A) → P x → Q x) → (xs : List A) → AllByRecursion P xs → AllByRecursion Q xs
all_of P Q f [] h = tt
all_of P Q f (x ∷ xs) h = (f x h.0, all_of P Q f xs h.1)

pub all_both : {A : Type 0} (P Q S : A → Type 0) → ((x : A) → P x → Q x → S x) → (xs : List A) → AllByRecursion P xs → AllByRecursion Q xs → AllByRecursion S xs
all_both P Q S f [] h k = tt
all_both P Q S f (x ∷ xs) h k = (f x h.0 k.0, all_both P Q S f xs h.1 k.1)

pub all_and : {A : Type 0} (P Q : A → Type 0) (xs : List A) → AllByRecursion P xs → AllByRecursion Q xs → AllByRecursion (λ x. P x × Q x) xs
all_and P Q xs h k = all_both P Q (λ x. P x × Q x) (λ x a b. (a, b)) xs h k

-- what two have from what each has
pub all_with : {A : Type 0} (S : A → A → Type 0) (K : A → Type 0) → ((x y : A) → K x → K y → S x y) → (ys xs : List A) → AllByRecursion K ys → AllByRecursion K xs → AllByRecursion (λ x. AllByRecursion (S x) ys) xs
all_with S K f ys xs h k = all_of K (λ x. AllByRecursion (S x) ys) (λ x a. all_of K (S x) (λ y b. f x y a b) ys h) xs k

pub all_true : {A : Type 0} (P : A → Type 0) → ((x : A) → P x) → (xs : List A) → AllByRecursion P xs
all_true P f [] = tt
all_true P f (x ∷ xs) = (f x, all_true P f xs)

pub all_front : {A : Type 0} (P : A → Type 0) (xs ys : List A) → AllByRecursion P (xs ++ ys) → AllByRecursion P xs
all_front P [] ys h = tt
all_front P (x ∷ xs) ys h = (h.0, all_front P xs ys h.1)

pub all_back : {A : Type 0} (P : A → Type 0) (xs ys : List A) → AllByRecursion P (xs ++ ys) → AllByRecursion P ys
all_back P [] ys h = h
all_back P (x ∷ xs) ys h = all_back P xs ys h.1

pub all_push : {A : Type 0} (P : A → Type 0) (xs : List A) (x : A) → AllByRecursion P xs → P x → AllByRecursion P (xs ++ x ∷ [])
all_push P [] x h k = (k, tt)
all_push P (y ∷ xs) x h k = (h.0, all_push P xs x h.1 k)

pub all_map : {A B : Type 0} (P : A → Type 0) (Q : B → Type 0) (g : A → B) → ((x : A) → P x → Q (g x)) → (xs : List A) → AllByRecursion P xs → AllByRecursion Q (map g xs)
all_map P Q g f [] h = tt
all_map P Q g f (x ∷ xs) h = (f x h.0, all_map P Q g f xs h.1)

-- what is left of all that hold of P and pass the test
pub all_passed : {A : Type 0} (P Q : A → Type 0) (p : A → Bool) → ((x : A) → P x → p x ≡ true → Q x) → (xs : List A) → AllByRecursion P xs → AllByRecursion Q (filter p xs)
all_passed P Q p f [] h = tt
all_passed P Q p f (x ∷ xs) h = passed_by (p x) refl (all_passed P Q p f xs h.1)
  where
    passed_by : (b : Bool) → p x ≡ b → AllByRecursion Q (filter p xs) → AllByRecursion Q (cond b (x ∷ filter p xs) (filter p xs))
    passed_by true e k = (f x h.0 e, k)
    passed_by false e k = k

pub all_filter : {A : Type 0} (P : A → Type 0) (p : A → Bool) (xs : List A) → AllByRecursion P xs → AllByRecursion P (filter p xs)
all_filter P p xs h = all_passed P P p (λ x k e. k) xs h

-- ---- lists made of others

pub cons_join : {A : Type 0} (o : Option A) (xs ys : List A) → cons_option o (xs ++ ys) ≡ cons_option o xs ++ ys
cons_join None xs ys = refl
cons_join (Some x) xs ys = refl

filter_cons : {A B : Type 0} (g : A → B) (x : A) (ys : List B) (zs : List A) → ys ≡ map g zs → (b : Bool) → cond b (g x ∷ ys) ys ≡ map g (cond b (x ∷ zs) zs)
filter_cons {A} {B} g x ys zs e true = ap (λ (us : List B). g x ∷ us) e
filter_cons {A} {B} g x ys zs e false = e

pub filter_mapped : {A B : Type 0} (p : B → Bool) (q : A → Bool) (g : A → B) (xs : List A) → AllByRecursion (λ x. p (g x) ≡ q x) xs → filter p (map g xs) ≡ map g (filter q xs)
filter_mapped p q g [] h = refl
filter_mapped p q g (x ∷ xs) h =
    ap (λ (b : Bool). cond b (g x ∷ filter p (map g xs)) (filter p (map g xs))) h.0 ∙ filter_cons g x (filter p (map g xs)) (filter q xs) (filter_mapped p q g xs h.1) (q x)

-- ---- any two

pub pairs_push : {A : Type 0} (R : A → A → Type 0) (xs : List A) (x : A) → Pairs R xs → AllByRecursion (λ y. R y x) xs → Pairs R (xs ++ x ∷ [])
pairs_push R [] x h k = (tt, tt)
pairs_push R (y ∷ xs) x h k = (all_push (R y) xs x h.0 k.0, pairs_push R xs x h.1 k.1)

pub pairs_map : {A B : Type 0} (R : A → A → Type 0) (S : B → B → Type 0) (g : A → B) → ((x y : A) → R x y → S (g x) (g y)) → (xs : List A) → Pairs R xs → Pairs S (map g xs)
pairs_map R S g f [] h = tt
pairs_map R S g f (x ∷ xs) h = (all_map (R x) (S (g x)) g (f x) xs h.0, pairs_map R S g f xs h.1)

pairs_cons : {A : Type 0} (R : A → A → Type 0) (x : A) (xs : List A) → AllByRecursion (R x) xs → Pairs R xs → (b : Bool) → Pairs R (cond b (x ∷ xs) xs)
pairs_cons R x xs h k true = (h, k)
pairs_cons R x xs h k false = k

pub pairs_filter : {A : Type 0} (R : A → A → Type 0) (p : A → Bool) (xs : List A) → Pairs R xs → Pairs R (filter p xs)
pairs_filter R p [] h = tt
pairs_filter R p (x ∷ xs) h = pairs_cons R x (filter p xs) (all_filter (R x) p xs h.0) (pairs_filter R p xs h.1) (p x)

-- what two have from what each has
pub pairs_with : {A : Type 0} (R S : A → A → Type 0) (K : A → Type 0) → ((x y : A) → K x → K y → R x y → S x y) → (xs : List A) → AllByRecursion K xs → Pairs R xs → Pairs S xs
pairs_with R S K f [] k h = tt
pairs_with R S K f (x ∷ xs) k h = (all_both K (R x) (S x) (λ y a b. f x y k.0 a b) xs k.1 h.0, pairs_with R S K f xs k.1 h.1)

pub pairs_and : {A : Type 0} (R S : A → A → Type 0) (xs : List A) → Pairs R xs → Pairs S xs → Pairs (λ x y. R x y × S x y) xs
pairs_and R S [] h k = tt
pairs_and R S (x ∷ xs) h k = (all_and (R x) (S x) xs h.0 k.0, pairs_and R S xs h.1 k.1)

-- each with each, in either order, from any two and from one with itself
module _ {A : Type 0} (R S : A → A → Type 0) (itself : (x : A) → S x x) (one : (x y : A) → R x y → S x y) (other : (x y : A) → R x y → S y x) where
  each_more : (x : A) (xs ys : List A) → AllByRecursion (R x) ys → AllByRecursion (λ y. AllByRecursion (S y) xs) ys → AllByRecursion (λ y. AllByRecursion (S y) (x ∷ xs)) ys
  each_more x xs ys h k = all_both (R x) (λ y. AllByRecursion (S y) xs) (λ y. AllByRecursion (S y) (x ∷ xs)) (λ y r a. (other x y r, a)) ys h k

  pub each_with_each : (xs : List A) → Pairs R xs → AllByRecursion (λ x. AllByRecursion (S x) xs) xs
  each_with_each [] h = tt
  each_with_each (x ∷ xs) h = ((itself x, all_of (R x) (S x) (one x) xs h.0), each_more x xs xs h.0 (each_with_each xs h.1))
