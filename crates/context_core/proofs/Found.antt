-- Tests of which one is true, and what is found in a list.
use Rattle.std.proofs.Common.{◌≡◌, ℕ, ◌==◌, ◌||◌, Bool, true, false, cond, Some, None, List, [], ◌∷◌, refl, ap, sym, ◌∙◌}
use Rattle.std.specs.List.{find, list_any}
use Rattle.std.specs.Option.{is_some}
use Rattle.source_rows.proofs.Compared.{same_self, some_same}

pub or_left : (a b : Bool) → a ≡ true → (a || b) ≡ true
or_left true b h = refl
or_left false b h = let no : false ≡ true = h in cc

pub or_right : (a b : Bool) → b ≡ true → (a || b) ≡ true
or_right true b h = refl
or_right false b h = h

-- ---- the first that passes

pub find_or : {A : Type 0} (f : A → Bool) (xs : List A) → is_some (find f xs) ≡ list_any f xs
find_or f [] = refl
find_or f (x ∷ xs) = by_one (f x) (find_or f xs)
  where
    by_one : (b : Bool) → is_some (find f xs) ≡ list_any f xs → is_some (cond b (Some x) (find f xs)) ≡ (b || list_any f xs)
    by_one true h = refl
    by_one false h = h

found_by : (f : ℕ → Bool) (x : ℕ) (xs : List ℕ) (id : ℕ) → (find f xs ≡ Some id → (f id ≡ true) × (list_any (λ i. i == id) xs ≡ true)) → (b : Bool) → f x ≡ b → cond b (Some x) (find f xs) ≡ Some id
    → (f id ≡ true) × (list_any (λ i. i == id) (x ∷ xs) ≡ true)
found_by f x xs id ih true t h =
    let same = some_same x id h in
    (ap f (sym same) ∙ t, or_left (x == id) (list_any (λ i. i == id) xs) (ap (λ (n : ℕ). x == n) (sym same) ∙ same_self x))
found_by f x xs id ih false t h =
    let two = ih h in
    (two.0, or_right (x == id) (list_any (λ i. i == id) xs) two.1)

-- what is found in a list passes, and is in it
pub found_in : (f : ℕ → Bool) (xs : List ℕ) (id : ℕ) → find f xs ≡ Some id → (f id ≡ true) × (list_any (λ i. i == id) xs ≡ true)
found_in f [] id e = let no : None ≡ Some id = e in cc
found_in f (x ∷ xs) id e = found_by f x xs id (found_in f xs id) (f x) refl e
