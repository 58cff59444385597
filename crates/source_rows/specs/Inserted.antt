-- Lists that rise by an order, and where a value goes in one.
use Rattle.std.specs.Prelude.{◌≡◌, Bool, true, false, List, [], ◌∷◌, if◌then◌else◌}
use Rattle.source_rows.specs.Lists.{Pairs}

-- the list with a value before the first that it comes before
abbrev pub inserted : {A : Type 0} → (A → A → Bool) → A → List A → List A
inserted before a [] = a ∷ []
inserted before a (x ∷ xs) = if before a x then a ∷ x ∷ xs else x ∷ inserted before a xs

-- each comes before all that follow it
abbrev pub Rises : {A : Type 0} → (A → A → Bool) → List A → Type 0
Rises before xs = Pairs (λ x y. before x y ≡ true) xs

-- none comes before an earlier one
abbrev pub NeverFalls : {A : Type 0} → (A → A → Bool) → List A → Type 0
NeverFalls before xs = Pairs (λ x y. before y x ≡ false) xs
