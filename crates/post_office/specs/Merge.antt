-- Lists that were mixed into one, each in its own order.
use Rattle.std.specs.Prelude.{◌≡◌, ℕ, ◌==◌, List, [], ◌∷◌, ◌++◌, length, slice_index_or, if◌then◌else◌}

module _ {X : Type 0} where
  -- the values whose label is t
  abbrev pub picked : ℕ → List ℕ → List X → List X
  picked t [] xs = []
  picked t (w ∷ ws) [] = []
  picked t (w ∷ ws) (x ∷ xs) = if w == t then (x ∷ picked t ws xs) else picked t ws xs

  -- each value of xs comes from one of the lists, and what comes from a list is that list, in order
  abbrev pub IsMerge : List (List X) → List X → Type 0
  IsMerge lists xs = (who : List ℕ) × (length who ≡ length xs) × ((t : ℕ) → picked t who xs ≡ slice_index_or lists t [])

  -- the lists, one after another
  abbrev pub concat : List (List X) → List X
  concat [] = []
  concat (l ∷ ls) = l ++ concat ls
