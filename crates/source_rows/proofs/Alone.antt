-- Where no row has a parent, only the row itself is under it.
use Rattle.std.proofs.Common.{◌≡◌, ℕ, ℤ, ◌==◌, ◌||◌, Bool, true, false, not, cond, Option, List, [], ◌∷◌, map, filter, refl, ap, ◌∙◌, subst}
use Rattle.std.specs.List.{AllByRecursion, list_any}
use Rattle.source_rows.specs.declared.row.Row.{Row}
use Rattle.source_rows.specs.Moves.{moved_row}
use Rattle.source_rows.specs.Rows.{has_id, is_under, moved, changed}
use Rattle.source_rows.specs.Tree.{IsRoot, HasPlace, IsForest}
use Rattle.source_rows.proofs.Lists.{all_both}
use Rattle.source_rows.proofs.MayBe.{NoParent}

-- the row itself has the id, where any that it is under has
abbrev pub IsOwn : ℕ → Row → Type 0
IsOwn id r = is_under id r ≡ has_id id r

own : (id : ℕ) (r : Row) → IsRoot r → IsOwn id r
own id r p = ap (list_any (λ i. i == id)) p.lineage ∙ one (r.id == id)
  where
    one : (b : Bool) → (b || (b || (b || (b || false)))) ≡ b
    one true = refl
    one false = refl

pub all_own : (id : ℕ) (rows : List Row) → IsForest rows → AllByRecursion NoParent rows → AllByRecursion (IsOwn id) rows
all_own id rows f h = all_both (λ r. HasPlace rows r.parent r) NoParent (IsOwn id) (λ r p e. own id r (subst (λ (o : Option ℕ). HasPlace rows o r) e p)) rows f.placed h

pub one_gone : (id : ℕ) (rows : List Row) → AllByRecursion (IsOwn id) rows → filter (λ r. not (has_id id r)) rows ≡ filter (λ r. not (is_under id r)) rows
one_gone id [] h = refl
one_gone id (r ∷ rows) h = rw h.0 (ap (λ (xs : List Row). cond (not (has_id id r)) (r ∷ xs) xs) (one_gone id rows h.1))

pub one_moved : (id : ℕ) (z : ℤ) (n : ℕ) (rows : List Row) → AllByRecursion (IsOwn id) rows → changed id (moved_row id z n) rows ≡ map (moved id z n) rows
one_moved id z n [] h = refl
one_moved id z n (r ∷ rows) h = rw h.0 (ap (λ (xs : List Row). cond (has_id id r) (moved_row id z n r) r ∷ xs) (one_moved id z n rows h.1))
