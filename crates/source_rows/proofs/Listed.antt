-- Rows listed by their ids.
use Rattle.std.proofs.Common.{◌≡◌, Option, Some, List, [], ◌∷◌, map, refl, ap, ◌∙◌}
use Rattle.std.specs.List.{AllByRecursion, cons_option}
use Rattle.std.specs.Option.{IsSome}
use Rattle.source_rows.specs.declared.row.Row.{Row}
use Rattle.source_rows.specs.Rows.{row_of, in_order}
use Rattle.source_rows.specs.Tree.{IdsRise}
use Rattle.source_rows.specs.InOrder.{rows_of, AllFound}
use Rattle.source_rows.proofs.Forest.{all_found}
use Rattle.source_rows.proofs.Order.{all_in_order}

is_there : (o : Option Row) (r : Row) → o ≡ Some r → IsSome o
is_there o r e = rw e refl

pub each_there : (rows qs : List Row) → AllByRecursion (λ r. row_of r.id rows ≡ Some r) qs → AllFound rows (map (λ (r : Row). r.id) qs)
each_there rows [] h = tt
each_there rows (q ∷ qs) h = (is_there (row_of q.id rows) q h.0, each_there rows qs h.1)

pub same_rows : (rows qs : List Row) → AllByRecursion (λ r. row_of r.id rows ≡ Some r) qs → rows_of rows (map (λ (r : Row). r.id) qs) ≡ qs
same_rows rows [] h = refl
same_rows rows (q ∷ qs) h = ap (λ (o : Option Row). cons_option o (rows_of rows (map (λ (r : Row). r.id) qs))) h.0 ∙ ap (λ (xs : List Row). q ∷ xs) (same_rows rows qs h.1)

pub all_listed : (rows : List Row) → IdsRise rows → AllFound rows (map (λ (r : Row). r.id) (in_order rows))
all_listed rows h = each_there rows (in_order rows) (all_in_order (λ r. row_of r.id rows ≡ Some r) rows (all_found rows h))

pub listed : (rows : List Row) → IdsRise rows → rows_of rows (map (λ (r : Row). r.id) (in_order rows)) ≡ in_order rows
listed rows h = same_rows rows (in_order rows) (all_in_order (λ r. row_of r.id rows ≡ Some r) rows (all_found rows h))
