-- The levels of interests are those of the rows that have them.
use Rattle.std.proofs.Common.{◌≡◌, ℕ, List, [], ◌∷◌, map, refl, ap}
use Rattle.source_rows.specs.declared.row.Row.{Row}
use Rattle.context_core.specs.declared.interest.Interest.{Interest}
use Rattle.context_core.specs.Phases.{interest_of, levels_for, fd_of}

pub levels_polled : (level : ℕ → ℕ) (rows : List Row) → map (λ (i : Interest). level i.fd) (map interest_of rows) ≡ levels_for level rows
levels_polled level [] = refl
levels_polled level (r ∷ rows) = ap (λ (l : List ℕ). level (fd_of r.kind) ∷ l) (levels_polled level rows)
