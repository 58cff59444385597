-- The rows that pass a test, changed, beside the others.
use Rattle.std.proofs.Common.{◌≡◌, pos, None, Bool, true, false, List, []}
use Rattle.std.specs.List.{AllByRecursion}
use Rattle.loop_script.specs.declared.Kind.TheVariants.{Idle}
use Rattle.source_rows.specs.declared.row.Row.{Row}
use Rattle.source_rows.specs.Order.{Apart}
use Rattle.source_rows.specs.Lists.{Pairs}

-- the row that stands for none
abbrev pub no_row : Row
no_row = record { id = 0; kind = Idle; priority = pos 0; recurse = false; level = 0; order = 0; parent = None; ready = pos 0; call = None; count = 0; lineage = []; path = [] }

pub record Changes (p : Row → Bool) (g : Row → Row) (rows : List Row) : Type 0 where
  pub passes : (r : Row) → p (g r) ≡ p r
  pub stays : (r : Row) → p r ≡ false → g r ≡ r
  pub apart : Pairs Apart rows
  pub changed : Pairs (λ r q. Apart (g r) (g q)) rows
  pub new : AllByRecursion (λ r. AllByRecursion (λ q. p r ≡ true → Apart (g r) q) rows) rows
