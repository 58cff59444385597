-- What the rows of a context keep of themselves.
use Rattle.std.specs.Prelude.{◌≡◌, ℕ, ◌<◌, ◌≤◌, ◌==◌, false, List}
use Rattle.std.specs.List.{AllByRecursion, list_any}
use Rattle.loop_script.specs.Bounds.{count_end}
use Rattle.source_rows.specs.declared.row.Row.{Row}
use Rattle.source_rows.specs.declared.rows.Rows.TheInside.{Inside}
use Rattle.source_rows.specs.Rows.{RowSet, level_count}
use Rattle.source_rows.specs.Row.{no_number}
use Rattle.source_rows.specs.Order.{Apart}
use Rattle.source_rows.specs.Tree.{IdsRise, IsForest}
use Rattle.source_rows.specs.Lists.{Pairs}

-- the set of rows of the fields
abbrev pub set_of : Inside → RowSet
set_of a = record { rows = a.table; next_id = a.next_id; next_order = a.next_order; levels = level_count a.levels }

-- any two rows stand apart
abbrev pub AllApart : List Row → Type 0
AllApart rows = Pairs Apart rows

-- no number from n on stands in a path, but for the one that fills up
abbrev pub IsBelow : ℕ → List ℕ → Type 0
IsBelow n path = (k : ℕ) → n ≤ k → k < no_number → list_any (λ i. i == k) path ≡ false

-- rows below the next numbers, in trees at so many levels at most
pub record IsSound (rows : List Row) (next_id next_order levels : ℕ) : Type 0 where
  pub below : AllByRecursion (λ r. IsBelow next_order r.path) rows
  pub fresh : AllByRecursion (λ r. r.id < next_id) rows
  pub rising : IdsRise rows
  pub apart : AllApart rows
  pub within : AllByRecursion (λ r. r.level ≤ levels) rows
  pub some : 1 ≤ levels
  pub few : levels ≤ 4
  pub numbered : AllByRecursion (λ r. r.order < next_order) rows
  pub numbers : next_order ≤ count_end
  pub forest : IsForest rows
