-- The rows that stand under one of them.
use Rattle.std.specs.Prelude.{◌≡◌, true, false, List}
use Rattle.std.specs.List.{AllByRecursion}
use Rattle.std.specs.Ordering.{is_lt, is_gt}
use Rattle.source_rows.specs.declared.row.Row.{Row}
use Rattle.source_rows.specs.Rows.{Key, key_cmp, key_of, is_under}
use Rattle.source_rows.specs.Tree.{IdsRise}
use Rattle.source_rows.specs.Kept.{AllApart}
use Rattle.loop_script.specs.Units.{SourceId}

-- rows of rising ids that stand apart
pub record AreDistinct (rows : List Row) : Type 0 where
  pub rising : IdsRise rows
  pub apart : AllApart rows

-- no row under the id stands behind the key
abbrev pub NoneBehind : SourceId → Key → List Row → Type 0
NoneBehind id key rows = AllByRecursion (λ q. is_under id q ≡ true → is_gt (key_cmp (key_of q) key) ≡ false) rows

-- what stands from a row under the id to the key is under the id too
abbrev pub NoneBetween : SourceId → Key → List Row → Type 0
NoneBetween id key rows = AllByRecursion (λ q. AllByRecursion (λ x. is_under id q ≡ true → is_lt (key_cmp (key_of x) (key_of q)) ≡ false → is_gt (key_cmp (key_of x) key) ≡ false → is_under id x ≡ true) rows) rows

-- the rows under the id stand next to each other, up to the key
pub record StandNear (id : SourceId) (key : Key) (rows : List Row) : Type 0 where
  pub behind : NoneBehind id key rows
  pub between : NoneBetween id key rows
