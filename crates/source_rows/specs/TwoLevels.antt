-- The rules of rows at two levels: each row is a root, or a child of one and has no children.
use Rattle.std.specs.Prelude.{◌≡◌, ℕ, ◌≤◌, ◌+◌, ◌==◌, ◌||◌, Bool, false, not, ℤ, Option, Some, None, is_some, List, [], ◌∷◌, map, filter, slice_set, if◌then◌else◌}
use Rattle.std.specs.List.{AllByRecursion}
use Rattle.std.specs.Ordering.{is_lt}
use Rattle.source_rows.specs.declared.row.Row.{Row}
use Rattle.source_rows.specs.declared.fault.RowsFault.{RowsFault}
use Rattle.source_rows.specs.declared.fault.RowsFault.TheVariants.{NoSource, IsChild}
use Rattle.source_rows.specs.Rows.{RowSet, key_cmp, is_under, row_of, in_order, child_fault, priority_fault, destroyed, reprioritised}
use Rattle.source_rows.specs.Inserted.{inserted}
use Rattle.source_rows.specs.Tree.{IsForest, parent_of, two_level_key}
use Rattle.loop_script.specs.Units.{SourceId, Priority, Order}

-- no row stands below a level
abbrev pub IsWithinLevels : ℕ → List Row → Type 0
IsWithinLevels n rows = AllByRecursion (λ r. r.level ≤ n) rows

-- the row's parent has the id
abbrev pub is_named : SourceId → Option SourceId → Bool
is_named id None = false
is_named id (Some parent) = parent == id

-- whether a row is a child of an id's
abbrev pub is_child_of : SourceId → Row → Bool
is_child_of id r = is_named id r.parent

-- the row itself, or a child of it
abbrev pub goes_with : SourceId → Row → Bool
goes_with id r = r.id == id || is_child_of id r

-- a row goes with its children
abbrev pub destroyed_pair : SourceId → RowSet → RowSet
destroyed_pair id s = record s { rows = filter (λ r. not (goes_with id r)) s.rows }

-- a priority is the root's and its children's; the root gets the order number
abbrev pub moved_pair : SourceId → Priority → Order → Row → Row
moved_pair id priority order r = if goes_with id r
    then record r { priority = priority; order = if r.id == id then order else r.order; path = slice_set r.path 0 order }
    else r

-- a root and its children are given a priority
abbrev pub reprioritised_pair : SourceId → ℤ → RowSet → RowSet
reprioritised_pair id priority s = record s { rows = map (moved_pair id priority s.next_order) s.rows; next_order = s.next_order + 1 }

-- a child has no child, and no priority of its own
abbrev pub child_refused : Option Row → Option RowsFault
child_refused None = Some NoSource
child_refused (Some r) = if is_some r.parent then Some IsChild else None

-- by priority, the root's number, children before their parent, the own number
abbrev pub before_at_two : List Row → Row → Row → Bool
before_at_two rows r q = is_lt (key_cmp (two_level_key rows r) (two_level_key rows q))

-- rows in the order of dispatch
abbrev pub in_order_at_two : (whole : List Row) → List Row → List Row
in_order_at_two whole [] = []
in_order_at_two whole (r ∷ rs) = inserted (before_at_two whole) r (in_order_at_two whole rs)

-- ---- what ties the rules at any level to them

-- the row above, if there is one, is under the id
abbrev pub is_above_under : SourceId → Option Row → Bool
is_above_under id None = false
is_above_under id (Some above) = is_under id above

-- what trees are, by parents; and at two levels
pub record LevelLaws : Type 0 where
  -- at any level: under an id is what has it, or whose parent is under it
  pub by_parents : (rows : List Row) → IsForest rows → (id : SourceId) → AllByRecursion (λ r. is_under id r ≡ (is_above_under id (parent_of rows r.parent) || r.id == id)) rows
  -- at any level: a root alone may get a priority
  pub roots : (rows : List Row) → IsForest rows → (id : SourceId) → priority_fault (row_of id rows) ≡ child_refused (row_of id rows)
  -- at two levels: under an id is what has it, and its children
  pub under : (rows : List Row) → IsForest rows → IsWithinLevels 2 rows → (id : SourceId) → AllByRecursion (λ r. is_under id r ≡ goes_with id r) rows
  pub children : (rows : List Row) → IsForest rows → IsWithinLevels 2 rows → (id : SourceId) → child_fault 2 (row_of id rows) ≡ child_refused (row_of id rows)
  pub destroyed : (s : RowSet) → IsForest s.rows → IsWithinLevels 2 s.rows → (id : SourceId) → destroyed id s ≡ destroyed_pair id s
  pub reprioritised : (s : RowSet) → IsForest s.rows → IsWithinLevels 2 s.rows → (id : SourceId) (priority : Priority) → reprioritised id priority s ≡ reprioritised_pair id priority s
  -- at two levels the order is the one by priority, the root's number, children before their parent, the own number
  pub ordered : (rows : List Row) → IsForest rows → IsWithinLevels 2 rows → (p : Row → Bool) → in_order (filter p rows) ≡ in_order_at_two rows (filter p rows)
