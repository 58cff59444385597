-- What is dispatched next, told by parents alone, where sources stand at four levels at most, as in all trees that there are.
use Rattle.std.specs.Prelude.{◌≡◌, ℕ, zero, suc, ◌&&◌, ◌||◌, Bool, false, not, List, [], ◌∷◌, ◌++◌, map, filter}
use Rattle.std.specs.List.{AllByRecursion, list_any}
use Rattle.std.specs.Option.{option_map_or}
use Rattle.std.specs.Ordering.{is_lt}
use Rattle.source_rows.specs.declared.row.Row.{Row}
use Rattle.source_rows.specs.Row.{no_number}
use Rattle.source_rows.specs.Rows.{Key, key_cmp}
use Rattle.source_rows.specs.Inserted.{inserted}
use Rattle.source_rows.specs.Tree.{IsForest, parent_of}
use Rattle.source_rows.specs.TwoLevels.{is_child_of}
use Rattle.context_core.specs.Ready.{Own, is_blocked, is_free, is_ready, is_most_urgent, selected}
use Rattle.context_core.specs.TwoLevels.{is_busy}
use Rattle.loop_script.specs.Units.{SourceId, Order}

-- ---- what blocks a source

-- a call of the source is in progress, or of one of so many above it: its parent, the parent's parent, and so on
abbrev pub is_blocked_within : ℕ → List SourceId → List Row → Row → Bool
is_blocked_within zero busy rows r = is_busy busy r.id
is_blocked_within (suc n) busy rows r = is_busy busy r.id || option_map_or (is_blocked_within n busy rows) (parent_of rows r.parent) false

-- at four levels three stand above at most
abbrev pub is_blocked_at_four : List SourceId → List Row → Row → Bool
is_blocked_at_four busy rows r = is_blocked_within 3 busy rows r

-- ---- what is ready

-- not blocked, and it is ready by itself or a child of it is ready, which looks at one level less
abbrev pub is_ready_within : ℕ → Own → List SourceId → List Row → Row → Bool
is_ready_within zero own busy rows r = not (is_blocked_at_four busy rows r) && own r
is_ready_within (suc n) own busy rows r = not (is_blocked_at_four busy rows r) && (own r || list_any (λ q. is_child_of r.id q && is_ready_within n own busy rows q) rows)

-- three stand below at most
abbrev pub is_ready_at_four : Own → List SourceId → List Row → Row → Bool
is_ready_at_four own busy rows r = is_ready_within 3 own busy rows r

-- the rows that are ready
abbrev pub ready_at_four : Own → List SourceId → List Row → List Row
ready_at_four own busy rows = filter (is_ready_at_four own busy rows) rows

-- ---- the order

-- the order numbers of so many above a source at most, from the root down, and then its own
abbrev pub numbers_within : ℕ → List Row → Row → List Order
numbers_within zero rows r = r.order ∷ []
numbers_within (suc n) rows r = option_map_or (numbers_within n rows) (parent_of rows r.parent) [] ++ r.order ∷ []

-- so many numbers, where what is missing counts as greater than each number: so a source stands behind those under it
abbrev pub filled : ℕ → List Order → List Order
filled zero numbers = []
filled (suc n) [] = no_number ∷ filled n []
filled (suc n) (number ∷ numbers) = number ∷ filled n numbers

-- by priority, and then by these numbers
abbrev pub four_level_key : List Row → Row → Key
four_level_key rows r = (r.priority, filled 4 (numbers_within 3 rows r))

-- whether a row stands before another
abbrev pub before_at_four : List Row → Row → Row → Bool
before_at_four rows r q = is_lt (key_cmp (four_level_key rows r) (four_level_key rows q))

-- rows in the order of dispatch
abbrev pub in_order_at_four : (whole : List Row) → List Row → List Row
in_order_at_four whole [] = []
in_order_at_four whole (r ∷ rs) = inserted (before_at_four whole) r (in_order_at_four whole rs)

-- ---- the selection

-- the ids of the ready rows of the least priority, in order
abbrev pub selected_at_four : Own → List SourceId → List Row → List SourceId
selected_at_four own busy rows =
    map (λ r. r.id) (in_order_at_four rows (filter (is_most_urgent (ready_at_four own busy rows)) (ready_at_four own busy rows)))

-- what ties the rules by lineages and paths to these
pub record ParentLaws : Type 0 where
  -- a call of the source blocks it, and one of any above it
  pub blocked : (rows : List Row) → IsForest rows → (busy : List SourceId) → AllByRecursion (λ r. is_blocked busy r ≡ is_blocked_at_four busy rows r) rows
  -- at any level: a source is ready where no call blocks it, and it is so by itself or a child of it is ready
  pub lends : (rows : List Row) → IsForest rows → (own : Own) (busy : List SourceId)
      → AllByRecursion (λ r. is_ready own busy rows r ≡ (is_free busy r && (own r || list_any (λ q. is_child_of r.id q && is_ready own busy rows q) rows))) rows
  -- what is ready is what these rules say
  pub ready : (rows : List Row) → IsForest rows → (own : Own) (busy : List SourceId) → AllByRecursion (λ r. is_ready own busy rows r ≡ is_ready_at_four own busy rows r) rows
  -- and so is what is selected
  pub selected : (rows : List Row) → IsForest rows → (own : Own) (busy : List SourceId) → selected own busy rows ≡ selected_at_four own busy rows
