-- What is dispatched next where each source is a root, or a child of one and has no children.
use Rattle.std.specs.Prelude.{◌≡◌, ◌==◌, ◌&&◌, ◌||◌, Bool, false, not, Option, Some, None, List, map, filter}
use Rattle.std.specs.List.{AllByRecursion, list_any}
use Rattle.source_rows.specs.declared.row.Row.{Row}
use Rattle.source_rows.specs.Tree.{IsForest, parent_of}
use Rattle.source_rows.specs.TwoLevels.{IsWithinLevels, is_child_of, in_order_at_two}
use Rattle.context_core.specs.Ready.{Own, is_blocked, is_ready, is_most_urgent, selected}
use Rattle.loop_script.specs.Units.{SourceId}

-- a call of the source with the id is in progress
abbrev pub is_busy : List SourceId → SourceId → Bool
is_busy busy id = list_any (λ b. b == id) busy

-- whether a call of the parent is in progress
abbrev pub is_parent_busy : List SourceId → Option SourceId → Bool
is_parent_busy busy None = false
is_parent_busy busy (Some id) = is_busy busy id

-- a call of the source, or of its parent, is in progress
abbrev pub is_blocked_at_two : List SourceId → Row → Bool
is_blocked_at_two busy r = is_busy busy r.id || is_parent_busy busy r.parent

-- not blocked, and ready by itself
abbrev pub calls_at_two : Own → List SourceId → Row → Bool
calls_at_two own busy r = not (is_blocked_at_two busy r) && own r

-- not blocked, and it is ready by itself or a child of it calls
abbrev pub is_ready_at_two : Own → List SourceId → List Row → Row → Bool
is_ready_at_two own busy rows r = not (is_blocked_at_two busy r) && (own r || list_any (λ q. is_child_of r.id q && calls_at_two own busy q) rows)

-- the rows that are ready
abbrev pub ready_at_two : Own → List SourceId → List Row → List Row
ready_at_two own busy rows = filter (is_ready_at_two own busy rows) rows

-- the ids of the ready rows of the least priority, by the root's number, children before their parent, the own number
abbrev pub selected_at_two : Own → List SourceId → List Row → List SourceId
selected_at_two own busy rows =
    map (λ r. r.id) (in_order_at_two rows (filter (is_most_urgent (ready_at_two own busy rows)) (ready_at_two own busy rows)))

-- ---- what ties the rules at any level to them

-- the row above, if there is one, is blocked
abbrev pub is_above_blocked : List SourceId → Option Row → Bool
is_above_blocked busy None = false
is_above_blocked busy (Some above) = is_blocked busy above

-- what blocks a source, by its parents; and at two levels
pub record LevelLaws : Type 0 where
  -- at any level: a call of the source blocks it, and so does what blocks its parent
  pub by_parents : (rows : List Row) → IsForest rows → (busy : List SourceId) → AllByRecursion (λ r. is_blocked busy r ≡ (is_above_blocked busy (parent_of rows r.parent) || is_busy busy r.id)) rows
  -- at two levels: a call of the source, or of its parent
  pub blocked : (rows : List Row) → IsForest rows → IsWithinLevels 2 rows → (busy : List SourceId) → AllByRecursion (λ r. is_blocked busy r ≡ is_blocked_at_two busy r) rows
  -- at two levels a child that is free and ready by itself makes its parent ready
  pub ready : (rows : List Row) → IsForest rows → IsWithinLevels 2 rows → (own : Own) (busy : List SourceId) → AllByRecursion (λ r. is_ready own busy rows r ≡ is_ready_at_two own busy rows r) rows
  pub selected : (rows : List Row) → IsForest rows → IsWithinLevels 2 rows → (own : Own) (busy : List SourceId) → selected own busy rows ≡ selected_at_two own busy rows
