-- The rows of a context, their order, and the edits of them.
use Rattle.std.specs.Prelude.{ℕ, ◌+◌, ◌==◌, Bool, not, ℤ, pos, int_lt, Option, Some, None, List, [], ◌∷◌, ◌++◌, map, filter, slice_set, if◌then◌else◌}
use Rattle.std.specs.List.{find, list_any}
use Rattle.std.specs.Ordering.{is_lt, ordering_then, int_cmp, nat_cmp}
use Rattle.std.specs.declared.cmp.Ordering.{Ordering}
use Rattle.std.specs.Cmp.Lexicographic.{slice_cmp}
use Rattle.loop_script.specs.declared.SourceSpec.{SourceSpec}
use Rattle.source_rows.specs.declared.row.Row.{Row}
use Rattle.source_rows.specs.declared.levels.Levels.{Levels}
use Rattle.source_rows.specs.declared.levels.Levels.TheVariants.{Two, Four}
use Rattle.source_rows.specs.declared.fault.RowsFault.{RowsFault}
use Rattle.source_rows.specs.declared.fault.RowsFault.TheVariants.{NoSource, IsChild, TooDeep}
use Rattle.source_rows.specs.Row.{root_row, child_row}
use Rattle.source_rows.specs.Inserted.{inserted}
use Rattle.loop_script.specs.Units.{Microseconds, SourceId, Priority, Order}

-- the rows of a context by rising id, what the next one gets, and at how many levels they may stand
pub record RowSet : Type 0 where
  pub rows : List Row
  pub next_id : SourceId
  pub next_order : Order
  pub levels : ℕ

-- how many levels
abbrev pub level_count : Levels → ℕ
level_count Two = 2
level_count Four = 4

-- no row yet
abbrev pub no_rows : ℕ → RowSet
no_rows levels = record { rows = []; next_id = 1; next_order = 0; levels = levels }

-- whether a row has an id
abbrev pub has_id : SourceId → Row → Bool
has_id id r = r.id == id

-- the row of an id
abbrev pub row_of : SourceId → List Row → Option Row
row_of id rows = find (has_id id) rows

-- the row itself, or one above it, has the id
abbrev pub is_under : SourceId → Row → Bool
is_under id r = list_any (λ i. i == id) r.lineage

-- ---- the order within a context

-- a priority and a path
abbrev pub Key : Type 0
Key = ℤ × List ℕ

-- by priority, then by path
abbrev pub key_cmp : Key → Key → Ordering
key_cmp a b = ordering_then (int_cmp a.0 b.0) (slice_cmp nat_cmp a.1 b.1)

-- by priority, and then by the path of order numbers
abbrev pub key_of : Row → Key
key_of r = (r.priority, r.path)

-- whether a row stands before another
abbrev pub stands_before : Row → Row → Bool
stands_before r q = is_lt (key_cmp (key_of r) (key_of q))

-- rows with one more in its place
abbrev pub placed : Row → List Row → List Row
placed r rows = inserted stands_before r rows

-- rows in the order of dispatch
abbrev pub in_order : List Row → List Row
in_order [] = []
in_order (r ∷ rs) = placed r (in_order rs)

-- ---- the edits

-- the set with one more row
abbrev pub added : Row → RowSet → RowSet
added row s = record s { rows = s.rows ++ row ∷ []; next_id = s.next_id + 1; next_order = s.next_order + 1 }

-- a source is attached
abbrev pub attached : SourceSpec → Microseconds → RowSet → RowSet
attached spec now s = added (root_row spec now s.next_id s.next_order) s

-- a source is added below a row, where there is one
abbrev pub child_added : SourceSpec → Microseconds → Option Row → RowSet → RowSet
child_added spec now None s = s
child_added spec now (Some parent) s = added (child_row parent spec now s.next_id s.next_order) s

-- why a row can have no child
abbrev pub child_fault : ℕ → Option Row → Option RowsFault
child_fault levels None = Some NoSource
child_fault levels (Some parent) = if parent.level == levels then Some (if levels == 2 then IsChild else TooDeep) else None

-- why a row is given no priority
abbrev pub priority_fault : Option Row → Option RowsFault
priority_fault None = Some NoSource
priority_fault (Some r) = if r.level == 1 then None else Some IsChild

-- a row of a tree whose root gets a priority and an order number
abbrev pub moved : SourceId → Priority → Order → Row → Row
moved id priority order r = if is_under id r
    then record r { priority = priority; order = if r.id == id then order else r.order; path = slice_set r.path 0 order }
    else r

-- a root is given a priority, with all that are under it
abbrev pub reprioritised : SourceId → Priority → RowSet → RowSet
reprioritised id priority s = record s { rows = map (moved id priority s.next_order) s.rows; next_order = s.next_order + 1 }

-- the row and all under it go
abbrev pub destroyed : SourceId → RowSet → RowSet
destroyed id s = record s { rows = filter (λ r. not (is_under id r)) s.rows }

-- a change of the row of an id
abbrev pub changed : SourceId → (Row → Row) → List Row → List Row
changed id f rows = map (λ r. if has_id id r then f r else r) rows

-- a row is given a ready time
abbrev pub ready_set : SourceId → ℤ → RowSet → RowSet
ready_set id ready s = record s { rows = changed id (λ r. record r { ready = ready }) s.rows }

-- a dispatch of a row is counted
abbrev pub counted : SourceId → RowSet → RowSet
counted id s = record s { rows = changed id (λ r. record r { count = r.count + 1 }) s.rows }

-- ---- the next ready time

-- the sooner of a time and one that there may be
abbrev pub sooner : ℤ → Option ℤ → ℤ
sooner t None = t
sooner t (Some u) = if int_lt u t then u else t

-- the least ready time above now
abbrev pub next_ready : Microseconds → List Row → Option ℤ
next_ready now [] = None
next_ready now (r ∷ rs) = if int_lt (pos now) r.ready then Some (sooner r.ready (next_ready now rs)) else next_ready now rs
