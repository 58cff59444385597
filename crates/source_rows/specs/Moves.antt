-- Rows put in the places of others.
use Rattle.std.specs.Prelude.{◌≢◌, ◌==◌, Option, Some, None, List, [], ◌∷◌, slice_set, if◌then◌else◌}
use Rattle.source_rows.specs.declared.row.Row.{Row}
use Rattle.source_rows.specs.Lists.{Pairs}
use Rattle.source_rows.specs.Rows.{changed}
use Rattle.loop_script.specs.Units.{SourceId, Priority, Order}

-- no id stands twice
abbrev pub NoneTwice : List SourceId → Type 0
NoneTwice ids = Pairs (λ a b. a ≢ b) ids

-- the table with each of the rows in the place of the one that has its id
abbrev pub with_each : List Row → List Row → List Row
with_each [] rows = rows
with_each (r ∷ rs) rows = with_each rs (changed r.id (λ _. r) rows)

-- a row under a root that gets a priority and an order number
abbrev pub moved_row : SourceId → Priority → Order → Row → Row
moved_row id priority order r = record r { priority = priority; order = if r.id == id then order else r.order; path = slice_set r.path 0 order }

-- the table with a row moved, where there is one
abbrev pub with_moved : SourceId → Priority → Order → Option Row → List Row → List Row
with_moved root priority order None rows = rows
with_moved root priority order (Some r) rows = changed r.id (λ _. moved_row root priority order r) rows
