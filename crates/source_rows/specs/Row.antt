-- What is kept of a source, and where it stands in its tree.
use Rattle.std.specs.Prelude.{ℕ, ◌+◌, ◌*◌, ◌^◌, ◌-◌, ◌==◌, ℤ, pos, negsuc, Some, None, List, [], ◌∷◌, slice_index, if◌then◌else◌}
use Rattle.loop_script.specs.declared.SourceSpec.{SourceSpec}
use Rattle.loop_script.specs.declared.Kind.{Kind}
use Rattle.loop_script.specs.declared.Kind.TheVariants.{Idle, Timeout, ReadyTime, Fd, Cancel}
use Rattle.source_rows.specs.declared.row.Row.{Row}
use Rattle.loop_script.specs.Units.{Microseconds, SourceId, Order}

-- the ready time of a source that is made at a time
abbrev pub ready_at : Kind → Microseconds → ℤ
ready_at Idle now = negsuc 0
ready_at (Timeout ms) now = pos (now + ms * 1000)
ready_at (ReadyTime us) now = us
ready_at (Fd fd bits) now = negsuc 0
ready_at (Cancel c) now = negsuc 0

-- what fills up a path: no order number comes near it
abbrev pub no_number : ℕ
no_number = 2 ^ 64 - 1

-- the lineage of a root: its id alone
abbrev pub root_lineage : SourceId → List SourceId
root_lineage id = id ∷ id ∷ id ∷ id ∷ []

-- the path of a root: its order number alone
abbrev pub root_path : Order → List Order
root_path order = order ∷ no_number ∷ no_number ∷ no_number ∷ []

-- the ids from the root down, filled up with the last
abbrev pub lineage_under : ℕ → List SourceId → SourceId → List SourceId
lineage_under level lineage id = if level == 1 then slice_index lineage 0 ∷ id ∷ id ∷ id ∷ []
    else if level == 2 then slice_index lineage 0 ∷ slice_index lineage 1 ∷ id ∷ id ∷ []
    else slice_index lineage 0 ∷ slice_index lineage 1 ∷ slice_index lineage 2 ∷ id ∷ []

-- the order numbers from the root down, filled up with the greatest number: so a longer path stands before its beginnings
abbrev pub path_under : ℕ → List Order → Order → List Order
path_under level path order = if level == 1 then slice_index path 0 ∷ order ∷ no_number ∷ no_number ∷ []
    else if level == 2 then slice_index path 0 ∷ slice_index path 1 ∷ order ∷ no_number ∷ []
    else slice_index path 0 ∷ slice_index path 1 ∷ slice_index path 2 ∷ order ∷ []

-- the row of a source that is attached
abbrev pub root_row : SourceSpec → Microseconds → SourceId → Order → Row
root_row spec now id order = record {
  id = id;
  kind = spec.kind;
  priority = spec.priority;
  order = order;
  parent = None;
  recurse = spec.recurse;
  ready = ready_at spec.kind now;
  call = spec.call;
  count = 0;
  level = 1;
  lineage = root_lineage id;
  path = root_path order;
}

-- the row of a source that is added below another
abbrev pub child_row : Row → SourceSpec → Microseconds → SourceId → Order → Row
child_row parent spec now id order = record {
  id = id;
  kind = spec.kind;
  priority = parent.priority;
  order = order;
  parent = Some parent.id;
  recurse = spec.recurse;
  ready = ready_at spec.kind now;
  call = spec.call;
  count = 0;
  level = parent.level + 1;
  lineage = lineage_under parent.level parent.lineage id;
  path = path_under parent.level parent.path order;
}
