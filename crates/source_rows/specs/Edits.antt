-- What each edit of the rows of a context leaves.
use Rattle.std.specs.Prelude.{◌≡◌, ℕ, ℤ, ◌<◌, ◌≤◌, ◌^◌, None}
use Rattle.loop_script.specs.declared.SourceSpec.{SourceSpec}
use Rattle.source_rows.specs.Rows.{RowSet, no_rows, row_of, attached, child_added, child_fault, priority_fault, destroyed, reprioritised, ready_set, counted}
use Rattle.source_rows.specs.Kept.{IsSound}
use Rattle.loop_script.specs.Units.{Microseconds, SourceId, Priority}

-- the rows stand in trees within their levels, their ids rise, no two have one place, and what comes next is new
abbrev pub IsSoundSet : RowSet → Type 0
IsSoundSet s = IsSound s.rows s.next_id s.next_order s.levels

-- each edit that is not refused leaves rows that are so, at as many levels
pub record EditLaws : Type 0 where
  pub none : (levels : ℕ) → 1 ≤ levels → levels ≤ 4 → IsSoundSet (no_rows levels)
  pub attached : (spec : SourceSpec) (now : Microseconds) (s : RowSet) → s.next_order < 2 ^ 63 → IsSoundSet s → IsSoundSet (attached spec now s)
  pub child_added : (spec : SourceSpec) (now : Microseconds) (id : SourceId) (s : RowSet) → s.next_order < 2 ^ 63 → child_fault s.levels (row_of id s.rows) ≡ None → IsSoundSet s → IsSoundSet (child_added spec now (row_of id s.rows) s)
  pub reprioritised : (id : SourceId) (priority : Priority) (s : RowSet) → s.next_order < 2 ^ 63 → priority_fault (row_of id s.rows) ≡ None → IsSoundSet s → IsSoundSet (reprioritised id priority s)
  pub destroyed : (id : SourceId) (s : RowSet) → IsSoundSet s → IsSoundSet (destroyed id s)
  pub ready_set : (id : SourceId) (ready : ℤ) (s : RowSet) → IsSoundSet s → IsSoundSet (ready_set id ready s)
  pub counted : (id : SourceId) (s : RowSet) → IsSoundSet s → IsSoundSet (counted id s)
