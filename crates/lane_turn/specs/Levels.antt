-- At how many levels the sources of a lane stand, before and after each step of a run.
use Rattle.std.specs.Prelude.{◌≡◌, ℕ, ◌≤◌, Option, Some, None, List, length}
use Rattle.std.specs.List.{AllByRecursion}
use Rattle.loop_script.specs.declared.plan.Plan.{Plan}
use Rattle.source_rows.specs.Rows.{RowSet, row_of, child_fault, priority_fault, destroyed, reprioritised}
use Rattle.source_rows.specs.Edits.{IsSoundSet}
use Rattle.source_rows.specs.TwoLevels.{IsWithinLevels, child_refused, destroyed_pair, reprioritised_pair}
use Rattle.context_core.specs.declared.context.Context.{Context}
use Rattle.context_core.specs.Ready.{Own, selected}
use Rattle.context_core.specs.TwoLevels.{selected_at_two}
use Rattle.lane_turn.specs.Sources.{tree_levels}
use Rattle.lane_turn.specs.Lane.{Lane}
use Rattle.lane_turn.specs.Tick.{lanes_at, lane_within}
use Rattle.loop_script.specs.Units.{Tick, SourceId, Priority}

-- the sources stand in trees, at so many levels at most
pub record IsGrown (levels : ℕ) (s : RowSet) : Type 0 where
  pub most : s.levels ≡ levels
  pub sound : IsSoundSet s

-- the same of a context, where there is one
abbrev pub Grown : ℕ → Option Context → Type 0
Grown levels None = Unit {0}
Grown levels (Some context) = IsGrown levels context.rows

-- the sources do what the rules of two levels say
pub record IsOfTwoLevels (s : RowSet) : Type 0 where
  pub low : IsWithinLevels 2 s.rows
  pub selected : (own : Own) (busy : List SourceId) → selected own busy s.rows ≡ selected_at_two own busy s.rows
  pub child : (id : SourceId) → child_fault s.levels (row_of id s.rows) ≡ child_refused (row_of id s.rows)
  pub priority : (id : SourceId) → priority_fault (row_of id s.rows) ≡ child_refused (row_of id s.rows)
  pub destroyed : (id : SourceId) → destroyed id s ≡ destroyed_pair id s
  pub reprioritised : (id : SourceId) (priority : Priority) → reprioritised id priority s ≡ reprioritised_pair id priority s

-- the same of a context, where there is one
abbrev pub OfTwoLevels : Option Context → Type 0
OfTwoLevels None = Unit {0}
OfTwoLevels (Some context) = IsOfTwoLevels context.rows

-- what all lanes of a script are at each tick, before and after each step of their turns
abbrev pub OfAllLanes : Plan → (Lane → Type 0) → Type 0
OfAllLanes script P = (tick : Tick) (steps : ℕ) → tick ≤ 4096 → AllByRecursion (λ lane. P (lane_within script tick steps lane)) (lanes_at script tick)

-- at how many levels sources stand
pub record LevelsHold : Type 0 where
  -- sources stand at no more levels than the script's version has
  pub grown : (script : Plan) → length script.lanes ≤ 64 → OfAllLanes script (λ lane. AllByRecursion (Grown (tree_levels script)) lane.contexts)
  -- in version 1 what is selected, what is refused and what an edit leaves is what the rules of two levels say
  pub version_1 : (script : Plan) → length script.lanes ≤ 64 → script.version ≡ 1 → OfAllLanes script (λ lane. AllByRecursion OfTwoLevels lane.contexts)
