-- Orders of small trees, worked out.
use Rattle.std.specs.Prelude.{◌≡◌, pos, false, None, List, [], ◌∷◌, map}
use Rattle.loop_script.specs.declared.SourceSpec.{SourceSpec}
use Rattle.loop_script.specs.declared.Kind.TheVariants.{Idle}
use Rattle.source_rows.specs.Rows.{RowSet, attached, child_added, row_of, in_order, destroyed, reprioritised}
use Rattle.loop_script.specs.Units.{SourceId}

-- an idle source
abbrev pub idle : SourceSpec
idle = record { kind = Idle; priority = pos 0; recurse = false; call = None }

-- no row, at four levels
abbrev pub fresh : RowSet
fresh = record { rows = []; next_id = 1; next_order = 0; levels = 4 }

-- an idle source below the row of an id
abbrev pub under : SourceId → RowSet → RowSet
under id s = child_added idle 0 (row_of id s.rows) s

-- ids in the order of dispatch
abbrev pub ids : RowSet → List SourceId
ids s = map (λ r. r.id) (in_order s.rows)

-- a chain; a tree of two branches; a tree behind another root once its priority is set; a chain whose second row is destroyed
pub record WorkedOrders : Type 0 where
  pub chain : ids (under 3 (under 2 (under 1 (attached idle 0 fresh)))) ≡ 4 ∷ 3 ∷ 2 ∷ 1 ∷ []
  pub tree : ids (under 3 (under 1 (under 2 (under 1 (attached idle 0 fresh))))) ≡ 5 ∷ 3 ∷ 2 ∷ 4 ∷ 1 ∷ []
  pub later : ids (reprioritised 1 (pos 0) (attached idle 0 (under 1 (attached idle 0 fresh)))) ≡ 3 ∷ 2 ∷ 1 ∷ []
  pub gone : ids (destroyed 2 (under 3 (under 2 (under 1 (attached idle 0 fresh))))) ≡ 1 ∷ []
