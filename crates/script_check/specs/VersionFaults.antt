-- The actions that the version of a script has not, and where they stand.
use Rattle.std.specs.Prelude.{◌≡◌, ◌↔◌, true, false, ℕ, suc, List, [], ◌∷◌, ◌++◌, codes, Some, if◌then◌else◌}
use Rattle.serde_json.specs.Data.{Data}
use Rattle.serde_json.specs.Find.{get}
use Rattle.loop_script.specs.Form.{one_of, action}
use Rattle.loop_script.specs.Meaning as says
use Rattle.loop_script.specs.Version.{IsGive, GivesOutsideVersion2, is_version_2, begins_give, listed}
use Rattle.script_check.specs.declared.fault.Cause.TheVariants.{OtherVersion}
use Rattle.script_check.specs.Found.{Step, under, nth, at_place, Found}
use Rattle.script_check.specs.Laws.{In, has, is_shape}

-- that an action at a place is none of the version
abbrev pub other_version : List Step → Found
other_version place = record { place = place; form = one_of action; cause = OtherVersion }

-- each `give` of a list, from the k-th action on
abbrev pub gives_from : List Step → ℕ → List Data → List Found
gives_from place k [] = []
gives_from place k (d ∷ ds) = (if begins_give d then other_version (place ++ nth k ∷ []) ∷ [] else []) ++ gives_from place (suc k) ds

-- the same of the lists under a key of lanes or procedures, from the k-th on
abbrev pub gives_of : List ℕ → List ℕ → ℕ → List Data → List Found
gives_of owners actions k [] = []
gives_of owners actions k (d ∷ ds) = gives_from (under owners ∷ nth k ∷ under actions ∷ []) 0 (listed (get actions d)) ++ gives_of owners actions (suc k) ds

-- each `give` of a script, where its version is not 2
abbrev pub version_faults : Data → List Found
version_faults d =
    if is_version_2 d then []
    else gives_of (codes "lanes") (codes "start") 0 (listed (get (codes "lanes") d)) ++ gives_of (codes "procs") (codes "do") 0 (listed (get (codes "procs") d))

-- where an action stands: the m-th of the list that the n-th lane or procedure has under a key
abbrev pub action_place : List ℕ → List ℕ → ℕ → ℕ → List Step
action_place owners actions n m = under owners ∷ nth n ∷ under actions ∷ nth m ∷ []

-- each action there that begins so is told
abbrev pub EachIsTold : List ℕ → List ℕ → Data → Type 0
EachIsTold owners actions d = (n m : ℕ) → IsGive (says.nth m (says.under actions (says.nth n (says.under owners (Some d))))) → In (other_version (action_place owners actions n m)) (version_faults d)

-- the faults of the version are the actions that it has not, each in its place
pub record VersionFaults : Type 0 where
  -- some fault is told exactly where a script of another version than 2 has a `give`
  pub some : (d : Data) → (has is_shape (version_faults d) ≡ true) ↔ GivesOutsideVersion2 d
  -- the place of each leads to an action that begins so
  pub place : (d : Data) (x : Found) → In x (version_faults d) → (e : Data) × (at_place x.place d ≡ Some e) × IsGive (Some e)
  -- and where the version is not 2, each such action of a lane or a procedure is told
  pub lanes : (d : Data) → is_version_2 d ≡ false → EachIsTold (codes "lanes") (codes "start") d
  pub procs : (d : Data) → is_version_2 d ≡ false → EachIsTold (codes "procs") (codes "do") d
