-- Where a fault stands, what should stand there, and what is wrong.
use Rattle.std.specs.Prelude.{ℕ, List, [], ◌∷◌, Option, Some, option_and_then}
use Rattle.serde_json.specs.Data.{Data}
use Rattle.serde_json.specs.Find.{get, at}
use Rattle.loop_script.specs.Form.{Form}
use Rattle.script_check.specs.declared.fault.Cause.{Cause}

-- a step into a value: what an object has under a key, or the n-th item of a list
pub data Step : Type 0 where
  under : List ℕ → Step
  nth : ℕ → Step

-- what stands a step further
abbrev pub stepped : Step → Data → Option Data
stepped (under k) d = get k d
stepped (nth n) d = at n d

-- what stands at the end of steps
abbrev pub at_place : List Step → Data → Option Data
at_place [] d = Some d
at_place (s ∷ ss) d = option_and_then (at_place ss) (stepped s d)

-- a fault: the place of the value that has it, the form which that value should have, and the cause
pub record Found : Type 0 where
  pub place : List Step
  pub form : Form
  pub cause : Cause
