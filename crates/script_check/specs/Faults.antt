-- The faults of shape and of limits in a value: its own, then those of its parts.
use Rattle.std.specs.Prelude.{ℕ, zero, suc, List, [], ◌∷◌, ◌++◌, map}
use Rattle.serde_json.specs.Data.{Data}
use Rattle.loop_script.specs.Form.{Form, script, an}
use Rattle.script_check.specs.declared.fault.Cause.{Cause}
use Rattle.script_check.specs.Found.{Step, Found}
use Rattle.script_check.specs.Own.{own}
use Rattle.script_check.specs.Parts.{parts}

-- what each gives, one after the other
abbrev pub together : {A B : Type 0} → (A → List B) → List A → List B
together f [] = []
together f (x ∷ xs) = f x ++ together f xs

-- causes at a place, as faults
abbrev pub found_at : List Step → Form → List Cause → List Found
found_at place f cs = map (λ c. record { place = place; form = f; cause = c }) cs

-- the faults in d at a place, which should have a form; so many levels of it are looked at
unfoldable pub faults_in : ℕ → List Step → Form → Data → List Found
faults_in zero place f d = []
faults_in (suc n) place f d = found_at place f (own f d) ++ together (λ p. faults_in n (place ++ p.step ∷ []) p.form p.inner) (parts f d)

-- no value that is read nests deeper than 127 levels
abbrev pub levels : ℕ
levels = 128

-- the faults of shape and of limits in a script
abbrev pub form_faults : Data → List Found
form_faults d = faults_in levels [] (an script) d
