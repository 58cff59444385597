-- The faults that are told say whether a script is read.
use Rattle.std.proofs.Common.{◌≡◌, ◌≢◌, ℕ, true, false, List, [], ◌∷◌, None, Result, Ok, Err, refl, sym, subst, map}
use Rattle.std.specs.Prelude.{IsUtf8}
use Rattle.serde_json.specs.Data.{Data}
use Rattle.serde_json.specs.Read.{read}
use Rattle.loop_script.specs.Script.{IsJson, script_of}
use Rattle.loop_script.specs.declared.fault.ScriptFault.{ScriptFault}
use Rattle.loop_script.specs.declared.fault.ScriptFault.TheVariants.{NotJson, Shape, Limit, Reference, Rule, OutOfMemory}
use Rattle.loop_script.specs.declared.plan.Plan.{Plan}
use Rattle.script_check.specs.Agreement.{Agrees}
use Rattle.script_check.specs.declared.fault.Fault.{Fault}
use Rattle.script_check.specs.Found.{Found}
use Rattle.script_check.specs.Seen.{found_of}
use Rattle.script_check.specs.Laws.{IsShallow}
use Rattle.script_check.specs.ScriptFaults.{script_faults}
use Rattle.script_check.proofs.ClassesAgree.{classes_agree}
use Rattle.script_report.specs.Verdict.{Judges}

fine_by : (bytes : List ℕ) (d : Data) (r : Result Plan ScriptFault) → IsJson bytes d → script_of d ≡ r → Agrees [] r → Judges bytes true
fine_by bytes d (Ok p) j e a = (p, (d, j, e))
fine_by bytes d (Err Shape) j e a = absurd (cc)
fine_by bytes d (Err Limit) j e a = absurd (let b = a.1 in cc)
fine_by bytes d (Err Reference) j e a = absurd (let b = a.2 in cc)
fine_by bytes d (Err Rule) j e a = absurd (let b = a.3 in cc)
fine_by bytes d (Err NotJson) j e a = absurd a
fine_by bytes d (Err OutOfMemory) j e a = absurd a

-- where none is told the bytes are a script's
pub fine : (bytes : List ℕ) (d : Data) → IsJson bytes d → IsShallow d → script_faults d ≡ [] → Judges bytes true
fine bytes d j s none = fine_by bytes d (script_of d) j refl (subst (λ fs. Agrees fs (script_of d)) none (classes_agree d s))

faulty_by : (bytes : List ℕ) (d : Data) (x : Found) (xs : List Found) (r : Result Plan ScriptFault) → IsJson bytes d → script_of d ≡ r → Agrees (x ∷ xs) r → Judges bytes false
faulty_by bytes d x xs (Ok p) j e a = absurd (cc)
faulty_by bytes d x xs (Err Shape) j e a = (Shape, (λ s. absurd (cc)), (d, j, e))
faulty_by bytes d x xs (Err Limit) j e a = (Limit, (λ s. absurd (cc)), (d, j, e))
faulty_by bytes d x xs (Err Reference) j e a = (Reference, (λ s. absurd (cc)), (d, j, e))
faulty_by bytes d x xs (Err Rule) j e a = (Rule, (λ s. absurd (cc)), (d, j, e))
faulty_by bytes d x xs (Err NotJson) j e a = absurd a
faulty_by bytes d x xs (Err OutOfMemory) j e a = absurd a

-- where one is told they are refused
pub faulty : (bytes : List ℕ) (d : Data) (x : Found) (xs : List Found) → IsJson bytes d → IsShallow d → script_faults d ≡ x ∷ xs → Judges bytes false
faulty bytes d x xs j s some = faulty_by bytes d x xs (script_of d) j refl (subst (λ fs. Agrees fs (script_of d)) some (classes_agree d s))

pub faulty_told : (bytes : List ℕ) (d : Data) (fs : List Fault) → IsJson bytes d → IsShallow d → map found_of fs ≡ script_faults d → fs ≢ [] → Judges bytes false
faulty_told bytes d [] j s e some = absurd (some refl)
faulty_told bytes d (f ∷ fs) j s e some = faulty bytes d (found_of f) (map found_of fs) j s (sym e)

-- where no JSON was read they are refused too
pub unread : (bytes : List ℕ) → (IsUtf8 bytes → read bytes ≡ None) → Judges bytes false
unread bytes none = (NotJson, (λ s. absurd (cc)), (λ d j. absurd (let e = none j.0 in let r = j.1 in cc)))
