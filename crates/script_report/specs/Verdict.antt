-- What is answered of the bytes of a script.
use Rattle.std.specs.Prelude.{◌≢◌, ℕ, Bool, true, false, List, Option, Some, None, Ok, Err}
use Rattle.loop_script.specs.Script.{Answers}
use Rattle.loop_script.specs.declared.fault.ScriptFault.{ScriptFault}
use Rattle.loop_script.specs.declared.fault.ScriptFault.TheVariants.{OutOfMemory}
use Rattle.loop_script.specs.declared.plan.Plan.{Plan}
use Rattle.named.specs.Answer.{StandsFor}
use Rattle.script_report.specs.declared.forms.Either.{Either}
use Rattle.script_report.specs.declared.forms.Either.TheVariants.{Numbers, Names}

-- whether bytes have no fault: they are a script's, or they are refused by the class of a fault; out of memory is none
abbrev pub Judges : List ℕ → Bool → Type 0
Judges bytes true = (script : Plan) × Answers bytes (Ok script)
Judges bytes false = (fault : ScriptFault) × (fault ≢ OutOfMemory) × Answers bytes (Err fault)

-- the form of bytes without a fault: a script of numbers, or one with names and the script of numbers that it stands for; or neither
abbrev pub IsOfForm : List ℕ → Option Either → Type 0
IsOfForm bytes (Some Numbers) = Judges bytes true
IsOfForm bytes (Some (Names numbered)) = Judges bytes false × StandsFor bytes numbered.items × Judges numbered.items true
IsOfForm bytes None = Judges bytes false × ((numbered : List ℕ) → StandsFor bytes numbered → Judges numbered false)

-- whether bytes are a script of either form without a fault
abbrev pub JudgesEither : List ℕ → Bool → Type 0
JudgesEither bytes true = (form : Either) × IsOfForm bytes (Some form)
JudgesEither bytes false = IsOfForm bytes None
