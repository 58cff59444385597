-- What running the bytes of a script writes.
use Rattle.std.specs.Prelude.{◌≡◌, ◌≢◌, ℕ, Option, Some, None, List, ◌++◌, Ok, Err}
use Rattle.std.specs.Io.KnownBytes.{Appends}
use Rattle.loop_script.specs.declared.plan.Plan.{Plan}
use Rattle.loop_script.specs.declared.fault.ScriptFault.{ScriptFault}
use Rattle.loop_script.specs.declared.fault.ScriptFault.TheVariants.{OutOfMemory}
use Rattle.loop_script.specs.Script.{Answers}
use Rattle.mainctx.specs.declared.run.MainFault.{MainFault}
use Rattle.mainctx.specs.declared.run.MainFault.TheVariants as faults
use Rattle.tick_stepper.specs.declared.crew.Sharing.{Sharing}
use Rattle.tick_stepper.specs.declared.fault.StepFault.{StepFault}
use Rattle.tick_stepper.specs.declared.fault.StepFault.TheVariants as steps
use Rattle.tick_stepper.specs.Crew.{refusal_of}
use Rattle.mainctx.specs.Text.{text_of}
use Rattle.mainctx.specs.Writing.{AddsPrefix}

-- the bytes are those of a script
abbrev pub IsScriptOf : List ℕ → Plan → Type 0
IsScriptOf bytes script = Answers bytes (Ok script)

-- the bytes are no script's, and this is the class of their fault; out of memory is none
abbrev pub IsFaultOf : List ℕ → ScriptFault → Type 0
IsFaultOf bytes fault = (fault ≢ OutOfMemory) × Answers bytes (Err fault)

-- the workers can't share the lanes of the script of the bytes, for this cause
pub record RefusesCrew (bytes : List ℕ) (workers : ℕ) (sharing : Sharing) (fault : StepFault) : Type 0 where
  pub script : Plan
  pub read : IsScriptOf bytes script
  pub refused : refusal_of script workers sharing ≡ Some fault

-- a run of the bytes may end with this fault: of a script with `Setup`, for its cause, `OutOfMemory` or `Write` alone
abbrev pub IsRunFaultOf : List ℕ → (workers : ℕ) → Sharing → MainFault → Type 0
IsRunFaultOf bytes workers sharing (faults.Script fault) = IsFaultOf bytes fault
IsRunFaultOf bytes workers sharing (faults.Setup fault) = RefusesCrew bytes workers sharing fault
IsRunFaultOf bytes workers sharing faults.OutOfMemory = Unit {0}
IsRunFaultOf bytes workers sharing faults.Write = (script : Plan) × IsScriptOf bytes script

-- a run of the bytes by the caller alone may end with this fault: of a script with `OutOfMemory` or `Write` alone
abbrev pub IsLoneFaultOf : List ℕ → MainFault → Type 0
IsLoneFaultOf bytes (faults.Script fault) = IsFaultOf bytes fault
IsLoneFaultOf bytes (faults.Setup fault) = ⊥
IsLoneFaultOf bytes faults.OutOfMemory = Unit {0}
IsLoneFaultOf bytes faults.Write = (script : Plan) × IsScriptOf bytes script

-- what is left to go wrong once a run has ended
abbrev pub IsWriteFault : MainFault → Type 0
IsWriteFault (faults.Script fault) = ⊥
IsWriteFault (faults.Setup fault) = ⊥
IsWriteFault faults.OutOfMemory = Unit {0}
IsWriteFault faults.Write = Unit {0}

-- a run of a script may end with this fault before anything is written
abbrev pub IsSetupFaultOf : Plan → (workers : ℕ) → Sharing → MainFault → Type 0
IsSetupFaultOf script workers sharing (faults.Script fault) = ⊥
IsSetupFaultOf script workers sharing (faults.Setup fault) = refusal_of script workers sharing ≡ Some fault
IsSetupFaultOf script workers sharing faults.OutOfMemory = Unit {0}
IsSetupFaultOf script workers sharing faults.Write = ⊥

-- what a run answers for a fault of its stepper
abbrev pub IsSetup : StepFault → MainFault → Type 0
IsSetup steps.Workers fault = fault ≡ faults.Setup steps.Workers
IsSetup steps.Table fault = fault ≡ faults.Setup steps.Table
IsSetup steps.OutOfMemory fault = fault ≡ faults.OutOfMemory
IsSetup steps.Spent fault = fault ≡ faults.OutOfMemory

-- the workers can share the lanes of the script of the bytes
pub record IsCrewFor (bytes : List ℕ) (workers : ℕ) (sharing : Sharing) : Type 0 where
  pub script : Plan
  pub read : IsScriptOf bytes script
  pub fits : refusal_of script workers sharing ≡ None

-- what was written gained the text of the script of the bytes
pub record Writes (bytes old new : List ℕ) : Type 0 where
  pub script : Plan
  pub read : IsScriptOf bytes script
  pub gained : new ≡ old ++ text_of script

-- what was written gained a prefix of that text
pub record WritesPrefix (bytes old new : List ℕ) : Type 0 where
  pub script : Plan
  pub read : IsScriptOf bytes script
  pub gained : AddsPrefix old new (text_of script)

-- what the writer itself holds, where that is known, gained the text of the script of the bytes
pub record HoldsText (bytes : List ℕ) (held holds : Option (List ℕ)) : Type 0 where
  pub script : Plan
  pub read : IsScriptOf bytes script
  pub gained : Appends held holds (text_of script)
