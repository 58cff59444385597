-- What the program does with its input, by its status.
use Rattle.std.specs.Prelude.{◌≡◌, ℕ, List, Option, Some, String}
use Rattle.loop_script.specs.declared.fault.ScriptFault.{ScriptFault}
use Rattle.loop_script.specs.declared.fault.ScriptFault.TheVariants as faults
use Rattle.program_input.specs.Input.{IsRestOf}
use Rattle.mainctx.specs.Run.{Writes, WritesPrefix, HoldsText, IsFaultOf, IsScriptOf}
use Rattle.std.specs.declared.alloc.Global.{Global}
use Rattle.loop_script.specs.declared.plan.Plan.{Plan}
use Rattle.tick_stepper.specs.declared.fault.StepFault.TheVariants.{Workers}
use Rattle.tick_stepper.specs.Crew.{refusal_of}
use Rattle.mainctx.specs.declared.arguments.Asked.{Asked}
use Rattle.mainctx.specs.Arguments.{AskFor}
use Rattle.mainctx.specs.declared.status.Refusal.{Refusal}
use Rattle.mainctx.specs.declared.status.Refusal.TheVariants.{Usage, Script, Setup, Memory, Read, Write}

-- the text of the script that the input has left was written
pub record Serves (left : Option (List ℕ)) (old new : List ℕ) : Type 0 where
  pub bytes : List ℕ
  pub input : IsRestOf left bytes
  pub writes : Writes bytes old new

-- what the writer itself holds, where that is known, gained that text
pub record ServesHolder (left : Option (List ℕ)) (held holds : Option (List ℕ)) : Type 0 where
  pub bytes : List ℕ
  pub input : IsRestOf left bytes
  pub gains : HoldsText bytes held holds

-- the input has left no script, but bytes with a class of fault
pub record HasFault (left : Option (List ℕ)) : Type 0 where
  pub bytes : List ℕ
  pub input : IsRestOf left bytes
  pub fault : ScriptFault
  pub class : IsFaultOf bytes fault

-- nothing was written, and the input has left no script but bytes with this class of fault
pub record Refuses (left : Option (List ℕ)) (fault : ScriptFault) (old new : List ℕ) : Type 0 where
  pub bytes : List ℕ
  pub input : IsRestOf left bytes
  pub class : IsFaultOf bytes fault
  pub nothing : new ≡ old

-- the input has left a script, and the arguments ask for a number of workers that is refused
pub record HasNoCrew (args : List (String Global)) (left : Option (List ℕ)) : Type 0 where
  pub bytes : List ℕ
  pub input : IsRestOf left bytes
  pub script : Plan
  pub read : IsScriptOf bytes script
  pub asked : Asked
  pub ask : AskFor args asked
  pub refused : refusal_of script asked.workers asked.sharing ≡ Some Workers

-- a prefix of the text was written
pub record ServesPrefix (left : Option (List ℕ)) (old new : List ℕ) : Type 0 where
  pub bytes : List ℕ
  pub input : IsRestOf left bytes
  pub writes : WritesPrefix bytes old new

-- the exit status of a refusal
abbrev pub status_of : Refusal → ℕ
status_of Usage = 1
status_of (Script faults.NotJson) = 2
status_of (Script faults.Shape) = 2
status_of (Script faults.Limit) = 2
status_of (Script faults.Reference) = 2
status_of (Script faults.Rule) = 2
status_of (Script faults.OutOfMemory) = 3
status_of Setup = 2
status_of Memory = 3
status_of Read = 4
status_of Write = 4

-- what a refusal leaves
abbrev pub Leaves : List (String Global) → Option (List ℕ) → Refusal → (old new : List ℕ) → Type 0
Leaves args left Usage old new = new ≡ old
Leaves args left (Script fault) old new = Refuses left fault old new
Leaves args left Setup old new = HasNoCrew args left × (new ≡ old)
Leaves args left Memory old new = new ≡ old
Leaves args left Read old new = new ≡ old
Leaves args left Write old new = ServesPrefix left old new
