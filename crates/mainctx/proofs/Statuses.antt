-- What each status tells.
use Rattle.std.proofs.Common.{◌≡◌, ◌≤◌, ◌⊎◌, ◌&&◌, inl, inr, ℕ, Bool, true, false, cond, List, Option, Some, None, arith, subst, sym, refl}
use Rattle.loop_script.specs.declared.fault.ScriptFault.TheVariants as faults
use Rattle.mainctx.specs.declared.status.Refusal.{Refusal}
use Rattle.mainctx.specs.declared.status.Refusal.TheVariants.{Usage, Script, Setup, Memory, Read, Write}
use Rattle.mainctx.specs.Run.{IsRunFaultOf}
use Rattle.mainctx.specs.declared.run.MainFault.TheVariants as run_faults
use Rattle.loop_script.specs.declared.fault.ScriptFault.{ScriptFault}
use Rattle.program_input.specs.Input.{IsRestOf}
use Rattle.mainctx.specs.Serving.{Leaves, Refuses, ServesPrefix, HasNoCrew, status_of}
use Rattle.mainctx.specs.declared.arguments.Asked.{Asked}
use Rattle.mainctx.specs.Arguments.{AskFor, IsWordOf}
use Rattle.std.specs.Prelude.{String, string_bytes, nat_le}
use Rattle.std.specs.declared.alloc.Global.{Global}
use Rattle.loop_script.specs.declared.plan.Plan.{Plan}
use Rattle.tick_stepper.specs.declared.crew.Sharing.{Sharing}
use Rattle.tick_stepper.specs.declared.crew.Sharing.TheVariants.{Round, Fixed, Queue}
use Rattle.tick_stepper.specs.declared.fault.StepFault.{StepFault}
use Rattle.tick_stepper.specs.declared.fault.StepFault.TheVariants.{Workers}
use Rattle.tick_stepper.specs.Crew.{refusal_of}

pub status_above : (refusal : Refusal) → 1 ≤ status_of refusal
status_above Usage = omega arith
status_above (Script faults.NotJson) = omega arith
status_above (Script faults.Shape) = omega arith
status_above (Script faults.Limit) = omega arith
status_above (Script faults.Reference) = omega arith
status_above (Script faults.Rule) = omega arith
status_above (Script faults.OutOfMemory) = omega arith
status_above Setup = omega arith
status_above Memory = omega arith
status_above Read = omega arith
status_above Write = omega arith

pub status_within : (refusal : Refusal) → status_of refusal ≤ 4
status_within Usage = omega arith
status_within (Script faults.NotJson) = omega arith
status_within (Script faults.Shape) = omega arith
status_within (Script faults.Limit) = omega arith
status_within (Script faults.Reference) = omega arith
status_within (Script faults.Rule) = omega arith
status_within (Script faults.OutOfMemory) = omega arith
status_within Setup = omega arith
status_within Memory = omega arith
status_within Read = omega arith
status_within Write = omega arith

pub leaves_nothing : (args : List (String Global)) (left : Option (List ℕ)) (refusal : Refusal) (old new : List ℕ) → Leaves args left refusal old new → status_of refusal ≤ 3 → new ≡ old
leaves_nothing args left Usage old new leaves low = leaves
leaves_nothing args left (Script fault) old new leaves low = leaves.nothing
leaves_nothing args left Setup old new leaves low = leaves.1
leaves_nothing args left Memory old new leaves low = leaves
leaves_nothing args left Read old new leaves low = leaves
leaves_nothing args left Write old new leaves low = absurd (omega (arith, low))

pub leaves_prefix : (args : List (String Global)) (left : Option (List ℕ)) (refusal : Refusal) (old new : List ℕ) → Leaves args left refusal old new → (new ≡ old) ⊎ ServesPrefix left old new
leaves_prefix args left Usage old new leaves = inl leaves
leaves_prefix args left (Script fault) old new leaves = inl leaves.nothing
leaves_prefix args left Setup old new leaves = inl leaves.1
leaves_prefix args left Memory old new leaves = inl leaves
leaves_prefix args left Read old new leaves = inl leaves
leaves_prefix args left Write old new leaves = inr leaves

-- a run of all that is left that found a fault of the script
pub refuses_by : (left : Option (List ℕ)) (bytes items : List ℕ) (workers : ℕ) (sharing : Sharing) (fault : ScriptFault) (old new : List ℕ) → IsRestOf left items → bytes ≡ items → IsRunFaultOf bytes workers sharing (run_faults.Script fault) → new ≡ old → Refuses left fault old new
refuses_by left bytes items workers sharing fault old new whole same class nothing = record {
  bytes = bytes;
  input = subst (IsRestOf left) (sym same) whole;
  class = class;
  nothing = nothing;
}

-- who go round the lanes, or take them from a queue, are refused for their number alone
number_only : (script : Plan) (workers : ℕ) (word : List ℕ) (sharing : Sharing) (fault : StepFault) → IsWordOf word sharing → refusal_of script workers sharing ≡ Some fault → refusal_of script workers sharing ≡ Some Workers
number_only script workers word Round fault is e = by (nat_le 1 workers && nat_le workers 64) e
  where
    by : (b : Bool) → cond b None (Some Workers) ≡ Some fault → cond b None (Some Workers) ≡ Some Workers
    by true e = cc
    by false e = refl
number_only script workers word (Fixed table) fault is e = absurd is
number_only script workers word Queue fault is e = by (nat_le 1 workers && nat_le workers 64) e
  where
    by : (b : Bool) → cond b None (Some Workers) ≡ Some fault → cond b None (Some Workers) ≡ Some Workers
    by true e = cc
    by false e = refl

-- a run of all that is left that found that the workers are refused
pub no_crew_by : (args : List (String Global)) (left : Option (List ℕ)) (bytes items : List ℕ) (asked : Asked) (fault : StepFault) → AskFor args asked → IsRestOf left items → bytes ≡ items → IsRunFaultOf bytes asked.workers asked.sharing (run_faults.Setup fault) → HasNoCrew args left
no_crew_by args left bytes items asked fault ask whole same class = record {
  bytes = bytes;
  input = subst (IsRestOf left) (sym same) whole;
  script = class.script;
  read = class.read;
  asked = asked;
  ask = ask;
  refused = number_only class.script asked.workers (string_bytes ask.word) asked.sharing fault ask.sharing class.refused;
}

-- nothing was written, or the writer failed
pub leaves_or_failed : (args : List (String Global)) (left : Option (List ℕ)) (refusal : Refusal) (old new : List ℕ) (failed : Type 0) → Leaves args left refusal old new → (refusal ≡ Write → failed) → (new ≡ old) ⊎ failed
leaves_or_failed args left Usage old new failed leaves f = inl leaves
leaves_or_failed args left (Script fault) old new failed leaves f = inl leaves.nothing
leaves_or_failed args left Setup old new failed leaves f = inl leaves.1
leaves_or_failed args left Memory old new failed leaves f = inl leaves
leaves_or_failed args left Read old new failed leaves f = inl leaves
leaves_or_failed args left Write old new failed leaves f = inr (f refl)
