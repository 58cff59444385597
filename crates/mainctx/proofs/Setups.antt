-- What a fault of the stepper tells of a run.
use Rattle.std.proofs.Common.{◌≡◌, ◌≢◌, ℕ, Some, List, subst, sym}
use Rattle.loop_script.specs.declared.plan.Plan.{Plan}
use Rattle.tick_stepper.specs.declared.crew.Sharing.{Sharing}
use Rattle.tick_stepper.specs.declared.fault.StepFault.{StepFault}
use Rattle.tick_stepper.specs.declared.fault.StepFault.TheVariants as steps
use Rattle.tick_stepper.specs.Crew.{refusal_of}
use Rattle.mainctx.specs.declared.run.MainFault.{MainFault}
use Rattle.mainctx.specs.declared.run.MainFault.TheVariants as faults
use Rattle.mainctx.specs.Run.{IsSetup, IsSetupFaultOf, IsRunFaultOf, IsLoneFaultOf, IsWriteFault, IsScriptOf}

pub setup_is : (script : Plan) (workers : ℕ) (sharing : Sharing) (fault : StepFault) (answer : MainFault) → IsSetup fault answer → (fault ≢ steps.OutOfMemory → refusal_of script workers sharing ≡ Some fault) → IsSetupFaultOf script workers sharing answer
setup_is script workers sharing steps.Workers answer e cause = subst (IsSetupFaultOf script workers sharing) (sym e) (cause (λ no. cc))
setup_is script workers sharing steps.Table answer e cause = subst (IsSetupFaultOf script workers sharing) (sym e) (cause (λ no. cc))
setup_is script workers sharing steps.OutOfMemory answer e cause = subst (IsSetupFaultOf script workers sharing) (sym e) tt
setup_is script workers sharing steps.Spent answer e cause = subst (IsSetupFaultOf script workers sharing) (sym e) tt

-- a fault of the setup of a run of a script is one of the run of its bytes
pub run_is : (bytes : List ℕ) (script : Plan) (workers : ℕ) (sharing : Sharing) (fault : MainFault) → IsScriptOf bytes script → IsSetupFaultOf script workers sharing fault → IsRunFaultOf bytes workers sharing fault
run_is bytes script workers sharing (faults.Script fault) read is = absurd is
run_is bytes script workers sharing (faults.Setup fault) read is = record { script = script; read = read; refused = is }
run_is bytes script workers sharing faults.OutOfMemory read is = tt
run_is bytes script workers sharing faults.Write read is = absurd is

pub no_write : (script : Plan) (workers : ℕ) (sharing : Sharing) (fault : MainFault) → IsSetupFaultOf script workers sharing fault → fault ≢ faults.Write
no_write script workers sharing (faults.Script fault) is e = absurd is
no_write script workers sharing (faults.Setup fault) is e = cc
no_write script workers sharing faults.OutOfMemory is e = cc
no_write script workers sharing faults.Write is e = absurd is

-- a fault once a run has ended is one of the run of its bytes
pub run_fault : (bytes : List ℕ) (script : Plan) (workers : ℕ) (sharing : Sharing) (fault : MainFault) → IsScriptOf bytes script → IsWriteFault fault → IsRunFaultOf bytes workers sharing fault
run_fault bytes script workers sharing (faults.Script fault) read is = absurd is
run_fault bytes script workers sharing (faults.Setup fault) read is = absurd is
run_fault bytes script workers sharing faults.OutOfMemory read is = tt
run_fault bytes script workers sharing faults.Write read is = (script, read)

-- and of a run by the caller alone
pub lone_fault : (bytes : List ℕ) (script : Plan) (fault : MainFault) → IsScriptOf bytes script → IsWriteFault fault → IsLoneFaultOf bytes fault
lone_fault bytes script (faults.Script fault) read is = absurd is
lone_fault bytes script (faults.Setup fault) read is = absurd is
lone_fault bytes script faults.OutOfMemory read is = tt
lone_fault bytes script faults.Write read is = (script, read)
