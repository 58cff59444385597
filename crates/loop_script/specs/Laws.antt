-- Laws of the reading: no part of it clears a fault that was seen before, and bytes have one reading.
use Rattle.std.specs.Prelude.{◌≡◌, ◌≢◌, ℕ, true, List, Option, Result, Ok, Err}
use Rattle.serde_json.specs.Data.{Data}
use Rattle.loop_script.specs.Read.{Read}
use Rattle.loop_script.specs.Source.{kind, source_spec, child_spec}
use Rattle.loop_script.specs.Level.{levels}
use Rattle.loop_script.specs.Action.{action}
use Rattle.loop_script.specs.TreeForm.{tree}
use Rattle.loop_script.specs.TaskForm.{task_spec}
use Rattle.loop_script.specs.Plan.{actions, lane, lanes, procedure, plan}
use Rattle.loop_script.specs.Script.{Answers}
use Rattle.loop_script.specs.declared.fault.ScriptFault.{ScriptFault}
use Rattle.loop_script.specs.declared.fault.ScriptFault.TheVariants.{OutOfMemory}
use Rattle.loop_script.specs.declared.plan.Plan.{Plan}
use Rattle.loop_script.specs.declared.faults.Faults.{Faults}

-- what was seen before is seen after
pub record StillSeen (before after : Faults) : Type 0 where
  pub shape : before.shape ≡ true → after.shape ≡ true
  pub limit : before.limit ≡ true → after.limit ≡ true

-- a form leaves each fault that was seen before
abbrev pub ClearsNone : {A : Type 0} → Read A → Type 0
ClearsNone r = (before : Faults) → StillSeen before (r.faults before)

-- no form clears a fault
pub record NoFaultIsCleared : Type 0 where
  pub kind : (d : Option Data) → ClearsNone (kind d)
  pub source_spec : (d : Option Data) → ClearsNone (source_spec d)
  pub child_spec : (d : Option Data) → ClearsNone (child_spec d)
  pub levels : (d : Option Data) → ClearsNone (levels d)
  pub tree : (d : Option Data) → ClearsNone (tree d)
  pub task_spec : (d : Option Data) → ClearsNone (task_spec d)
  pub action : (d : Option Data) → ClearsNone (action d)
  pub actions : (d : Option Data) → ClearsNone (actions d)
  pub procedure : (d : Option Data) → ClearsNone (procedure d)
  pub lane : (d : Option Data) → ClearsNone (lane d)
  pub lanes : (d : Option Data) → ClearsNone (lanes d)
  pub plan : (d : Option Data) → ClearsNone (plan d)

-- the script of the bytes, or the class of their fault
abbrev pub IsReading : List ℕ → Result Plan ScriptFault → Type 0
IsReading bytes (Ok script) = Answers bytes (Ok script)
IsReading bytes (Err fault) = (fault ≢ OutOfMemory) × Answers bytes (Err fault)

-- two scripts, two classes, or a script and a class are never both right
abbrev pub OneReading : Type 0
OneReading = (bytes : List ℕ) (a b : Result Plan ScriptFault) → IsReading bytes a → IsReading bytes b → a ≡ b
