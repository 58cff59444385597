-- What the faults of a script say of the class by which it is refused.
use Rattle.std.specs.Prelude.{◌≡◌, true, false, List, [], Option, Some, None, Result, Ok, Err}
use Rattle.serde_json.specs.Data.{Data}
use Rattle.loop_script.specs.Script.{script_of}
use Rattle.loop_script.specs.declared.fault.ScriptFault.{ScriptFault}
use Rattle.loop_script.specs.declared.fault.ScriptFault.TheVariants.{NotJson, Shape, Limit, Reference, Rule, OutOfMemory}
use Rattle.loop_script.specs.declared.plan.Plan.{Plan}
use Rattle.script_check.specs.declared.fault.Class.{Class}
use Rattle.script_check.specs.declared.fault.Class.TheVariants as classes
use Rattle.script_check.specs.Found.{Found}
use Rattle.script_check.specs.Least.{least_class}
use Rattle.script_check.specs.Laws.{IsShallow, has, is_shape, is_limit, is_reference, is_rule}
use Rattle.script_check.specs.ScriptFaults.{script_faults}

-- some fault is of the class, and none is of a class before it
abbrev pub ClassIs : List Found → ScriptFault → Type 0
ClassIs faults Shape = has is_shape faults ≡ true
ClassIs faults Limit = (has is_shape faults ≡ false) × (has is_limit faults ≡ true)
ClassIs faults Reference = (has is_shape faults ≡ false) × (has is_limit faults ≡ false) × (has is_reference faults ≡ true)
ClassIs faults Rule = (has is_shape faults ≡ false) × (has is_limit faults ≡ false) × (has is_reference faults ≡ false) × (has is_rule faults ≡ true)
ClassIs faults NotJson = ⊥
ClassIs faults OutOfMemory = ⊥

-- no fault, where a script is read; else the least class of the faults is the class by which it is refused
abbrev pub Agrees : List Found → Result Plan ScriptFault → Type 0
Agrees faults (Ok p) = faults ≡ []
Agrees faults (Err class) = ClassIs faults class

-- the faults of a script agree with the class by which it is refused
abbrev pub ClassesAgree : Type 0
ClassesAgree = (d : Data) → IsShallow d → Agrees (script_faults d) (script_of d)

-- the class by which a script is refused, and none where it is read
abbrev pub class_in : Result Plan ScriptFault → Option Class
class_in (Ok p) = None
class_in (Err Shape) = Some classes.Shape
class_in (Err Limit) = Some classes.Limit
class_in (Err Reference) = Some classes.Reference
class_in (Err Rule) = Some classes.Rule
class_in (Err NotJson) = None
class_in (Err OutOfMemory) = None

-- the first class of the faults of a script is that
abbrev pub FirstClassIs : Type 0
FirstClassIs = (d : Data) → IsShallow d → least_class (script_faults d) ≡ class_in (script_of d)
