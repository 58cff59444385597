-- What the reading of bytes answers.
use Rattle.std.specs.Prelude.{◌≡◌, ℕ, false, if◌then◌else◌, List, Option, Some, None, Result, Ok, Err, IsUtf8}
use Rattle.serde_json.specs.Data.{Data}
use Rattle.serde_json.specs.Read.{read}
use Rattle.serde_json.specs.View.{view}
use Rattle.serde_json.specs.declared.value.Value.{Value}
use Rattle.loop_script.specs.Plan.{plan}
use Rattle.loop_script.specs.Version.{gives_outside_version_2}
use Rattle.loop_script.specs.References.{plan_refers}
use Rattle.loop_script.specs.Rules.{plan_rules}
use Rattle.loop_script.specs.declared.faults.Faults.{Faults}
use Rattle.loop_script.specs.declared.fault.ScriptFault.{ScriptFault}
use Rattle.loop_script.specs.declared.fault.ScriptFault.TheVariants.{NotJson, Shape, Limit, Reference, Rule, OutOfMemory}
use Rattle.loop_script.specs.declared.plan.Plan.{Plan}

-- the bytes are one JSON value
abbrev pub IsJson : List ℕ → Data → Type 0
IsJson bytes d = IsUtf8 bytes × (read bytes ≡ Some d)

-- the first class of fault; references and rules are looked at where shape and limits are right
abbrev pub verdict : Faults → Plan → Result Plan ScriptFault
verdict faults p =
    if faults.shape then Err Shape
    else if faults.limit then Err Limit
    else if plan_refers p then (if plan_rules p then Ok p else Err Rule)
    else Err Reference

-- no fault was seen
abbrev pub none_seen : Faults
none_seen = record { shape = false; limit = false }

-- the script of the data, or the first class of fault in it
abbrev pub script_of : Data → Result Plan ScriptFault
script_of d = if gives_outside_version_2 d then Err Shape else (let r = plan (Some d) in verdict (r.faults none_seen) r.value)

-- what the data says, where its shape and its limits are right
abbrev pub sound_plan : Data → Option Plan
sound_plan d =
    let r = plan (Some d) in
    let faults = r.faults none_seen in
    if gives_outside_version_2 d then None
    else if faults.shape then None
    else if faults.limit then None
    else Some r.value

-- the cause of a fault stands in the bytes
abbrev FaultAnswers : List ℕ → ScriptFault → Type 0
FaultAnswers bytes NotJson = (d : Data) → IsJson bytes d → ⊥
FaultAnswers bytes Shape = (d : Data) × IsJson bytes d × (script_of d ≡ Err Shape)
FaultAnswers bytes Limit = (d : Data) × IsJson bytes d × (script_of d ≡ Err Limit)
FaultAnswers bytes Reference = (d : Data) × IsJson bytes d × (script_of d ≡ Err Reference)
FaultAnswers bytes Rule = (d : Data) × IsJson bytes d × (script_of d ≡ Err Rule)
FaultAnswers bytes OutOfMemory = Unit {0}

-- the script that the bytes have, or the first class of fault in them
abbrev pub Answers : List ℕ → Result Plan ScriptFault → Type 0
Answers bytes (Ok p) = (d : Data) × IsJson bytes d × (script_of d ≡ Ok p)
Answers bytes (Err e) = FaultAnswers bytes e

-- what the kit's reader answers
abbrev pub IsRead : List ℕ → Result Value ScriptFault → Type 0
IsRead bytes (Ok v) = IsJson bytes (view v)
IsRead bytes (Err NotJson) = (d : Data) → IsJson bytes d → ⊥
IsRead bytes (Err OutOfMemory) = Unit {0}
IsRead bytes (Err Shape) = ⊥
IsRead bytes (Err Limit) = ⊥
IsRead bytes (Err Reference) = ⊥
IsRead bytes (Err Rule) = ⊥
