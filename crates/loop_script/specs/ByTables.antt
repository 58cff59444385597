-- What the reading of a script answers, said by the tables and by what they mean.
use Rattle.std.specs.Prelude.{◌≡◌, ◌↔◌, ◌⊎◌, ℕ, if◌then◌else◌, List, Some, Result, Ok, Err}
use Rattle.serde_json.specs.Data.{Data}
use Rattle.loop_script.specs.Form.{script, an}
use Rattle.loop_script.specs.Misfit.{IsMisshapen, IsBeyond}
use Rattle.loop_script.specs.Meaning.{Denotes}
use Rattle.loop_script.specs.Script.{IsJson, script_of}
use Rattle.loop_script.specs.Version.{GivesOutsideVersion2}
use Rattle.loop_script.specs.Gives.{GivesNone}
use Rattle.loop_script.specs.Laws.{IsReading}
use Rattle.loop_script.specs.References.{plan_refers}
use Rattle.loop_script.specs.Rules.{plan_rules}
use Rattle.loop_script.specs.declared.fault.ScriptFault.{ScriptFault}
use Rattle.loop_script.specs.declared.fault.ScriptFault.TheVariants.{Shape, Limit, Reference, Rule}
use Rattle.loop_script.specs.declared.plan.Plan.{Plan}

-- a script whose numbers name something of it, and which keeps the rules; else the class of its fault
abbrev pub judged : Plan → Result Plan ScriptFault
judged p = if plan_refers p then (if plan_rules p then Ok p else Err Rule) else Err Reference

-- some part is misshapen, or some action is one that the version has not
abbrev pub IsMalformed : Data → Type 0
IsMalformed d = IsMisshapen (an script) d ⊎ GivesOutsideVersion2 d

-- what a reading answers for each value goes by the tables
pub record GoesByTables (read : Data → Result Plan ScriptFault) : Type 0 where
  -- the fault is one of shape exactly where some part is misshapen, or some action is one that the version has not
  pub shape : (d : Data) → (read d ≡ Err Shape) ↔ IsMalformed d
  -- and one of limits exactly where none is, and some number or count is out of range
  pub limit : (d : Data) → (read d ≡ Err Limit) ↔ ((IsMalformed d → ⊥) × IsBeyond (an script) d)
  -- else references and rules are looked at on the script that the value denotes
  pub script : (d : Data) → (IsMalformed d → ⊥) → (IsBeyond (an script) d → ⊥) → (p : Plan) × Denotes (Some d) p × (read d ≡ judged p)

-- the reading goes by the tables, and no other reading does
pub record ReadByTables : Type 0 where
  pub goes : GoesByTables script_of
  -- a value denotes one script at most
  pub one : (d : Data) (p q : Plan) → Denotes (Some d) p → Denotes (Some d) q → p ≡ q
  -- so no other reading goes by the tables
  pub only : (read : Data → Result Plan ScriptFault) → GoesByTables read → (d : Data) → read d ≡ script_of d
  -- and bytes are read as their value is
  pub bytes : (bytes : List ℕ) (d : Data) (answer : Result Plan ScriptFault) → IsJson bytes d → IsReading bytes answer → answer ≡ script_of d

-- a script that is read in version 1 hands no context over
abbrev pub FirstGivesNone : Type 0
FirstGivesNone = (d : Data) (p : Plan) → script_of d ≡ Ok p → p.version ≡ 1 → GivesNone p
