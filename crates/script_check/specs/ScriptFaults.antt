-- All faults of a script. References and rules are looked at on what the script says, so where its shape and its limits are right.
use Rattle.std.specs.Prelude.{List, [], ◌∷◌, ◌++◌, Option, Some, None}
use Rattle.serde_json.specs.Data.{Data}
use Rattle.loop_script.specs.Script.{sound_plan}
use Rattle.loop_script.specs.declared.plan.Plan.{Plan}
use Rattle.script_check.specs.Found.{Found}
use Rattle.script_check.specs.Faults.{form_faults}
use Rattle.script_check.specs.VersionFaults.{version_faults}
use Rattle.script_check.specs.PlanFaults.{plan_faults}

-- the faults of what a script says
abbrev pub said_faults : Option Plan → List Found
said_faults None = []
said_faults (Some p) = plan_faults p

-- the first list, or where it is empty the second
abbrev pub or_else : List Found → List Found → List Found
or_else [] ys = ys
or_else (x ∷ xs) ys = x ∷ xs

-- all faults of a script
abbrev pub script_faults : Data → List Found
script_faults d = or_else (form_faults d ++ version_faults d) (said_faults (sound_plan d))
