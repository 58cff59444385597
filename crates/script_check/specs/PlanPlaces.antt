-- Where the faults of references and of rules stand in the document that says the script.
use Rattle.std.specs.Prelude.{◌≡◌, ◌≤◌, ℕ, Some}
use Rattle.serde_json.specs.Data.{Data, number, unsigned}
use Rattle.loop_script.specs.Meaning.{Denotes}
use Rattle.loop_script.specs.declared.plan.Plan.{Plan}
use Rattle.script_check.specs.declared.fault.Cause.{Cause}
use Rattle.script_check.specs.declared.fault.Cause.TheVariants.{Missing}
use Rattle.script_check.specs.Found.{at_place, Found}
use Rattle.script_check.specs.PlanFaults.{plan_faults}
use Rattle.script_check.specs.Laws.{In}

-- what is told to be missing is a number that is too great
abbrev pub Fits : Cause → Data → Type 0
Fits (Missing n) e = (k : ℕ) × (e ≡ number (unsigned k)) × (n ≤ k)
Fits _ e = Unit {0}

-- the place of a fault leads to a value of the document, and to the number that is missing
abbrev pub StandsAt : Data → Found → Type 0
StandsAt d x = (e : Data) × (at_place x.place d ≡ Some e) × Fits x.cause e

-- the place of each fault of references and of rules leads to a value of the document
abbrev pub PlacesLead : Type 0
PlacesLead = (d : Data) (p : Plan) → Denotes (Some d) p → (x : Found) → In x (plan_faults p) → StandsAt d x
