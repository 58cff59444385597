use Rattle.script_check.proofs.PlacesLead.{places_lead}
use Rattle.script_check.proofs.laws.places_lead_to_values.Goals as goal

pub returns : goal.returns
returns c = places_lead
