use Rattle.tick_stepper.proofs.Accounts.{starts, leads, passes, ends, changes_one}
use Rattle.tick_stepper.proofs.laws.moves_lead.Goals as goal

pub returns-clause-leads : goal.returns-clause-leads
returns-clause-leads c = record { starts = starts; leads = leads; passes = passes; ends = ends }

pub returns-clause-one : goal.returns-clause-one
returns-clause-one c = changes_one
