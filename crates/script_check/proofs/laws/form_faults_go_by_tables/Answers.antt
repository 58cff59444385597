use Rattle.script_check.proofs.Told.{form_faults_hold}
use Rattle.script_check.proofs.laws.form_faults_go_by_tables.Goals as goal

pub returns : goal.returns
returns c = form_faults_hold
