use Rattle.script_check.proofs.VersionPlaces.{version_faults_stand as stand}
use Rattle.script_check.proofs.laws.version_faults_stand.Goals as goal

pub returns : goal.returns
returns c = stand
