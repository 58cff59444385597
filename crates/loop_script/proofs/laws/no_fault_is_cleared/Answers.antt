use Rattle.loop_script.proofs.Keeping.{none_cleared}
use Rattle.loop_script.proofs.laws.no_fault_is_cleared.Goals as goal

pub returns : goal.returns
returns c = none_cleared
