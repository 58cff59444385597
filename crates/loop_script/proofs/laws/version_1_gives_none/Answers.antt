use Rattle.loop_script.proofs.FirstVersion.{first_gives_none}
use Rattle.loop_script.proofs.laws.version_1_gives_none.Goals as goal

pub returns : goal.returns
returns c = first_gives_none
