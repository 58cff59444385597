use Rattle.loop_script.proofs.ScriptsRead.{read_by_tables}
use Rattle.loop_script.proofs.laws.scripts_are_read_by_tables.Goals as goal

pub returns : goal.returns
returns c = read_by_tables
