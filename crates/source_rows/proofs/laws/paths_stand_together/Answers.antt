use Rattle.source_rows.proofs.Tree.{between, post}
use Rattle.source_rows.proofs.laws.paths_stand_together.Goals as goal

pub returns : goal.returns
returns c = record { between = between; post = post }
