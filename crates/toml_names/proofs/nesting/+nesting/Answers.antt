use Rattle.std.proofs.Common.{arith}
use Rattle.std.proofs.lemmas.Grind.{common_steps}
use Rattle.toml_names.proofs.nesting.+nesting.Goals as goal

pub items_nest_within-loop-item-preserved : goal.items_nest_within-loop-item-preserved
items_nest_within-loop-item-preserved t c = grind (arith, common_steps)

pub members_nest_within-members-preserved : goal.members_nest_within-members-preserved
members_nest_within-members-preserved t c = grind (arith, common_steps)
