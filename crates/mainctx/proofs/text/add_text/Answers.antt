use Rattle.std.proofs.Common.{arith}
use Rattle.std.proofs.lemmas.Grind.{common_steps}
use Rattle.mainctx.proofs.Prefixes.{adds_lines, adds_nothing}
use Rattle.mainctx.proofs.text.add_text.Goals as goal

pub returns-in_err-extend_from_slice-clause-prefix : goal.returns-in_err-extend_from_slice-clause-prefix
returns-in_err-extend_from_slice-clause-prefix c = grind (arith, adds_nothing)

pub loop-line-preserved : goal.loop-line-preserved
loop-line-preserved c = grind (arith, common_steps)

pub returns-in_err-extend_from_slice-2-clause-prefix : goal.returns-in_err-extend_from_slice-2-clause-prefix
returns-in_err-extend_from_slice-2-clause-prefix c = grind (arith, adds_lines)
