use Rattle.std.proofs.Common.{arith}
use Rattle.std.proofs.lemmas.Grind.{common_steps}
use Rattle.script_check.proofs.action_check.check_references.Goals as goal

pub returns-in_ok-check_number-in-Attach-clause-faults : goal.returns-in_ok-check_number-in-Attach-clause-faults
returns-in_ok-check_number-in-Attach-clause-faults c = grind (arith, common_steps)

pub returns-in_ok-check_number-in-Connect-clause-faults : goal.returns-in_ok-check_number-in-Connect-clause-faults
returns-in_ok-check_number-in-Connect-clause-faults c = grind (arith, common_steps)

pub returns-in_ok-check_number-in-Invoke-clause-faults : goal.returns-in_ok-check_number-in-Invoke-clause-faults
returns-in_ok-check_number-in-Invoke-clause-faults c = grind (arith, common_steps)

pub returns-in_ok-check_number-in-Give-clause-faults : goal.returns-in_ok-check_number-in-Give-clause-faults
returns-in_ok-check_number-in-Give-clause-faults c = grind (arith, common_steps)
