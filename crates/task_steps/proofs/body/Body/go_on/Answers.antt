use Rattle.std.proofs.Common.{rules}
use Rattle.task_steps.proofs.body.Body.go_on.Goals as goal

pub returns-in-None-clause-end : goal.returns-in-None-clause-end
returns-in-None-clause-end c = rw c.of-self-inside.ensures (search rules)
