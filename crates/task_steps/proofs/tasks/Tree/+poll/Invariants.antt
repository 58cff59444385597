use Rattle.task_steps.proofs.Nodes.{nodes}
use Rattle.task_steps.proofs.tasks.Tree.+poll.Given as goal

abbrev pub decreases-poll : goal.decreases-poll
decreases-poll l = nodes l.self.now
