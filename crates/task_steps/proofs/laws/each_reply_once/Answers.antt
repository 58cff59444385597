use Rattle.task_steps.proofs.Once.{each_once}
use Rattle.task_steps.proofs.laws.each_reply_once.Goals as goal

pub returns : goal.returns
returns c = each_once
