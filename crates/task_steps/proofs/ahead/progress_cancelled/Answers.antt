use Rattle.task_steps.proofs.Cancelled.{holds_cancelled}
use Rattle.task_steps.proofs.ahead.progress_cancelled.Goals as goal

pub returns-clause-holds : goal.returns-clause-holds
returns-clause-holds c = λ tree clear from h le. rw (c.ended.ensures, c.later.ensures) (holds_cancelled tree c.args.course.now c.args.begun from clear h le)
