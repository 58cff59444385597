use Rattle.std.proofs.Common.{refl}
use Rattle.task_steps.specs.BookInside.{entries_below, entries_in}
use Rattle.task_steps.proofs.Lists.{can_split, polled_joined}
use Rattle.task_steps.proofs.SideBySide.{first_none, last_none}
use Rattle.task_steps.proofs.Waiting.{going_on}
use Rattle.task_steps.proofs.tasks.Tasks.poll.Goals as goal

pub poll-requires-clause-can : goal.poll-requires-clause-can
poll-requires-clause-can c = (can_split c.args.round.tick c.args.round.polled c.args.view.now (entries_below c.args.self.now.tree) (entries_in c.args.self.now.last) c.requires.can).0

pub poll_tasks-requires-clause-can : goal.poll_tasks-requires-clause-can
poll_tasks-requires-clause-can c = (can_split c.args.round.tick c.args.round.polled c.args.view.now (entries_below c.args.self.now.tree) (entries_in c.args.self.now.last) c.requires.can).1

pub returns-in_err-poll-clause-none : goal.returns-in_err-poll-clause-none
returns-in_err-poll-clause-none c = λ none. going_on refl (c.in_err-poll.ensures.none (first_none (entries_below c.args.self.now.tree) (entries_in c.args.self.now.last) none))

pub returns-in_err-poll_tasks-clause-none : goal.returns-in_err-poll_tasks-clause-none
returns-in_err-poll_tasks-clause-none c = λ none. going_on refl (c.in_err-poll_tasks.ensures.none (last_none (entries_below c.args.self.now.tree) (entries_in c.args.self.now.last) none))

pub returns-clause-polled : goal.returns-clause-polled
returns-clause-polled c = polled_joined c.in_ok-poll.ensures.polled c.in_ok-poll_tasks.ensures.polled
