use Rattle.std.proofs.Common.{List, ap, ◌∙◌, arith, length}
use Rattle.task_steps.specs.declared.entry.Reply.{Reply}
use Rattle.lane_watch.specs.Tasks.{reply_at}
use Rattle.lane_turn.proofs.Polls.{fewer_replies}
use Rattle.lane_turn.proofs.lane.Lane.poll_tasks.Goals as goal

pub send_replies-requires : goal.send_replies-requires
send_replies-requires g c =
    let tasks = c.args.self.now.watch.tasks in
    omega (arith, c.requires.sent, fewer_replies (reply_at c.args.tick tasks) tasks.started, ap (λ (rs : List Reply). length rs) (c.as_slice.ensures ∙ c.in-Ok.ensures.replies))
