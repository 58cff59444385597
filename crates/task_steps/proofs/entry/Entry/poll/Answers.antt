use Rattle.std.proofs.Common.{◌≡◌, ◌∙◌, sym, subst, ap, Bool, is_some, ◌&&◌}
use Rattle.task_steps.specs.declared.entry.Answer.{Answer}
use Rattle.task_steps.specs.Run.{Run, Answered}
use Rattle.task_steps.specs.Task.{IsAnswer, answer_as}
use Rattle.task_steps.proofs.Replies.{answered, set_run, polled_run}
use Rattle.task_steps.proofs.entry.Entry.poll.Goals as goal

pub returns-clause-answer : goal.returns-clause-answer
returns-clause-answer c =
    let e = c.args.self.now in
    let answer : Answered (set_run c.args.tick c.args.cancelled e.run) c.poll_ahead-end.result = rw c.set_tick.ensures.set at c.poll_ahead-end.ensures.answer in
    let run : c.poll_ahead-end.new.self ≡ polled_run (set_run c.args.tick c.args.cancelled e.run) c.poll_ahead-end.result c.poll_ahead-end.new.self.wake =
    c.poll_ahead-end.ensures.stays ∙ ap (λ (r : Run). polled_run r c.poll_ahead-end.result c.poll_ahead-end.new.self.wake) c.set_tick.ensures.set in
    let given : c.given.result ≡ answer_as (e.return_on_cancel && c.args.cancelled) (is_some e.run.cancelled) c.poll_ahead-end.result =
    c.given.ensures ∙ ap (λ (b : Bool). answer_as (e.return_on_cancel && c.args.cancelled) b c.poll_ahead-end.result) c.was_cancelled-before.ensures in
    let from = answered c.args.tick c.args.cancelled e c.poll_ahead-end.result c.poll_ahead-end.new.self.wake c.requires answer in
    subst (λ (a : Answer). IsAnswer c.args.tick (record e { run = c.poll_ahead-end.new.self }) a) (sym given)
    (subst (λ (r : Run). IsAnswer c.args.tick (record e { run = r }) (answer_as (e.return_on_cancel && c.args.cancelled) (is_some e.run.cancelled) c.poll_ahead-end.result)) (sym run) from)
