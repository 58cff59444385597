use Rattle.std.proofs.Common.{◌≡◌, ◌∙◌, map, ap, subst}
use Rattle.std.proofs.lemmas.Result.{IfOk-weaker}
use Rattle.task_steps.specs.Shown.{task_shown}
use Rattle.lane_watch.specs.Shown.{started_shown, EndNoSooner}
use Rattle.lane_watch.specs.Watch.{Watched}
use Rattle.lane_watch.proofs.Shown.{lane_shown, end_no_sooner}
use Rattle.lane_watch.proofs.watch.Watch.tasks.Goals as goal

pub returns-clause-tasks : goal.returns-clause-tasks
returns-clause-tasks c =
    let w = c.self.inside in
    let same : map task_shown w.book.tasks ≡ map (started_shown c.args.self.now.tasks) c.args.self.now.tasks.started =
    lane_shown w.tick w.tick_us w.view w.came.items w.book w.wake c.self.invariant c.tasks.ensures.seen ∙ ap (λ (v : Watched). map (started_shown v.tasks) v.tasks.started) c.self.view_is in
    IfOk-weaker c.tasks.result _ _ (λ list told. told ∙ same) c.tasks.ensures.tasks

pub returns-clause-ends : goal.returns-clause-ends
returns-clause-ends c =
    let w = c.self.inside in
    IfOk-weaker c.tasks.result _ _
    (λ list told. subst (λ (v : Watched). EndNoSooner v.tasks.tick_us v.tasks.came v.tasks.started list.items) c.self.view_is (end_no_sooner w.tick w.tick_us w.view w.came.items w.book w.wake list.items c.self.invariant told))
    c.tasks.ensures.ends
