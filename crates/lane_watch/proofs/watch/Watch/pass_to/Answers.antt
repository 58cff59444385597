use Rattle.std.proofs.Common.{◌≡◌, ◌+◌, ◌≤◌, ap, ◌∙◌, arith}
use Rattle.lane_watch.specs.Tasks.{Tasks}
use Rattle.lane_watch.specs.Watch.{Watched, polled}
use Rattle.lane_watch.proofs.watch.Watch.pass_to.Goals as goal

-- the poll of a tick that tells nothing leaves all tasks
pub loop-at-preserved : goal.loop-at-preserved
loop-at-preserved c =
    let now = c.args.self.now in
    let tasks : Tasks = now.tasks in
    let at = c.loop-at.at in
    let from : c.self-2.inside.tick ≡ tasks.tick = ap (λ (w : Watched). w.tasks.tick) (c.self-2.view_is ∙ c.skip.ensures.same c.if-skip.false) in
    let past : tasks.tick ≤ at = omega (arith, c.loop-at.auto.at) in
    let stay = (c.requires.nothing at past c.loop-at-test.true).stay in
    c.in_ok-poll.ensures.ok ∙ (ap (λ (w : Watched). record w { tasks = polled at w.tasks }) c.loop-at.invariant
    ∙ (λ i. record { view = now.view; tasks = record tasks { started = stay i; tick = at + 1 } }))
