use Rattle.std.proofs.Common.{subst, sym}
use Rattle.task_steps.specs.Run.{Run, MaySet, StaysSet}
use Rattle.task_steps.specs.Noted.{noted_of}
use Rattle.task_steps.specs.RunInside.{KeepsLeast, wake_noted}
use Rattle.task_steps.proofs.Runs.{held_on, least_on}
use Rattle.task_steps.proofs.body.Body.set_tick.Goals as goal

pub invariant_of-self : goal.invariant_of-self
invariant_of-self c =
    let before = c.self.inside in
    let rising : MaySet c.args.tick before.stage (wake_noted (noted_of before.noted)) = subst (λ (r : Run). MaySet c.args.tick r.stage r.wake) (sym c.self.view_is) c.requires.rising in
    let stays : StaysSet before.cancelled c.args.cancelled = subst (λ (r : Run). StaysSet r.cancelled c.args.cancelled) (sym c.self.view_is) c.requires.stays in
    rw (c.set_to-self-inside.ensures, c.clear_to-self-inside.ensures, c.seen_from-self-inside.ensures)
    (held_on c.args.tick before.tick_us c.args.cancelled before.tree before.clear before.cancelled before.stage (noted_of before.noted) c.self.invariant rising stays)

pub returns-clause-least : goal.returns-clause-least
returns-clause-least c = λ least.
    let before = c.self.inside in
    let rising : MaySet c.args.tick before.stage (wake_noted (noted_of before.noted)) = subst (λ (r : Run). MaySet c.args.tick r.stage r.wake) (sym c.self.view_is) c.requires.rising in
    rw (c.set_to-self-inside.ensures, c.clear_to-self-inside.ensures, c.seen_from-self-inside.ensures)
    (least_on c.args.tick before.tick_us c.args.cancelled before.tree before.clear before.cancelled before.stage (noted_of before.noted) c.self.invariant rising (subst (λ (r : Run). KeepsLeast r) (sym c.self.view_is) least))
