use Rattle.std.proofs.Common.{◌≡◌, ◌∙◌, ℕ, Option, Some, is_some, true, ap, sym, subst}
use Rattle.loop_script.specs.Tree.{Tree}
use Rattle.task_steps.specs.declared.progress.Moment.{Moment}
use Rattle.task_steps.specs.declared.stage.Stage.{Stage}
use Rattle.task_steps.specs.declared.stage.Stage.TheVariants.{Set}
use Rattle.task_steps.specs.Progress.{IsKnown, last_tick}
use Rattle.task_steps.specs.Run.{Run}
use Rattle.task_steps.specs.Noted.{noted_of}
use Rattle.task_steps.specs.RunInside.{Holds, IsStanding}
use Rattle.task_steps.proofs.Foreseen.{holds_seen}
use Rattle.task_steps.proofs.body.Body.progress_ahead.Goals as goal

pub returns-in-Some-Some-clause-holds : goal.returns-in-Some-Some-clause-holds
returns-in-Some-Some-clause-holds c =
    let r = c.args.self.now in
    let from = c.in-Some-Some.from in
    let p = c.progress_cancelled.result in
    let course = c.in-Some-Some.ensures in
    let seen : Some from ≡ r.cancelled = sym c.in-Some-Some.is-0 ∙ ap (λ (x : Run). x.cancelled) c.self.view_is in
    let holds = c.progress_cancelled.ensures.holds r.tree r.clear from course.0 c.if-from-begun.true in
    let of_ticks = subst (λ (us : ℕ). Holds us r.tree c.args.begun r.clear (Some from) p) course.1 holds in
    subst (λ (x : Option ℕ). Holds r.tick_us r.tree c.args.begun r.clear x p) seen of_ticks

pub returns-in-Some-default-clause-holds : goal.returns-in-Some-default-clause-holds
returns-in-Some-default-clause-holds c =
    let b = c.self.inside in
    let stage : b.stage ≡ Set c.args.begun c.args.tick = ap (λ (r : Run). r.stage) c.self.view_is ∙ c.requires in
    let s = subst (λ (x : Stage). IsStanding b.tick_us b.tree b.clear b.cancelled x (noted_of b.noted)) stage c.self.invariant.standing in
    let p = c.progress_of-in-Some-default.result in
    let at = c.moment-in-Some-default.result in
    let of_root = subst (λ (x : Tree). IsKnown at.tick_us x c.args.begun at.cancelled at.tick at.tick p) c.root-in-Some-default.ensures c.progress_of-in-Some-default.ensures.ahead in
    let told = subst (λ (m : Moment). IsKnown m.tick_us b.tree c.args.begun m.cancelled m.tick m.tick p) c.moment-in-Some-default.ensures of_root in
    let known = subst (λ (r : Run). IsKnown r.tick_us b.tree c.args.begun r.cancelled last_tick last_tick p) (sym c.self.view_is) told in
    let some : is_some b.cancelled ≡ true = ap is_some c.in-Some-default.is-0 in
    subst (λ (r : Run). Holds r.tick_us r.tree c.args.begun r.clear r.cancelled p) c.self.view_is
    (holds_seen b.tick_us b.tree c.args.begun c.args.tick _ _ b.clear b.cancelled p some s.0 s.2 known)
