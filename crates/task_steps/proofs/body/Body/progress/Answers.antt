use Rattle.std.proofs.Common.{◌≡◌, ◌∙◌, ap, sym, subst}
use Rattle.loop_script.specs.Tree.{Tree}
use Rattle.task_steps.specs.declared.progress.Moment.{Moment}
use Rattle.task_steps.specs.declared.stage.Stage.{Stage}
use Rattle.task_steps.specs.declared.stage.Stage.TheVariants.{Set}
use Rattle.task_steps.specs.Progress.{IsKnown}
use Rattle.task_steps.specs.Run.{Run}
use Rattle.task_steps.specs.Noted.{noted_of}
use Rattle.task_steps.specs.RunInside.{Holds, IsStanding}
use Rattle.task_steps.proofs.Foreseen.{holds_now}
use Rattle.task_steps.proofs.body.Body.progress.Goals as goal

pub returns-in_default-clause-holds : goal.returns-in_default-clause-holds
returns-in_default-clause-holds c =
    let b = c.self.inside in
    let stage : b.stage ≡ Set c.args.begun c.args.tick = ap (λ (r : Run). r.stage) c.self.view_is ∙ c.requires in
    let s = subst (λ (x : Stage). IsStanding b.tick_us b.tree b.clear b.cancelled x (noted_of b.noted)) stage c.self.invariant.standing in
    let p = c.progress_of.result in
    let at = c.moment.result in
    let of_root = subst (λ (x : Tree). IsKnown at.tick_us x c.args.begun at.cancelled at.tick at.tick p) c.root.ensures c.progress_of.ensures.ahead in
    let told = subst (λ (m : Moment). IsKnown m.tick_us b.tree c.args.begun m.cancelled m.tick m.tick p) c.moment.ensures of_root in
    let known = subst (λ (r : Run). IsKnown r.tick_us b.tree c.args.begun r.cancelled c.args.tick c.args.tick p) (sym c.self.view_is) told in
    subst (λ (r : Run). Holds r.tick_us r.tree c.args.begun r.clear r.cancelled p) c.self.view_is
    (holds_now b.tick_us b.tree c.args.begun c.args.tick c.args.tick b.clear b.cancelled p s.0 s.2 known)
