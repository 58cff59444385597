use Rattle.std.proofs.Common.{◌≡◌, ℕ, List, ◌∙◌, ap, sym, Option, Some}
use Rattle.std.proofs.lemmas.Result.{IfOk-weaker}
use Rattle.std.specs.Option.{option_copied}
use Rattle.cancel_view.specs.Seen.{Seen}
use Rattle.context_core.specs.declared.context.Context.{Context}
use Rattle.lane_turn.specs.Frames.{busy}
use Rattle.lane_turn.specs.Lane.{context_at, is_any}
use Rattle.lane_turn.specs.Meaning.{lane_of}
use Rattle.lane_turn.specs.Sources.{chosen_in}
use Rattle.lane_turn.proofs.lane.Lane.chooses_any.Goals as goal

pub returns-in-Some : goal.returns-in-Some
returns-in-Some c =
    let p = c.args.self.now in
    let script = c.args.script.now in
    let one = c.in-Some.context.now in
    let is : Some one ≡ context_at c.args.context (lane_of p) = sym (ap option_copied c.in-Some.is) ∙ c.context.ensures in
    let held : c.deref.result.now ≡ busy c.args.context p.frames = c.deref.ensures.value ∙ c.in_ok-busy.ensures in
    IfOk-weaker c.selects_any.result _ _
    (λ any i. i ∙ ap is_any (ap (λ (v : Seen). chosen_in script c.args.tick v c.deref.result.now (Some one)) c.view.ensures
    ∙ (ap (λ (b : List ℕ). chosen_in script c.args.tick p.watch.view b (Some one)) held
    ∙ ap (λ (o : Option Context). chosen_in script c.args.tick p.watch.view (busy c.args.context p.frames) o) is)))
    c.selects_any.ensures
