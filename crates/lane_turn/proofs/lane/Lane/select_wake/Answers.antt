use Rattle.std.proofs.Common.{◌≡◌, ◌∙◌, ap, sym, Option, Some, None}
use Rattle.std.specs.Option.{option_copied}
use Rattle.cancel_view.specs.Seen.{Seen}
use Rattle.context_core.specs.declared.context.Context.{Context}
use Rattle.lane_turn.specs.Frames.{busy}
use Rattle.lane_turn.specs.Lane.{context_at}
use Rattle.lane_turn.specs.Sources.{chosen_in}
use Rattle.lane_turn.specs.Meaning.{lane_of}
use Rattle.lane_turn.proofs.lane.Lane.select_wake.Goals as goal

pub returns-in-Some : goal.returns-in-Some
returns-in-Some c = λ k le after.
    let p = c.args.self.now in
    let is : context_at c.args.number (lane_of p) ≡ Some c.in-Some.context.now = sym c.context.ensures ∙ ap option_copied c.in-Some.is in
    let view : c.view.result.now ≡ p.watch.view = c.view.ensures in
    ap (λ (o : Option Context). chosen_in c.args.script.now k p.watch.view (busy c.args.number p.frames) o) is
    ∙ (ap (λ (v : Seen). chosen_in c.args.script.now k v (busy c.args.number p.frames) (Some c.in-Some.context.now)) (sym view) ∙ c.context_wake.ensures k le after)

pub returns-in-None : goal.returns-in-None
returns-in-None c = λ k le after.
    let p = c.args.self.now in
    let is : context_at c.args.number (lane_of p) ≡ None = sym c.context.ensures ∙ ap option_copied c.in-None.is in
    ap (λ (o : Option Context). chosen_in c.args.script.now k p.watch.view (busy c.args.number p.frames) o) is
