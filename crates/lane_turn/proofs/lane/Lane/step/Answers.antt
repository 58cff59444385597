use Rattle.std.proofs.Common.{ℕ, ◌-◌, ap, sym, ◌∙◌, Option, unwrap_or, refl}
use Rattle.lane_turn.specs.Lane.{Lane, Turn}
use Rattle.lane_turn.specs.Meaning.{lane_of, turn_of}
use Rattle.lane_turn.proofs.Halting.{halts}
use Rattle.lane_turn.proofs.lane.Lane.step.Goals as goal

pub returns-clause-next : goal.returns-clause-next
returns-clause-next g c =
    let t = turn_of c.args.self.now c.args.progress.now (g.P.Post.letters c.args.post.now) in
    ap (λ (n : ℕ). record t { lane = lane_of c.halt.new.self; left = n }) c.saturating_sub-progress.ensures
    ∙ ap (λ (l : Lane). record t { lane = l; left = t.left - 1 }) c.in_ok-halt.ensures
    ∙ ap (λ (o : Option Turn). unwrap_or o t) (halts c.args.script.now c.args.tick t c.in-Some.line refl c.in-GoesOn.is (sym c.in-Some.is ∙ c.halt_line.ensures))
