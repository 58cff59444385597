use Rattle.std.proofs.Common.{◌≡◌, ◌∷◌, ◌-◌, List, ap, sym, ◌∙◌, length, reverse, rules}
use Rattle.lane_turn.specs.declared.layer.Layer.{Layer}
use Rattle.lane_turn.specs.Frames.{Frame}
use Rattle.lane_turn.specs.Nest.{frames_from}
use Rattle.lane_turn.specs.InProgress.{frame_shown}
use Rattle.lane_turn.proofs.Resting.{first_shown}
use Rattle.lane_turn.proofs.in_progress.InProgressIterator.next.Goals as goal

step : (c : goal.After-self-1) → c.args.self.now ≡ frame_shown c.shown-one.result ∷ reverse (frames_from (c.self.inside.all - (c.self.inside.left - 1)) c.self.inside.live.now (reverse c.next.new.self))
step c =
    let s = c.self.inside in
    let split : s.layers ≡ c.in_ok-layer.layer.now ∷ c.next.new.self = c.in_ok-layer.ensures.steps in
    let rest : List Frame = reverse (frames_from (s.all - (s.left - 1)) s.live.now (reverse c.next.new.self)) in
    sym c.self.view_is
    ∙ (ap (λ (ls : List Layer). reverse (frames_from (s.all - s.left) s.live.now (reverse ls))) split
    ∙ (first_shown s.all s.left s.live.now c.in_ok-layer.layer.now c.next.new.self (sym (ap (λ (ls : List Layer). length ls) split) ∙ c.self.invariant.0) c.self.invariant.1
    ∙ ap (λ (f : Frame). f ∷ rest) (sym c.shown-one.ensures)))

pub returns-clause-steps : goal.returns-clause-steps
returns-clause-steps c = step c

pub returns-clause-goes : goal.returns-clause-goes
returns-clause-goes c =
    let e = step c in
    search rules
