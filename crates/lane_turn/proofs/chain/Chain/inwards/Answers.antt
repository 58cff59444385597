use Rattle.std.proofs.Common.{List, ap, ◌∙◌, reverse}
use Rattle.lane_turn.specs.declared.layer.Layer.{Layer}
use Rattle.lane_turn.specs.Nest.{layers_of, frames_of}
use Rattle.lane_turn.proofs.Resting.{all_inwards}
use Rattle.lane_turn.proofs.chain.Chain.inwards.Goals as goal

pub returns : goal.returns
returns c = c.new.ensures ∙ (all_inwards c.args.live.now (layers_of c.self.inside.nest) ∙ ap (λ (ls : List Layer). reverse (frames_of c.args.live.now ls)) c.self.view_is)
