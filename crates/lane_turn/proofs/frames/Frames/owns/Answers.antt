use Rattle.std.proofs.Common.{rules, ap, ◌∙◌}
use Rattle.std.specs.List.{list_any}
use Rattle.std.proofs.lemmas.Iterator.Consumers.{YieldsList-from_rest}
use Rattle.std.proofs.lemmas.Iterator.Search.{any_from_yields_List}
use Rattle.lane_turn.specs.Frames.{owns}
use Rattle.lane_turn.specs.Nest.{layer_owns}
use Rattle.lane_turn.proofs.Resting.{any_reverse, owns_layers}
use Rattle.lane_turn.proofs.frames.Frames.owns.Goals as goal

pub returns : goal.returns
returns c =
    any_from_yields_List (layer_owns c.args.context) _ _ _ c.any.ensures.ran (YieldsList-from_rest _ c.layers.ensures) (λ x b q k. search rules)
    ∙ (any_reverse (layer_owns c.args.context) c.self.inside.chain
    ∙ (owns_layers c.args.context c.self.inside.live.items c.self.inside.chain ∙ ap (list_any (owns c.args.context)) c.self.view_is))
