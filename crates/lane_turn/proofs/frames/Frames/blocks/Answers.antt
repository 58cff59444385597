use Rattle.std.proofs.Common.{◌==◌, rules, tests, sym, ap, ◌∙◌, List, reverse, arith, le-ltb}
use Rattle.std.specs.List.{list_any}
use Rattle.std.proofs.lemmas.Iterator.Consumers.{YieldsList-from_rest, YieldsList-from_filter_map}
use Rattle.std.proofs.lemmas.Iterator.Search.{any_from_yields_List}
use Rattle.lane_turn.specs.Frames.{Frame, busy}
use Rattle.lane_turn.specs.Nest.{blocked_by_layer}
use Rattle.lane_turn.proofs.Resting.{busy_layers}
use Rattle.lane_turn.proofs.Tallies.{none_busy}
use Rattle.lane_turn.proofs.frames.Frames.blocks.Goals as goal

pub returns-then-blocking-gt0 : goal.returns-then-blocking-gt0
returns-then-blocking-gt0 c =
    any_from_yields_List (λ b. b == c.args.id) _ _ _ c.any.ensures.ran
    (YieldsList-from_filter_map _ (blocked_by_layer c.args.context) (YieldsList-from_rest (reverse c.self.inside.chain) cc) c.filter_map.ensures.closure (λ x r q k. search (rules, tests)))
    (λ x b q k. search (rules, tests))
    ∙ ap (list_any (λ b. b == c.args.id)) (busy_layers c.args.context c.self.inside.live.items c.self.inside.chain ∙ ap (busy c.args.context) c.self.view_is)

pub returns-else-blocking-gt0 : goal.returns-else-blocking-gt0
returns-else-blocking-gt0 c =
    let none = none_busy c.args.context c.self.inside.live.items c.self.inside.chain (omega (arith, c.blocking.ensures, c.if-blocking-gt0.false)) in
    le-ltb _ _ c.if-blocking-gt0.false ∙ (sym (ap (list_any (λ b. b == c.args.id)) none) ∙ ap (λ (fs : List Frame). list_any (λ b. b == c.args.id) (busy c.args.context fs)) c.self.view_is)
