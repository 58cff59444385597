use Rattle.std.proofs.Common.{ap, ◌∙◌, length, ◌-◌, ℕ, List, Option}
use Rattle.lane_turn.specs.Frames.{top_of}
use Rattle.lane_turn.specs.Nest.{top_of_layers}
use Rattle.lane_turn.proofs.Layers.{top_layers, is_taken}
use Rattle.lane_turn.proofs.frames.Frames.take.Goals as goal

pub returns-clause-taken : goal.returns-clause-taken
returns-clause-taken c =
    let live = c.self.inside.live.items in
    let ls = c.self.inside.chain in
    let top = c.take.ensures.top ∙ (ap (λ (at : List (Option ℕ)). top_of_layers at (length ls - 1) ls) c.deref.ensures.value ∙ (top_layers live ls ∙ ap top_of c.self.view_is)) in
    is_taken live ls c.take.new.self c.take.result c.args.self.now top c.self.view_is c.take.ensures.taken
