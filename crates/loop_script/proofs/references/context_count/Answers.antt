use Rattle.std.proofs.Common.{rules}
use Rattle.std.proofs.lemmas.Iterator.Consumers.{sum_by_from_yields_List}
use Rattle.std.proofs.lemmas.Iterator.{YieldsList-from_map, YieldsList-from_slice}
use Rattle.loop_script.specs.declared.plan.LaneSpec.{LaneSpec}
use Rattle.loop_script.proofs.references.context_count.Goals as goal

pub returns : goal.returns
returns c =
    sum_by_from_yields_List (λ (l : LaneSpec). l.contexts) c.args.lanes.now _ c.sum.result c.sum.ensures.ran
    (YieldsList-from_map _ (λ (l : LaneSpec). l.contexts) (YieldsList-from_slice c.args.lanes.now (search rules)) (search rules) (search rules))
