use Rattle.std.proofs.Common.{◌∙◌, rules}
use Rattle.std.proofs.lemmas.Fn.{filter_same}
use Rattle.by_id.proofs.entry.leave_out_taken.Goals as goal

pub returns-then-living-capacity : goal.returns-then-living-capacity
returns-then-living-capacity g c = c.shrink_to.ensures.items ∙ filter_same _ _ _ (λ x b f' k. search rules) _ _ c.retain.ensures.filtered

pub returns-else-living-capacity : goal.returns-else-living-capacity
returns-else-living-capacity g c = filter_same _ _ _ (λ x b f' k. search rules) _ _ c.retain.ensures.filtered
