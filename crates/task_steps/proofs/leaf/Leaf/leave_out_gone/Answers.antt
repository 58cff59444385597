use Rattle.std.proofs.Common.{◌∙◌, ap, rules}
use Rattle.std.proofs.lemmas.Fn.{filter_same}
use Rattle.task_steps.specs.BookInside.{held}
use Rattle.task_steps.proofs.SideBySide.{held_left}
use Rattle.task_steps.proofs.leaf.Leaf.leave_out_gone.Goals as goal

pub returns-then-saturating_sub-places-clause-entries : goal.returns-then-saturating_sub-places-clause-entries
returns-then-saturating_sub-places-clause-entries c =
    ap held (c.shrink_to_fit.ensures.items ∙ c.mark_all.ensures.places ∙ filter_same _ _ _ (λ x b f' k. search rules) _ _ c.retain.ensures.filtered)
    ∙ held_left c.args.self.now.places.items
