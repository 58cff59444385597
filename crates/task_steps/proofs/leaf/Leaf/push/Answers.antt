use Rattle.std.proofs.Common.{◌∙◌, ◌∷◌, [], Some, ap}
use Rattle.task_steps.specs.BookInside.{held}
use Rattle.task_steps.proofs.SideBySide.{held_joined}
use Rattle.task_steps.proofs.leaf.Leaf.push.Goals as goal

pub returns-clause-entries : goal.returns-clause-entries
returns-clause-entries c = ap held c.in_ok-push-2.ensures.items ∙ held_joined c.args.self.now.places.items (Some c.args.entry ∷ [])
