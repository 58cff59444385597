use Rattle.std.proofs.Common.{◌≡◌, take}
use Rattle.task_steps.specs.BookInside.{held, mark_of}
use Rattle.task_steps.proofs.leaf.Leaf.mark.Given as goal

abbrev pub invariant-loop-mark : goal.invariant-loop-mark
invariant-loop-mark l = l.all ≡ mark_of (held (take l.mark-index l.self.places.items))
