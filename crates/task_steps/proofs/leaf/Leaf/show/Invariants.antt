use Rattle.std.proofs.Common.{◌≡◌, ◌++◌, drop, map}
use Rattle.task_steps.specs.BookInside.{entries_in, held}
use Rattle.task_steps.specs.Shown.{entry_shown}
use Rattle.task_steps.proofs.leaf.Leaf.show.Given as goal

abbrev pub invariant-loop-place : goal.invariant-loop-place
invariant-loop-place l = l.list.items ++ map entry_shown (held (drop l.place-index l.self.places.items)) ≡ l.fn.list.items ++ map entry_shown (entries_in l.self)
