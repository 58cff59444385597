use Rattle.std.proofs.Common.{◌≡◌, take}
use Rattle.task_steps.specs.BookInside.{held, wake_of_all}
use Rattle.task_steps.proofs.leaf.Leaf.wake.Given as goal

abbrev pub invariant-loop-place : goal.invariant-loop-place
invariant-loop-place l = l.wake ≡ wake_of_all (held (take l.place-index l.self.places.items))
