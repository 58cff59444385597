use Rattle.std.proofs.Common.{◌≤◌, ◌-◌, length, take, drop}
use Rattle.task_steps.specs.BookInside.{held, mark_of, IsQuiet}
use Rattle.task_steps.proofs.leaf.Leaf.next_loud.Given as goal

abbrev pub invariant-loop-at : goal.invariant-loop-at
invariant-loop-at l = record {
  later : l.from ≤ l.at;
  there : l.at ≤ length l.self.places.items;
  quiet : IsQuiet l.round (mark_of (held (take (l.at - l.from) (drop l.from l.self.places.items))));
}

abbrev pub decreases-loop-at : goal.decreases-loop-at
decreases-loop-at l = length l.self.places.items - l.at
