-- the marks up to a place are those of the places
use Rattle.std.proofs.Common.{◌≡◌, ◌≤◌, ◌-◌, length, map, take}
use Rattle.task_steps.specs.BookInside.{mark_at}
use Rattle.task_steps.proofs.leaf.Leaf.mark_all.Given as goal

abbrev pub invariant-loop-at : goal.invariant-loop-at
invariant-loop-at l = record {
  at : l.at ≤ length l.self.places.items;
  places : l.self.places.items ≡ l.fn.self.places.items;
  many : length l.self.marks.items ≡ length l.self.places.items;
  marked : take l.at l.self.marks.items ≡ map mark_at (take l.at l.self.places.items);
}

abbrev pub decreases-loop-at : goal.decreases-loop-at
decreases-loop-at l = length l.self.places.items - l.at
