-- how many places are looked at, of how many that there are; what is polled of the others is polled of all
use Rattle.std.proofs.Common.{◌≡◌, ◌≤◌, ◌-◌, [], length, take, drop, map}
use Rattle.task_steps.specs.BookInside.{entries_in, held, mark_at}
use Rattle.task_steps.proofs.SideBySide.{PolledTo}
use Rattle.task_steps.proofs.leaf.Leaf.poll_tasks.Given as goal

abbrev pub invariant-loop-at : goal.invariant-loop-at
invariant-loop-at l = record {
  at : l.at ≤ length l.self.places.items;
  known : l.self.marks.items ≡ map mark_at l.self.places.items;
  polled : PolledTo l.round l.view (entries_in l.fn.self) l.fn.replies.items l.fn.late.items (take l.at l.self.places.items) (drop l.at l.self.places.items) l.replies.items l.late.items;
  none : entries_in l.fn.self ≡ [] → held l.self.places.items ≡ [];
}

abbrev pub decreases-loop-at : goal.decreases-loop-at
decreases-loop-at l = length l.self.places.items - l.at
