use Rattle.std.proofs.Common.{◌≡◌, drop}
use Rattle.std.specs.List.{list_any}
use Rattle.task_steps.specs.BookInside.{entries_in, held}
use Rattle.task_steps.specs.Polls.{owes_reply}
use Rattle.task_steps.proofs.leaf.Leaf.reply_next.Given as goal

abbrev pub invariant-loop-place : goal.invariant-loop-place
invariant-loop-place l = list_any (owes_reply l.view) (entries_in l.self) ≡ list_any (owes_reply l.view) (held (drop l.place-index l.self.places.items))
