-- what is left is for the threads that are left
use Rattle.std.proofs.Common.{◌≡◌, ◌+◌, drop, length}
use Rattle.json.specs.Value.{members_view}
use Rattle.named.specs.Names.{contexts_of}
use Rattle.named.proofs.count.have_contexts_together.Given as goal

abbrev pub invariant-loop-thread : goal.invariant-loop-thread
invariant-loop-thread l = l.left + length (contexts_of (members_view l.threads)) ≡ l.count + length (contexts_of (members_view (drop l.thread-index l.threads)))
