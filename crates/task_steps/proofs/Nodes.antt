-- How large a tree of tasks is.
use Rattle.std.proofs.Common.{ℕ, ◌+◌}
use Rattle.task_steps.specs.declared.tasks.Tree.{Tree, Gone, Leaf, Two'}

-- the number of its nodes
abbrev pub nodes : Tree → ℕ
nodes Gone = 0
nodes (Leaf seats) = 0
nodes (Two' p m a n b) = nodes a + nodes b + 1
