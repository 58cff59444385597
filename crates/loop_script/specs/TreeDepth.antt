-- How deep a tree goes.
use Rattle.std.specs.Prelude.{ℕ, ◌+◌, Bool, max, nat_le}
use Rattle.loop_script.specs.Tree.{Tree, value, fail, sleep, check, seq, both, first, within}

-- how deep a tree goes
abbrev pub tree_depth : Tree → ℕ
tree_depth (value v) = 1
tree_depth fail = 1
tree_depth (sleep us) = 1
tree_depth check = 1
tree_depth (seq a b) = max (tree_depth a) (tree_depth b) + 1
tree_depth (both a b) = max (tree_depth a) (tree_depth b) + 1
tree_depth (first a b) = max (tree_depth a) (tree_depth b) + 1
tree_depth (within us a) = tree_depth a + 1

-- whether a tree goes so deep at most
abbrev pub fits_in : ℕ → Tree → Bool
fits_in n t = nat_le (tree_depth t) n
