-- Each tree has one level at least.
use Rattle.std.proofs.Common.{◌≡◌, ℕ, ◌<◌, false, arith}
use Rattle.std.proofs.lemmas.Bool.Decides.{nat_tests}
use Rattle.loop_script.specs.Tree.{Tree, value, fail, sleep, check, seq, both, first, within}
use Rattle.loop_script.specs.TreeDepth.{tree_depth, fits_in}

pub depth_above : (t : Tree) → 0 < tree_depth t
depth_above (value v) = omega arith
depth_above fail = omega arith
depth_above (sleep us) = omega arith
depth_above check = omega arith
depth_above (seq a b) = omega arith
depth_above (both a b) = omega arith
depth_above (first a b) = omega arith
depth_above (within us a) = omega arith

pub fits_none : (n : ℕ) (t : Tree) → n ≡ 0 → false ≡ fits_in n t
fits_none n t e = let above = depth_above t in grind (arith, nat_tests)
