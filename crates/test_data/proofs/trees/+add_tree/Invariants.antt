use Rattle.test_data.proofs.trees.+add_tree.Given as goal

abbrev pub decreases-add_tree : goal.decreases-add_tree
decreases-add_tree l = l.depth
