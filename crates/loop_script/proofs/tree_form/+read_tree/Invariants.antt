-- twice the depth of the data, and one for the choice of the word
use Rattle.std.proofs.Common.{◌+◌, ◌*◌, Some}
use Rattle.serde_json.specs.View.{view}
use Rattle.loop_script.specs.Seen.{seen}
use Rattle.loop_script.proofs.Trees.{height}
use Rattle.loop_script.proofs.tree_form.+read_tree.Given as goal

abbrev pub decreases-read_tree : goal.decreases-read_tree
decreases-read_tree l = 2 * height (seen l.value) + 1

abbrev pub decreases-read_seq : goal.decreases-read_seq
decreases-read_seq l = 2 * height (Some (view l.value.now))

abbrev pub decreases-read_both : goal.decreases-read_both
decreases-read_both l = 2 * height (Some (view l.value.now))

abbrev pub decreases-read_first : goal.decreases-read_first
decreases-read_first l = 2 * height (Some (view l.value.now))

abbrev pub decreases-read_within : goal.decreases-read_within
decreases-read_within l = 2 * height (Some (view l.value.now))
