use Rattle.std.proofs.Common.{◌≡◌, ◌∙◌, ap, sym, arith}
use Rattle.serde_json.specs.View.{view}
use Rattle.loop_script.specs.Seen.{seen}
use Rattle.loop_script.specs.Read.{Read, misshapen, after}
use Rattle.loop_script.specs.Tree.{Tree, fail}
use Rattle.loop_script.specs.TreeForm.{tree}
use Rattle.loop_script.proofs.Trees.{falls, tree_of_other}
use Rattle.loop_script.proofs.tree_form.+read_tree.Goals as goal

pub read_seq-read_tree-requires : goal.read_seq-read_tree-requires
read_seq-read_tree-requires t c = (omega (arith, falls (seen c.part_of.result) 1 (view c.args.value.now) c.part_of.ensures, c.decreases), tt)

pub read_seq-read_tree-requires-2 : goal.read_seq-read_tree-requires-2
read_seq-read_tree-requires-2 t c = (omega (arith, falls (seen c.part_of-2.result) 2 (view c.args.value.now) c.part_of-2.ensures, c.decreases), tt)

pub read_both-read_tree-requires : goal.read_both-read_tree-requires
read_both-read_tree-requires t c = (omega (arith, falls (seen c.part_of.result) 1 (view c.args.value.now) c.part_of.ensures, c.decreases), tt)

pub read_both-read_tree-requires-2 : goal.read_both-read_tree-requires-2
read_both-read_tree-requires-2 t c = (omega (arith, falls (seen c.part_of-2.result) 2 (view c.args.value.now) c.part_of-2.ensures, c.decreases), tt)

pub read_first-read_tree-requires : goal.read_first-read_tree-requires
read_first-read_tree-requires t c = (omega (arith, falls (seen c.part_of.result) 1 (view c.args.value.now) c.part_of.ensures, c.decreases), tt)

pub read_first-read_tree-requires-2 : goal.read_first-read_tree-requires-2
read_first-read_tree-requires-2 t c = (omega (arith, falls (seen c.part_of-2.result) 2 (view c.args.value.now) c.part_of-2.ensures, c.decreases), tt)

pub read_within-read_tree-requires : goal.read_within-read_tree-requires
read_within-read_tree-requires t c = (omega (arith, falls (seen c.part_of-2.result) 2 (view c.args.value.now) c.part_of-2.ensures, c.decreases), tt)

pub read_tree-returns-in_default-clause-value : goal.read_tree-returns-in_default-clause-value
read_tree-returns-in_default-clause-value t c =
    let other : tree (seen c.args.value) ≡ misshapen fail = tree_of_other (seen c.args.value) c.word_of-word.result.now c.word_of-word.ensures c.in_default.not-value c.in_default.not-fail c.in_default.not-sleep c.in_default.not-check c.in_default.not-seq c.in_default.not-both c.in_default.not-first c.in_default.not-within in
    c.fail.ensures ∙ sym (ap (λ (r : Read Tree). r.value) other)

pub read_tree-returns-in_default-clause-faults : goal.read_tree-returns-in_default-clause-faults
read_tree-returns-in_default-clause-faults t c =
    let other : tree (seen c.args.value) ≡ misshapen fail = tree_of_other (seen c.args.value) c.word_of-word.result.now c.word_of-word.ensures c.in_default.not-value c.in_default.not-fail c.in_default.not-sleep c.in_default.not-check c.in_default.not-seq c.in_default.not-both c.in_default.not-first c.in_default.not-within in
    sym (ap (λ (r : Read Tree). after c.args.faults.now r) other)
