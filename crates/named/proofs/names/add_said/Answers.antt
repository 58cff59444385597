use Rattle.std.proofs.Common.{ap, sym, ◌∙◌, ◌+◌, drop, slice_index_or, option_to_list, option_and_then}
use Rattle.std.proofs.lemmas.List.{at_drop_more}
use Rattle.json.specs.Find.{as_str}
use Rattle.json.specs.Value.{value_view}
use Rattle.named.specs.Names.{all_added, said, under}
use Rattle.named.specs.Views.{texts}
use Rattle.named.specs.declared.word.Word.TheVariants.{Attach}
use Rattle.named.proofs.Adding.{then_rest}
use Rattle.named.proofs.names.add_said.Goals as goal

pub loop-word-preserved : goal.loop-word-preserved
loop-word-preserved c =
    let all = c.args.words.now in
    let i = c.loop-word.word-index in
    let d = value_view c.args.action.now in
    let before = texts c.loop-word.names.items in
    let here = option_to_list (option_and_then as_str (under (slice_index_or all i Attach) d)) in
    then_rest c.args.limit before (texts c.add_given.new.names.items) here (said (drop (i + 1) all) d) (c.in_ok-add_given.ensures ∙ ap (λ o. all_added c.args.limit before (option_to_list o)) c.text_under.ensures)
    ∙ sym (at_drop_more (λ xs. all_added c.args.limit before (said xs d)) all i Attach c.loop-word-test.true)
    ∙ c.loop-word.invariant
