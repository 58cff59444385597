use Rattle.std.proofs.Common.{ap, sym, ◌∙◌, ◌+◌, drop, option_to_list}
use Rattle.json.specs.Find.{as_str}
use Rattle.json.specs.Value.{value_view, items_view}
use Rattle.named.specs.Names.{all_added, texts_of}
use Rattle.named.specs.Views.{texts}
use Rattle.named.proofs.Adding.{at_next, then_rest}
use Rattle.named.proofs.names.add_texts.Goals as goal

pub loop-item-preserved : goal.loop-item-preserved
loop-item-preserved c =
    let all = c.args.items.now in
    let i = c.loop-item.item-index in
    let v = c.item-item.result in
    let before = texts c.loop-item.names.items in
    then_rest c.args.limit before (texts c.add_given.new.names.items) (option_to_list (as_str (value_view v))) (texts_of (items_view (drop (i + 1) all))) (c.in_ok-add_given.ensures ∙ ap (λ o. all_added c.args.limit before (option_to_list o)) c.as_str.ensures)
    ∙ sym (at_next (λ xs. all_added c.args.limit before (texts_of (items_view xs))) all i v c.item-item.is c.loop-item-test.true)
    ∙ c.loop-item.invariant
