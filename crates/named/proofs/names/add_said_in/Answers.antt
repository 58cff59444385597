use Rattle.std.proofs.Common.{sym, ◌∙◌, ◌+◌, drop}
use Rattle.json.specs.Value.{value_view, items_view}
use Rattle.named.specs.Names.{all_added, said, said_in}
use Rattle.named.specs.Views.{texts}
use Rattle.named.proofs.Adding.{at_next, then_rest}
use Rattle.named.proofs.names.add_said_in.Goals as goal

pub loop-action-preserved : goal.loop-action-preserved
loop-action-preserved c =
    let all = c.args.actions.now in
    let i = c.loop-action.action-index in
    let v = c.action-item.result in
    then_rest c.args.limit (texts c.loop-action.names.items) (texts c.add_said.new.names.items) (said c.args.words.now (value_view v)) (said_in c.args.words.now (items_view (drop (i + 1) all))) (c.in_ok-add_said.ensures)
    ∙ sym (at_next (λ xs. all_added c.args.limit (texts c.loop-action.names.items) (said_in c.args.words.now (items_view xs))) all i v c.action-item.is c.loop-action-test.true)
    ∙ c.loop-action.invariant
