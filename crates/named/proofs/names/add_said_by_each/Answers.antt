use Rattle.std.proofs.Common.{ap, sym, ◌∙◌, ◌+◌, drop}
use Rattle.json.specs.Value.{value_view, members_view}
use Rattle.named.specs.Names.{all_added, items_in, said_in, said_by, under}
use Rattle.json.specs.Find.{get}
use Rattle.named.specs.Views.{texts}
use Rattle.named.proofs.Adding.{at_next, then_rest}
use Rattle.named.proofs.names.add_said_by_each.Goals as goal

pub loop-member-preserved : goal.loop-member-preserved
loop-member-preserved c =
    let all = c.args.members.now in
    let i = c.loop-member.member-index in
    let v = c.member-item.result in
    then_rest c.args.limit (texts c.loop-member.names.items) (texts c.add_said_at.new.names.items) (said_in c.args.words.now (items_in (under c.args.key (value_view v.1)))) (said_by c.args.words.now c.args.key (members_view (drop (i + 1) all))) (c.in_ok-add_said_at.ensures ∙ ap (λ o. all_added c.args.limit (texts c.loop-member.names.items) (said_in c.args.words.now (items_in o))) (c.get.ensures ∙ ap (λ k. get k (value_view v.1)) c.text.ensures))
    ∙ sym (at_next (λ xs. all_added c.args.limit (texts c.loop-member.names.items) (said_by c.args.words.now c.args.key (members_view xs))) all i v c.member-item.is c.loop-member-test.true)
    ∙ c.loop-member.invariant
