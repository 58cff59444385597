use Rattle.std.proofs.Common.{ap, sym, ◌∙◌, ◌+◌, drop}
use Rattle.json.specs.Value.{value_view, members_view}
use Rattle.named.specs.Names.{all_added, contexts_or, contexts_of, most, under}
use Rattle.json.specs.Find.{get}
use Rattle.named.specs.declared.sort.Kind.TheVariants as kinds
use Rattle.named.specs.declared.word.Word.TheVariants as word
use Rattle.named.specs.Views.{texts}
use Rattle.named.proofs.Adding.{at_next, then_rest}
use Rattle.named.proofs.names.add_contexts.Goals as goal

pub loop-thread-preserved : goal.loop-thread-preserved
loop-thread-preserved c =
    let all = c.args.threads.now in
    let i = c.loop-thread.thread-index in
    let v = c.thread-item.result in
    then_rest (most kinds.Context) (texts c.loop-thread.names.items) (texts c.add_own.new.names.items) (contexts_or v.0.now (under word.Contexts (value_view v.1))) (contexts_of (members_view (drop (i + 1) all))) (c.in_ok-add_own.ensures ∙ ap (λ o. all_added (most kinds.Context) (texts c.loop-thread.names.items) (contexts_or v.0.now o)) (c.get.ensures ∙ ap (λ k. get k (value_view v.1)) c.text.ensures))
    ∙ sym (at_next (λ xs. all_added (most kinds.Context) (texts c.loop-thread.names.items) (contexts_of (members_view xs))) all i v c.thread-item.is c.loop-thread-test.true)
    ∙ c.loop-thread.invariant
