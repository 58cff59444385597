use Rattle.std.proofs.Common.{◌≡◌, ◌∙◌, ap, length, arith}
use Rattle.std.proofs.lemmas.Bool.Decides.{nat_tests}
use Rattle.json.specs.Find.{get}
use Rattle.json.specs.Value.{value_view}
use Rattle.named.specs.Names.{contexts_or, under}
use Rattle.named.specs.declared.word.Word.TheVariants as word
use Rattle.named.proofs.Adding.{contexts_next}
use Rattle.named.proofs.count.have_contexts_together.Goals as goal

pub returns-then-left-own : goal.returns-then-left-own
returns-then-left-own c =
    let t = c.thread-item.result in
    let own : c.contexts_count-own.result ≡ length (contexts_or t.0.now (under word.Contexts (value_view t.1))) = c.contexts_count-own.ensures t.0.now ∙ ap (λ o. length (contexts_or t.0.now o)) (c.get.ensures ∙ ap (λ k. get k (value_view t.1)) c.text.ensures) in
    let next = contexts_next c.args.threads.now c.loop-thread.thread-index t c.thread-item.is c.loop-thread-test.true in
    let left = c.loop-thread.invariant in
    let less = c.if-left-own.true in
    grind (arith, nat_tests)

pub loop-thread-preserved : goal.loop-thread-preserved
loop-thread-preserved c =
    let t = c.thread-item.result in
    let own : c.contexts_count-own.result ≡ length (contexts_or t.0.now (under word.Contexts (value_view t.1))) = c.contexts_count-own.ensures t.0.now ∙ ap (λ o. length (contexts_or t.0.now o)) (c.get.ensures ∙ ap (λ k. get k (value_view t.1)) c.text.ensures) in
    let next = contexts_next c.args.threads.now c.loop-thread.thread-index t c.thread-item.is c.loop-thread-test.true in
    let left = c.loop-thread.invariant in
    let enough = c.if-left-own.false in
    omega arith
