use Rattle.std.proofs.Common.{ap, subst}
use Rattle.post_office.specs.declared.views.PostView.{PostView}
use Rattle.post_office.specs.Merge.{IsMerge}
use Rattle.post_office.proofs.LetterQueues.{draining, sees, all_drained}
use Rattle.post_office.proofs.office.pop_all.Goals as goal

pub pop_as-requires-clause-rule : goal.pop_as-requires-clause-rule
pop_as-requires-clause-rule g c = let is = c.loop.invariant.3 in (draining _ c.loop.own.me.view.client (ap (λ v. v.is_own) is) (ap (λ v. v.out) is), sees _ _)

pub returns-in-None-pop_as-clause-all : goal.returns-in-None-pop_as-clause-all
returns-in-None-pop_as-clause-all g c =
    let is = c.loop.invariant.3 in
    subst (λ (v : PostView). IsMerge v.recorded v.drained) is (all_drained c.loop.own.me.view.client (ap (λ v. v.is_own) is) (ap (λ v. v.out) is) c.in-None-pop_as.ensures.rule.1)
