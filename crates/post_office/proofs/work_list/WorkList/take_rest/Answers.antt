use Rattle.std.proofs.Common.{[], inl, ap, ◌∙◌, ◌∷◌, subst, rules}
use Rattle.std.specs.Prelude.{IsPermutation}
use Rattle.post_office.specs.Merge.{concat}
use Rattle.post_office.specs.Passes.{WorkState}
use Rattle.post_office.specs.WorkQueue.{WasSeen}
use Rattle.post_office.proofs.WorkQueues.{takes, sees, all_taken}
use Rattle.post_office.proofs.work_list.WorkList.take_rest.Goals as goal

pub pop_as-requires-clause-rule : goal.pop_as-requires-clause-rule
pop_as-requires-clause-rule g c = (takes _ c.self.inside.own.me.view.client (inl (ap (λ v. v.is_own) c.self.invariant.0)), sees _ _)

pub returns-clause-all : goal.returns-clause-all
returns-clause-all g c =
    let v = c.self.inside.own.me.view.client in
    let all = all_taken v (ap (λ v. v.is_own) c.self.invariant.0) (ap (λ l. l.out) c.self.view_is ∙ c.requires.out) in
    let emptied = (λ (seen : WasSeen v []). subst (λ (l : WorkState g.row.T.Denot). IsPermutation l.put (concat (l.taken ∷ l.recorded))) c.self.view_is (all seen)) in
    search (rules, emptied)
