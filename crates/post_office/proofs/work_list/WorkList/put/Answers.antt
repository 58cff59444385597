use Rattle.std.proofs.Common.{ap, ◌∙◌}
use Rattle.post_office.proofs.WorkQueues.{puts}
use Rattle.post_office.proofs.work_list.WorkList.put.Goals as goal

pub push_as-requires-clause-rule : goal.push_as-requires-clause-rule
push_as-requires-clause-rule g c = puts _ c.self.inside.own.me.view.client _ (ap (λ v. v.is_own) c.self.invariant.0) (ap (λ l. l.out) c.self.view_is ∙ c.requires.out)
