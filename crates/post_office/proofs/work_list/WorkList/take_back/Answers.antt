use Rattle.std.proofs.Common.{ap}
use Rattle.post_office.proofs.WorkQueues.{comes_back}
use Rattle.post_office.proofs.work_list.WorkList.take_back.Goals as goal

pub absorb-requires-clause-rule : goal.absorb-requires-clause-rule
absorb-requires-clause-rule g c = comes_back _ c.self.inside.own.me.view.client _ c.pass.inside.seat.me.view.client (ap (λ v. v.is_own) c.self.invariant.0) (ap (λ v. v.out) c.pass.invariant.0)
