use Rattle.std.proofs.Common.{arith, inr, ap}
use Rattle.post_office.proofs.WorkQueues.{takes, sees}
use Rattle.post_office.proofs.work_queue.WorkQueue.take.Goals as goal

pub pop_as-requires-clause-rule : goal.pop_as-requires-clause-rule
pop_as-requires-clause-rule g c = let is_out = ap (λ v. v.out) c.pass.invariant.0 in (takes _ _ (inr (λ z. omega (arith, is_out))), sees _ _)
