use Rattle.std.proofs.Common.{ap}
use Rattle.post_office.proofs.LetterQueues.{posting}
use Rattle.post_office.proofs.letter_queue.LetterQueue.post_as.Goals as goal

pub push_as-requires-clause-rule : goal.push_as-requires-clause-rule
push_as-requires-clause-rule g c = let is = c.pass.invariant.0 in posting _ c.pass.inside.seat.me.view.client _ (ap (λ v. v.is_own) is) (ap (λ v. v.out) is)
