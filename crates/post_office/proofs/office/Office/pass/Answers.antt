use Rattle.std.proofs.Common.{ap}
use Rattle.post_office.proofs.LetterQueues.{goes_out}
use Rattle.post_office.proofs.office.Office.pass.Goals as goal

pub another-seat-requires-clause-rule : goal.another-seat-requires-clause-rule
another-seat-requires-clause-rule c = goes_out _ c.self.inside.own.me.view.client (ap (λ v. v.is_own) c.self.invariant.0)
