use Rattle.std.proofs.Common.{◌≡◌}
use Rattle.test_data.proofs.queue_tests.post_some.Given as goal

abbrev pub invariant-loop-number : goal.invariant-loop-number
invariant-loop-number g l = l.pass.home ≡ l.queue
