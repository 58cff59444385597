use Rattle.std.proofs.Common.{◌≡◌}
use Rattle.test_data.proofs.work_tests.put_all.Given as goal

abbrev pub invariant-loop-number : goal.invariant-loop-number
invariant-loop-number g l = l.list.out ≡ 0
