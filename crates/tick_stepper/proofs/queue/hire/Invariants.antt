use Rattle.std.proofs.Common.{◌≡◌, ◌+◌, vec_len}
use Rattle.std.specs.List.{All}
use Rattle.tick_stepper.specs.Queue.{IsHired}
use Rattle.tick_stepper.proofs.queue.hire.Given as goal

abbrev pub invariant-loop-worker : goal.invariant-loop-worker
invariant-loop-worker l = record {
  list : l.list ≡ record l.fn.list { out = l.fn.list.out + l.worker };
  office : l.office ≡ record l.fn.office { out = l.fn.office.out + l.worker };
  hired : All (IsHired l.fn.list.home l.fn.office.home l.fn.list.put) l.all.items;
  as_many : vec_len l.all ≡ l.worker;
}
