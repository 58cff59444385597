use Rattle.std.proofs.Common.{◌≡◌, [], vec_len}
use Rattle.std.specs.List.{All}
use Rattle.tick_stepper.specs.Share.{handed, AreWorkers}
use Rattle.tick_stepper.proofs.deal.empty_shares.Given as goal

abbrev pub invariant-loop-worker : goal.invariant-loop-worker
invariant-loop-worker l = record {
  one_each : vec_len l.shares ≡ l.worker;
  lanes : handed l.shares.items ≡ [];
  trays : All (λ share. share.tray ≡ []) l.shares.items;
  workers : AreWorkers 0 l.shares.items;
  none : All (λ share. share.lanes.items ≡ []) l.shares.items;
}
