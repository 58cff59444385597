use Rattle.std.proofs.Common.{◌≡◌, [], vec_len}
use Rattle.std.specs.Prelude.{IsPermutation}
use Rattle.std.specs.List.{All}
use Rattle.tick_stepper.specs.Share.{handed, AreWorkers, HasTheirs}
use Rattle.tick_stepper.proofs.deal.hand_out.Given as goal

abbrev pub invariant-loop-lane : goal.invariant-loop-lane
invariant-loop-lane l =
    goal.iterator-loop-lane.can_next l.lane-iterator × goal.iterator-loop-lane.is_finite l.lane-iterator
    × (vec_len l.shares ≡ l.crew.workers) × IsPermutation l.yielded (handed l.shares.items) × All (λ share. share.tray ≡ []) l.shares.items
    × AreWorkers 0 l.shares.items × All (HasTheirs l.crew l.yielded) l.shares.items
