use Rattle.std.proofs.Common.{◌≡◌, []}
use Rattle.std.specs.List.{All}
use Rattle.tick_stepper.specs.Share.{handed}
use Rattle.tick_stepper.proofs.deal.one_each.Given as goal

abbrev pub invariant-loop-lane : goal.invariant-loop-lane
invariant-loop-lane l =
    goal.iterator-loop-lane.can_next l.lane-iterator × goal.iterator-loop-lane.is_finite l.lane-iterator
    × (handed l.shares.items ≡ l.yielded) × All (λ share. share.tray ≡ []) l.shares.items
