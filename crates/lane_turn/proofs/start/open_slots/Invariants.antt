use Rattle.std.proofs.Common.{◌≡◌}
use Rattle.lane_turn.specs.Turn.{open_slots}
use Rattle.lane_turn.proofs.start.open_slots.Given as goal

abbrev pub invariant-loop : goal.invariant-loop
invariant-loop l = l.places.items ≡ open_slots l.counter
