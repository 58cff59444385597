use Rattle.std.proofs.Common.{◌≡◌}
use Rattle.lane_turn.specs.Turn.{open_replies}
use Rattle.lane_turn.proofs.start.open_replies.Given as goal

abbrev pub invariant-loop : goal.invariant-loop
invariant-loop l = l.replies.items ≡ open_replies l.counter
