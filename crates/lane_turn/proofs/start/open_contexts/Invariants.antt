use Rattle.std.proofs.Common.{◌≡◌}
use Rattle.lane_turn.specs.Turn.{open_contexts_to}
use Rattle.lane_turn.proofs.start.open_contexts.Given as goal

abbrev pub invariant-loop-context : goal.invariant-loop-context
invariant-loop-context l = l.contexts.items ≡ open_contexts_to l.script l.lane l.context
