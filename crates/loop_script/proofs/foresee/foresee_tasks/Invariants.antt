use Rattle.std.proofs.Common.{◌≡◌}
use Rattle.loop_script.proofs.foresee.foresee_tasks.Given as goal

abbrev pub invariant-loop-action : goal.invariant-loop-action
invariant-loop-action l = l.action-items ≡ l.initial.action-items
