use Rattle.std.proofs.Common.{◌+◌, ◌*◌}
use Rattle.tick_stepper.proofs.side_by_side.+jobs.Given as goal

abbrev pub decreases-call_each : goal.decreases-call_each
decreases-call_each g l = 2 * l.jobs.len

abbrev pub decreases-here : goal.decreases-here
decreases-here g l = 2 * l.jobs.len + 1
