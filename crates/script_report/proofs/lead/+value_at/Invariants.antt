-- the steps that are left are fewer
use Rattle.std.proofs.Common.{length}
use Rattle.script_report.proofs.lead.+value_at.Given as goal

abbrev pub decreases-value_at : goal.decreases-value_at
decreases-value_at l = length l.steps.now
