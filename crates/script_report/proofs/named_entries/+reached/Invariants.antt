-- a step less each time
use Rattle.std.proofs.Common.{length}
use Rattle.script_report.proofs.named_entries.+reached.Given as goal

abbrev pub decreases-reached : goal.decreases-reached
decreases-reached l = length l.steps.now
