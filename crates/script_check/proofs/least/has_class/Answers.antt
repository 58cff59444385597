use Rattle.std.proofs.Common.{◌∙◌}
use Rattle.script_check.proofs.Classed.{any_found}
use Rattle.script_check.proofs.least.has_class.Goals as goal

pub returns : goal.returns
returns c = c.is_among.ensures ∙ any_found c.args.class c.args.faults.now
