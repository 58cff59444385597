use Rattle.std.proofs.Common.{sym, ◌∙◌}
use Rattle.script_check.proofs.Sizes.{any_key}
use Rattle.script_check.proofs.own.is_key.Goals as goal

pub returns : goal.returns
returns c = c.is_among.ensures ∙ sym (any_key c.args.name.now c.args.keys.now)
