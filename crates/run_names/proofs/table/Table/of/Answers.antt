use Rattle.std.proofs.Common.{rules}
use Rattle.json.specs.Value.{value_view}
use Rattle.run_names.proofs.Apart.{kept_numbers}
use Rattle.run_names.proofs.table.Table.of.Goals as goal

pub invariant_of-result : goal.invariant_of-result
invariant_of-result c = kept_numbers (value_view c.args.script.now) _ (search rules)
