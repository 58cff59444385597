use Rattle.std.proofs.Common.{ap}
use Rattle.std.specs.Prelude.{option_map}
use Rattle.inspect_arguments.proofs.Made.{source_of}
use Rattle.inspect_arguments.proofs.values.Source.of_text.Goals as goal

pub returns-in_err-context-clause-exact : goal.returns-in_err-context-clause-exact
returns-in_err-context-clause-exact c source are = let no = c.in_err-context.ensures.exact source.context source.id are in absurd cc

pub returns-clause-exact : goal.returns-clause-exact
returns-clause-exact c source are = ap (option_map source_of) (c.in_ok-context.ensures.exact source.context source.id are)
