use Rattle.std.proofs.Common.{ap}
use Rattle.std.specs.Prelude.{option_map}
use Rattle.inspect_arguments.proofs.Made.{ticks_of}
use Rattle.inspect_arguments.proofs.values.Ticks.of_text.Goals as goal

pub returns-in_err-first-clause-exact : goal.returns-in_err-first-clause-exact
returns-in_err-first-clause-exact c ticks are = let no = c.in_err-first.ensures.exact ticks.first ticks.last are in absurd cc

pub returns-clause-exact : goal.returns-clause-exact
returns-clause-exact c ticks are = ap (option_map ticks_of) (c.in_ok-first.ensures.exact ticks.first ticks.last are)
