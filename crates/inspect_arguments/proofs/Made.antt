-- What is made of two numbers.
use Rattle.std.proofs.Common.{ℕ}
use Rattle.inspect_arguments.specs.declared.values.Source.{Source}
use Rattle.inspect_arguments.specs.declared.values.Ticks.{Ticks}

abbrev pub ticks_of : ℕ × ℕ → Ticks
ticks_of numbers = record { first = numbers.0; last = numbers.1 }

abbrev pub source_of : ℕ × ℕ → Source
source_of numbers = record { context = numbers.0; id = numbers.1 }
