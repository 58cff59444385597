-- Within which bounds the numbers of flags are.
use Rattle.std.specs.Prelude.{◌≤◌, IfSome, ⊤}
use Rattle.inspect_arguments.specs.declared.answers.Asked.{Asked}
use Rattle.inspect_arguments.specs.declared.answers.Asked.TheVariants.{Run, Help, Wrong}
use Rattle.inspect_arguments.specs.declared.flags.TheConstants.{MOST_NUMBER, LEAST_COLUMNS, MOST_COLUMNS}
use Rattle.inspect_arguments.specs.declared.orders.Order.{Order}

-- the numbers of what is asked for, but those of ticks and of a source, are within the bounds of their flags
pub record IsWithin (order : Order) : Type 0 where
  pub lane : IfSome order.lane (λ n. n ≤ MOST_NUMBER)
  pub tick : IfSome order.tick (λ n. n ≤ MOST_NUMBER)
  pub step : IfSome order.step (λ n. n ≤ MOST_NUMBER)
  pub most_lines : IfSome order.most_lines (λ n. n ≤ MOST_NUMBER)
  pub columns : (LEAST_COLUMNS ≤ order.columns) × (order.columns ≤ MOST_COLUMNS)

-- so they are, where an order is what words ask for
abbrev pub AsksWithin : Asked Order → Type 0
AsksWithin (Run order) = IsWithin order
AsksWithin (Help text) = ⊤
AsksWithin (Wrong text) = ⊤
