-- What a borrowed context becomes.
use Rattle.std.specs.Borrow.{Lends, MutBor, Fml}
use Rattle.source_rows.specs.Rows.{RowSet}
use Rattle.source_rows.specs.contracts.rows.Rows as row_sets
use Rattle.context_core.specs.declared.context.Context.{Context}
use Rattle.context_core.specs.contracts.context.Context.{the_row}

-- a context with the given rows
abbrev pub with_rows : Context → RowSet → Context
with_rows c rows = record c { rows = rows }

-- the context ends with the last value behind r for its rows
abbrev pub LendsRows : MutBor Context → MutBor RowSet → Fml
LendsRows c r = Lends the_row row_sets.the_row c r (with_rows c.now)
