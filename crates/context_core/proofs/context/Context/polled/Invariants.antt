use Rattle.std.proofs.Common.{◌≡◌, ◌++◌, drop, length, filter}
use Rattle.context_core.specs.Phases.{is_asked, asked_rows, handed}
use Rattle.context_core.proofs.context.Context.polled.Given as goal

abbrev pub invariant-rows : goal.invariant-rows
invariant-rows l = l.list.items ++ handed (filter (is_asked l.least l.busy) l.row-iterator) (drop (length l.list.items) l.levels) ≡ handed (asked_rows l.least l.busy l.self.rows.rows) l.levels
