use Rattle.std.proofs.Common.{◌≡◌, ◌++◌, map, filter}
use Rattle.context_core.specs.Phases.{is_asked, interest_of, interests}
use Rattle.context_core.proofs.context.Context.interests.Given as goal

abbrev pub invariant-rows : goal.invariant-rows
invariant-rows l = l.list.items ++ map interest_of (filter (is_asked l.least l.busy) l.row-iterator) ≡ interests l.least l.busy l.self.rows.rows
