-- What a source lends to those above it.
use Rattle.std.specs.Prelude.{◌&&◌, Bool, List}
use Rattle.std.specs.Option.{is_some}
use Rattle.source_rows.specs.declared.row.Row.{Row}
use Rattle.source_rows.specs.Rows.{is_under}
use Rattle.context_core.specs.Ready.{Own, is_callable}
use Rattle.loop_script.specs.Units.{SourceId}

-- a child is callable, and it or one above it has the id
abbrev pub lends : Own → List SourceId → SourceId → Row → Bool
lends own busy id q = (is_some q.parent && is_under id q) && is_callable own busy q

-- the same of one that is free
abbrev pub lends_free : Own → SourceId → Row → Bool
lends_free own id q = (is_some q.parent && is_under id q) && own q
