-- Rows by a list of their ids.
use Rattle.std.specs.Prelude.{List, map, filter_map}
use Rattle.std.specs.List.{AllByRecursion}
use Rattle.std.specs.Option.{IsSome}
use Rattle.source_rows.specs.declared.row.Row.{Row}
use Rattle.source_rows.specs.declared.seats.Seat.{Seat}
use Rattle.source_rows.specs.Rows.{row_of}
use Rattle.loop_script.specs.Units.{SourceId}

-- the rows of ids
abbrev pub rows_of : List Row → List SourceId → List Row
rows_of rows ids = filter_map (λ id. row_of id rows) ids

-- each id is that of a row
abbrev pub AllFound : List Row → List SourceId → Type 0
AllFound rows ids = AllByRecursion (λ id. IsSome (row_of id rows)) ids

-- the ids of seats
abbrev pub ids_of : List Seat → List SourceId
ids_of seats = map (λ s. s.id) seats
