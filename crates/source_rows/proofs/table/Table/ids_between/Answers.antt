use Rattle.std.proofs.Common.{◌∙◌, ◌++◌, ℕ, ap, filter, List}
use Rattle.source_rows.specs.declared.row.Row.{Row}
use Rattle.source_rows.specs.declared.seats.Seat.{Seat}
use Rattle.source_rows.specs.Band.{is_between}
use Rattle.source_rows.specs.InOrder.{ids_of}
use Rattle.source_rows.specs.Seats.{in_seats}
use Rattle.source_rows.proofs.Found.{ids_between}
use Rattle.source_rows.proofs.Seated.{rises_seats}
use Rattle.source_rows.proofs.table.Table.ids_between.Goals as goal

pub add_between-requires : goal.add_between-requires
add_between-requires c = rises_seats c.self.inside.slots c.self.inside.keys c.self.inside.seats c.self.invariant.filled.table c.self.invariant.seated

pub returns : goal.returns
returns c =
    let found = λ (l : List Seat). ids_of (filter (is_between c.args.first c.args.last) l) in
    c.in_ok-add_between.ensures ∙ (ap (λ (xs : List ℕ). xs ++ found c.self.inside.seats.0) c.new-ids.ensures.items
    ∙ (ap found c.self.invariant.seated.are
    ∙ (ap (λ (rows : List Row). found (in_seats rows)) c.self.view_is ∙ ids_between c.args.first c.args.last c.args.self.now c.requires)))
