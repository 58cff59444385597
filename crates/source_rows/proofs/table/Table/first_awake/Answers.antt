use Rattle.std.proofs.Common.{◌≡◌, ◌∙◌, ap, rules, List}
use Rattle.source_rows.specs.declared.row.Row.{Row}
use Rattle.source_rows.specs.Seats.{first_awake, in_seats}
use Rattle.source_rows.proofs.Seated.{rises_seats}
use Rattle.source_rows.proofs.table.Table.first_awake.Goals as goal

pub first_awake-requires : goal.first_awake-requires
first_awake-requires c = rises_seats c.self.inside.slots c.self.inside.keys c.self.inside.seats c.self.invariant.filled.table c.self.invariant.seated

pub returns : goal.returns
returns c =
    let e : c.first_awake.result ≡ first_awake c.args.after c.args.sight.now c.self.inside.seats.0 = search rules in
    e ∙ (ap (first_awake c.args.after c.args.sight.now) c.self.invariant.seated.are ∙ ap (λ (l : List Row). first_awake c.args.after c.args.sight.now (in_seats l)) c.self.view_is)
