use Rattle.std.proofs.Common.{◌∙◌, ap, sym, subst, List}
use Rattle.source_rows.specs.declared.row.Row.{Row}
use Rattle.source_rows.specs.Kept.{AllApart}
use Rattle.source_rows.specs.Slots.{rows_at}
use Rattle.source_rows.specs.Walk.{behind_key, KeysRise}
use Rattle.source_rows.specs.Seats.{in_seats}
use Rattle.source_rows.proofs.Found.{keys_rise, walked}
use Rattle.source_rows.proofs.Seated.{rises_seats}
use Rattle.source_rows.proofs.table.Table.walk.Goals as goal

pub new-requires-clause-rises : goal.new-requires-clause-rises
new-requires-clause-rises c = rises_seats c.self.inside.slots c.self.inside.keys c.self.inside.seats c.self.invariant.filled.table c.self.invariant.seated

pub new-requires-clause-keys : goal.new-requires-clause-keys
new-requires-clause-keys c =
    let rows = rows_at c.self.inside.slots c.self.inside.keys in
    subst KeysRise (sym c.self.invariant.seated.are) (keys_rise rows (subst AllApart (sym c.self.view_is) c.requires))

pub returns : goal.returns
returns c =
    c.new.ensures ∙ (ap (behind_key c.args.after) c.self.invariant.seated.are
    ∙ (ap (λ (rows : List Row). behind_key c.args.after (in_seats rows)) c.self.view_is ∙ walked c.args.after c.args.self.now c.requires))
