use Rattle.std.proofs.Common.{ap, sym, ◌∙◌}
use Rattle.source_rows.specs.Rows.{row_of}
use Rattle.source_rows.proofs.Slots.{row_is, at_key}
use Rattle.source_rows.proofs.table.Table.found.Goals as goal

pub returns-in-None : goal.returns-in-None
returns-in-None c =
    let e = c.slot_of.ensures in
    sym (ap (row_of c.args.id) (sym c.self.view_is) ∙ (row_is c.self.inside.slots c.args.id c.self.inside.keys c.self.invariant.filled.table.named
    ∙ ap (at_key c.self.inside.slots) (sym e ∙ c.in-None.is)))

pub returns-in-Some : goal.returns-in-Some
returns-in-Some c =
    let e = c.slot_of.ensures in
    c.get.ensures
    ∙ sym (ap (row_of c.args.id) (sym c.self.view_is) ∙ (row_is c.self.inside.slots c.args.id c.self.inside.keys c.self.invariant.filled.table.named
    ∙ ap (at_key c.self.inside.slots) (sym e ∙ c.in-Some.is)))
