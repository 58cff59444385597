use Rattle.std.proofs.Common.{◌∙◌, ap, sym}
use Rattle.std.specs.Prelude.{bit_or}
use Rattle.cancel_view.specs.Marks.{opening}
use Rattle.source_rows.specs.declared.least.Least.{Least}
use Rattle.source_rows.specs.Seats.{lesser}
use Rattle.source_rows.proofs.SetIn.{least_between}
use Rattle.source_rows.proofs.least.least_over.Goals as goal

pub returns : goal.returns
returns c =
    let s = c.args.seat.now in
    c.note.ensures
    ∙ (ap (λ (l : Least). let m : Least = record { marks = bit_or l.marks (opening s.mark); due = lesser s.due l.due } in m) (c.add_least.ensures c.args.sooner.now.0 c.least-least.ensures)
    ∙ sym (least_between c.args.sooner.now.0 s c.args.later.now.0))
