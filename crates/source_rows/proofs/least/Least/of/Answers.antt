use Rattle.std.proofs.Common.{◌∙◌, ℕ, ap}
use Rattle.std.specs.Prelude.{bit_or}
use Rattle.std.proofs.lemmas.Nat.{or_comm}
use Rattle.cancel_view.specs.Marks.{opening}
use Rattle.source_rows.specs.Candidates.{never}
use Rattle.source_rows.specs.declared.least.Least.{Least}
use Rattle.source_rows.specs.Seats.{lesser}
use Rattle.source_rows.proofs.least.Least.of.Goals as goal

pub returns : goal.returns
returns c =
    let s = c.args.seat.now in
    c.note.ensures
    ∙ (ap (λ (l : Least). let m : Least = record { marks = bit_or l.marks (opening s.mark); due = lesser s.due l.due } in m) c.none-least.ensures
    ∙ ap (λ (n : ℕ). let m : Least = record { marks = n; due = lesser s.due never } in m) (or_comm 0 (opening s.mark)))
