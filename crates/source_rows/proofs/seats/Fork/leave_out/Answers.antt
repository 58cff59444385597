use Rattle.std.proofs.Common.{◌≡◌, ◌∙◌, true, ap, sym, subst, rules}
use Rattle.source_rows.specs.declared.seats.Fork.{Fork}
use Rattle.source_rows.specs.declared.least.Least.{Least}
use Rattle.source_rows.specs.Seats.{least_of, marks_of, without, AddsNone}
use Rattle.source_rows.specs.SeatTree.{seats_of}
use Rattle.source_rows.proofs.Ahead.{same_time}
use Rattle.source_rows.proofs.AllMarks.{marks_kept}
use Rattle.source_rows.proofs.Left.{leasts_stay}
use Rattle.source_rows.proofs.seats.Fork.leave_out.Goals as goal

pub returns-then-not-is_later : goal.returns-then-not-is_later
returns-then-not-is_later c = λ all least are.
    let f = c.args.self.now in
    let t = c.args.seat.now in
    let there : c.has_mark.result ≡ true = search rules in
    let adds : AddsNone t.mark (without t all) = subst (AddsNone t.mark) are (c.has_mark.ensures there) in
    let marks : f.least.marks ≡ marks_of (seats_of f) = ap (λ (l : Least). l.marks) least ∙ (sym (marks_kept same_time t all adds) ∙ ap marks_of (sym are)) in
    c.note_due.ensures.fork marks

pub returns-else-not-is_later : goal.returns-else-not-is_later
returns-else-not-is_later c = λ all least are.
    let f = c.args.self.now in
    let t = c.args.seat.now in
    let there : c.has_mark.result ≡ true = search rules in
    let adds : AddsNone t.mark (without t all) = subst (AddsNone t.mark) are (c.has_mark.ensures there) in
    let later : c.is_later.result ≡ true = search rules in
    let is : f.least ≡ least_of (seats_of f) = least ∙ (sym (leasts_stay t f.least all least adds (c.is_later.ensures later)) ∙ ap least_of (sym are)) in
    ap (λ (l : Least). let g : Fork = record f { least = l } in g) is
