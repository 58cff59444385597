use Rattle.std.proofs.Common.{◌≡◌, ◌∷◌, [], Some, None, map, ap, sym, ◌∙◌, subst, rules}
use Rattle.std.specs.List.{find}
use Rattle.std.specs.Option.{option_copied}
use Rattle.source_rows.specs.Rows.{Key, in_order}
use Rattle.source_rows.specs.Seats.{seat_of}
use Rattle.source_rows.specs.Walk.{rows_behind}
use Rattle.source_rows.specs.Steps.{HasLeft, IsStep, comes, left_of, ready_in}
use Rattle.source_rows.proofs.Steps.{left_more, left_none, stepped}
use Rattle.source_rows.proofs.Walked.{advanced, entered}
use Rattle.source_rows.proofs.candidates.advance.Goals as goal

pub returns-in_err-row-in-Sleep-clause-none : goal.returns-in_err-row-in-Sleep-clause-none
returns-in_err-row-in-Sleep-clause-none c =
    let e : find (comes c.args.sight.now c.args.table.now (option_copied c.args.last)) (in_order c.args.table.now) ≡ None = search rules in
    let none : left_of c.args.sight.now c.args.table.now (option_copied c.args.last) ≡ [] = left_none (comes c.args.sight.now c.args.table.now (option_copied c.args.last)) (in_order c.args.table.now) e in
    search rules

came : (c : goal.In-Came) → HasLeft c.args.table.now c.args.sight.now (Some c.in-Came.row.now) c.look.new.seats × IsStep c.args.table.now c.args.sight.now (Some c.in-Came.row.now)
came c =
    advanced c.args.table.now c.args.sight.now (option_copied c.args.last) c.requires.step c.in-Came.row.now c.args.seats.now c.look.new.seats c.requires.left c.in-Came.ensures.tells c.in-Came.ensures.found c.in-Came.ensures.are

pub returns-in-Came-clause-some : goal.returns-in-Came-clause-some
returns-in-Came-clause-some c =
    let more : ready_in c.args.sight.now c.args.table.now c.args.seats.now ≡ c.in-Came.row.now ∷ ready_in c.args.sight.now c.args.table.now c.look.new.seats = c.in-Came.ensures.tells in
    let rest : ready_in c.args.sight.now c.args.table.now c.look.new.seats ≡ left_of c.args.sight.now c.args.table.now (Some c.in-Came.row.now) = (came c).0.ready in
    sym c.requires.left.ready ∙ rw (sym rest) more

pub returns-in-Came-clause-walks : goal.returns-in-Came-clause-walks
returns-in-Came-clause-walks c = record { step = (came c).1; left = (came c).0 }

pub returns-in_ok-row-in-Sleep-clause-some : goal.returns-in_ok-row-in-Sleep-clause-some
returns-in_ok-row-in-Sleep-clause-some c =
    let e : find (comes c.args.sight.now c.args.table.now (option_copied c.args.last)) (in_order c.args.table.now) ≡ Some c.in_ok-row-in-Sleep.row.now = search rules in
    left_more c.args.table.now c.args.sight.now (option_copied c.args.last) c.in_ok-row-in-Sleep.row.now c.requires.step.apart e

pub returns-in_ok-row-in-Sleep-clause-walks : goal.returns-in_ok-row-in-Sleep-clause-walks
returns-in_ok-row-in-Sleep-clause-walks c =
    let row = c.in_ok-row-in-Sleep.row.now in
    let e : find (comes c.args.sight.now c.args.table.now (option_copied c.args.last)) (in_order c.args.table.now) ≡ Some row = search rules in
    let step = stepped c.args.table.now c.args.sight.now (option_copied c.args.last) row c.requires.step e in
    record {
      step = step;
      left = subst (HasLeft c.args.table.now c.args.sight.now (Some row)) (sym (c.walk.ensures ∙ ap (λ (k : Key). map seat_of (rows_behind (Some k) c.args.table.now)) c.key.ensures)) (entered c.args.table.now c.args.sight.now (Some row) step);
    }

pub walk-requires : goal.walk-requires
walk-requires c = c.requires.step.apart
