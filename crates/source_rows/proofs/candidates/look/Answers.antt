use Rattle.std.proofs.Common.{◌≡◌, ◌∷◌, ◌||◌, not, Some, true, ap, sym, ◌∙◌, subst, rules}
use Rattle.std.specs.Option.{option_copied}
use Rattle.source_rows.specs.Rows.{row_of}
use Rattle.cancel_view.specs.Marks.{opening}
use Rattle.source_rows.specs.Candidates.{sleeps}
use Rattle.source_rows.specs.Steps.{HasLeft, is_above_id, ready_in}
use Rattle.source_rows.proofs.Walked.{own_row, may, ready_more, told, passed}
use Rattle.source_rows.proofs.candidates.look.Goals as goal

pub returns-in-Some-found-clause-tells : goal.returns-in-Some-found-clause-tells
returns-in-Some-found-clause-tells c =
    let rows = c.args.table.now in
    let last = option_copied c.args.last in
    let row = c.in-Some-found.row.now in
    let seat = c.in-Some.seat.now in
    let is : row_of seat.id rows ≡ Some row = search rules in
    let e : c.near.seats ≡ seat ∷ c.next.new.self = search rules in
    let left : HasLeft rows c.args.sight.now last (seat ∷ c.next.new.self) = subst (HasLeft rows c.args.sight.now last) e c.near.invariant.2 in
    let by_seat : (not (sleeps c.args.sight.now (opening seat.mark) seat.due) || is_above_id last seat.id) ≡ true = search rules in
    c.near.invariant.3 ∙ (ap (ready_in c.args.sight.now rows) e
    ∙ ready_more rows c.args.sight.now row seat c.next.new.self is (may rows c.args.sight.now last c.requires.step row (own_row rows seat.id row is) (sym (told rows c.args.sight.now last seat row left.are.0 is) ∙ by_seat)))

pub near-preserved : goal.near-preserved
near-preserved c =
    let d = passed c.args.table.now c.args.sight.now (option_copied c.args.last) c.requires.step c.in-Some.seat.now c.near.seats c.next.new.self c.near.invariant.2 c.in-Some.ensures.steps (sym c.comes_by.ensures ∙ c.if-comes_by.false) in
    (tt, tt, d.0, c.near.invariant.3 ∙ d.1)
