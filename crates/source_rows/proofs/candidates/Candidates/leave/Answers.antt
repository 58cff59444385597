use Rattle.std.proofs.Common.{◌≡◌, not, Some, filter, map, ap, sym, ◌∙◌, subst, rules}
use Rattle.std.specs.Option.{option_copied}
use Rattle.source_rows.specs.declared.row.Row.{Row}
use Rattle.source_rows.specs.Rows.{Key, is_under}
use Rattle.source_rows.specs.Seats.{seat_of}
use Rattle.source_rows.specs.Walk.{rows_behind}
use Rattle.source_rows.specs.Steps.{HasLeft, IsStep, above_at, left_of}
use Rattle.source_rows.proofs.LeftOut.{left_out}
use Rattle.source_rows.proofs.Walked.{entered}
use Rattle.source_rows.proofs.candidates.Candidates.leave.Goals as goal

step : (c : goal.After-self-2-1)
    → IsStep c.self.inside.table.now c.self.inside.sight (Some c.in-Some.row.now)
    × (left_of c.self.inside.sight c.self.inside.table.now (Some c.in-Some.row.now)
    ≡ filter (λ (r : Row). not (is_under c.args.id r)) (left_of c.self.inside.sight c.self.inside.table.now (option_copied c.self.inside.last)))
step c =
    let e : above_at c.self.inside.table.now (option_copied c.self.inside.last) c.args.id ≡ Some c.in-Some.row.now = search rules in
    left_out c.self.inside.table.now c.self.inside.sight (option_copied c.self.inside.last) c.in-Some.row.now c.args.id c.self.invariant.step e

pub invariant_of-self : goal.invariant_of-self
invariant_of-self c =
    let rows = c.self.inside.table.now in
    let row = c.in-Some.row.now in
    record {
      step = (step c).0;
      left = subst (HasLeft rows c.self.inside.sight (Some row)) (sym (c.walk-self-inside.ensures ∙ ap (λ (k : Key). map seat_of (rows_behind (Some k) rows)) c.key.ensures)) (entered rows c.self.inside.sight (Some row) (step c).0);
    }

pub returns-clause-left : goal.returns-clause-left
returns-clause-left c t = (step c).1 ∙ ap (filter (λ (r : Row). not (is_under c.args.id r))) c.self.view_is
