use Rattle.std.proofs.Common.{◌≡◌, ◌∙◌, Some, true, sym}
use Rattle.source_rows.specs.Rows.{row_of, is_under}
use Rattle.source_rows.proofs.Taken.{next, shorter, all_stay}
use Rattle.source_rows.proofs.removal.remove_under.Goals as goal

pub loop-row-smaller : goal.loop-row-smaller
loop-row-smaller c =
    let found : row_of c.in-Some.row.id c.loop-row.table ≡ Some c.in-Some.row = c.in-Some.ensures.some in
    rw c.remove.ensures (shorter c.in-Some.row.id c.in-Some.row c.loop-row.table found)

pub loop-row-preserved : goal.loop-row-preserved
loop-row-preserved c =
    let found : row_of c.in-Some.row.id c.loop-row.table ≡ Some c.in-Some.row = c.in-Some.ensures.some in
    let under : is_under c.args.id c.in-Some.row ≡ true = c.in-Some.ensures.under in
    rw c.remove.ensures (next c.args.id c.args.key c.loop-row.table c.args.table.now c.in-Some.row c.loop-row.invariant found under)

pub returns : goal.returns
returns c = sym (all_stay (is_under c.args.id) c.loop-row.table c.in_default.ensures.none) ∙ c.loop-row.invariant.left
