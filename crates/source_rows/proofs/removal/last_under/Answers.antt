use Rattle.std.proofs.Common.{rules, ◌≡◌, false}
use Rattle.source_rows.specs.Rows.{is_under}
use Rattle.source_rows.proofs.Taken.{last_not_under, none_up_to}
use Rattle.source_rows.proofs.removal.last_under.Goals as goal

pub returns-in_default-clause-none : goal.returns-in_default-clause-none
returns-in_default-clause-none c = none_up_to c.args.id c.args.key c.args.table.now c.requires.near c.in_default.ensures.none

pub returns-then-not-contains-clause-none : goal.returns-then-not-contains-clause-none
returns-then-not-contains-clause-none c =
    let not_under : is_under c.args.id c.in-Some.row.now ≡ false = search rules in
    last_not_under c.args.id c.args.key c.args.table.now c.in-Some.row.now c.requires.near c.in-Some.ensures.some not_under
