use Rattle.std.proofs.Common.{◌≡◌, true, sym, rules}
use Rattle.std.specs.Ordering.{is_eq}
use Rattle.source_rows.specs.Rows.{key_cmp}
use Rattle.source_rows.proofs.Ahead.{one_key}
use Rattle.source_rows.proofs.seat_order.SeatOrder.replace.Goals as goal

pub set-requires-clause-key : goal.set-requires-clause-key
set-requires-clause-key c =
    let same : is_eq (key_cmp c.args.before.now.key c.args.after.now.key) ≡ true = search rules in
    sym (one_key c.args.before.now.key c.args.after.now.key same)
