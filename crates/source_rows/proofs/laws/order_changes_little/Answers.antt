use Rattle.source_rows.proofs.Order.{in_order-push, in_order-filter}
use Rattle.source_rows.proofs.laws.order_changes_little.Goals as goal

pub returns : goal.returns
returns c = record { push = in_order-push; filtered = in_order-filter }
