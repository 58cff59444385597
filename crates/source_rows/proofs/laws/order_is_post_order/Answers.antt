use Rattle.source_rows.proofs.Post.{one_tree, post_order, two_levels}
use Rattle.source_rows.proofs.laws.order_is_post_order.Goals as goal

pub returns : goal.returns
returns c = record { one = one_tree; post_order = post_order; two_levels = two_levels }
