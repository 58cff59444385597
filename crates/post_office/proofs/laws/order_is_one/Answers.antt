use Rattle.post_office.proofs.Sorted.{order_is_one}
use Rattle.post_office.proofs.laws.order_is_one.Goals as goal

pub returns : goal.returns
returns c = order_is_one
