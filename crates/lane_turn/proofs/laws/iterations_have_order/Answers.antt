use Rattle.lane_turn.proofs.Selected.{once_run, order_run}
use Rattle.lane_turn.proofs.laws.iterations_have_order.Goals as goal

pub returns : goal.returns
returns c = record { once = once_run; order = order_run }
