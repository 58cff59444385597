use Rattle.lane_turn.proofs.Traced.{of_tick, turn_grows, handover_grows, delivery_grows, run_before}
use Rattle.lane_turn.proofs.laws.traces_grow.Goals as goal

pub returns : goal.returns
returns c = record { steps = of_tick; turns = turn_grows; handovers = handover_grows; deliveries = delivery_grows; run = run_before }
