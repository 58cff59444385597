use Rattle.lane_turn.proofs.Rested.{no_step, step_polls, turn_polls, handover_rests, delivery_rests, run_over}
use Rattle.lane_turn.proofs.laws.ended_lanes_rest.Goals as goal

pub returns : goal.returns
returns c = record { none = no_step; steps = step_polls; turns = turn_polls; handovers = handover_rests; deliveries = delivery_rests; run = run_over }
