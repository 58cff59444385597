use Rattle.std.proofs.Common.{refl}
use Rattle.lane_turn.proofs.Limited.{takes_action, takes_dispatch, left_falls, others_leave}
use Rattle.lane_turn.proofs.Turns.{tasks_few, letters_few}
use Rattle.lane_turn.proofs.laws.steps_are_limited.Goals as goal

pub returns : goal.returns
returns c = record { first = λ tick lane. refl; actions = takes_action; dispatches = takes_dispatch; others = others_leave; tasks = tasks_few; letters = letters_few; falls = left_falls }
