use Rattle.std.proofs.Common.{rules}
use Rattle.std.proofs.lemmas.List.Sorted.{IsNonDecreasingBy-from_sort_by_key}
use Rattle.lane_turn.specs.Lane.{State}
use Rattle.tick_stepper.proofs.share.in_order.Goals as goal

pub returns-clause-order : goal.returns-clause-order
returns-clause-order c = IsNonDecreasingBy-from_sort_by_key (λ (s : State). s.lane.number) _ c.in_ok-sort_by_key.ensures.sorted (λ a r f' k. search rules)
