use Rattle.std.proofs.Common.{rules}
use Rattle.std.proofs.lemmas.List.Sorted.{IsNonDecreasingBy-from_sort_by_key}
use Rattle.tick_stepper.specs.declared.known.Known.{Known}
use Rattle.tick_stepper.proofs.known.by_lane.Goals as goal

pub returns-clause-order : goal.returns-clause-order
returns-clause-order c = IsNonDecreasingBy-from_sort_by_key (λ (one : Known). one.lane.lane.number) _ c.in_ok-sort_by_key.ensures.sorted (λ a r f' k. search rules)
