use Rattle.std.proofs.Common.{rules, ℕ, List, map, subst}
use Rattle.std.specs.Prelude.{IsPermutation}
use Rattle.std.proofs.lemmas.List.Sorted.{IsPermutation-map, IsNonDecreasingBy-from_sort_by_key}
use Rattle.script_report.specs.declared.order.Placed.{Placed}
use Rattle.script_report.proofs.order.in_order.Goals as goal

pub returns-clause-all : goal.returns-clause-all
returns-clause-all c =
    subst (λ (ns : List ℕ). IsPermutation ns (map (λ (one : Placed). one.fault) c.sort_by_key.new.self.items)) c.in_ok-placed.ensures
    (IsPermutation-map (λ (one : Placed). one.fault) c.in_ok-placed.placed.items c.sort_by_key.new.self.items c.in_ok-sort_by_key.ensures.permutation)

pub returns-clause-order : goal.returns-clause-order
returns-clause-order c = IsNonDecreasingBy-from_sort_by_key (λ (one : Placed). one.span.start) _ c.in_ok-sort_by_key.ensures.sorted (λ a r f' k. search rules)
