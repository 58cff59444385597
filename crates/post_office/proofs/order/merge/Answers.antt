use Rattle.std.proofs.Common.{◌≡◌, rules}
use Rattle.std.proofs.lemmas.Fn.{always_returns_same}
use Rattle.post_office.proofs.Sorted.{place, in_order_of}
use Rattle.post_office.proofs.order.merge.Goals as goal

pub returns-clause-order : goal.returns-clause-order
returns-clause-order c =
    in_order_of _ (c.in_ok-sort_by_key.ensures.sorted place (always_returns_same _ (λ a r. r ≡ place a.0.now) _ (λ a r f' k. search rules)))
