-- those before are names
use Rattle.std.proofs.Common.{◌≡◌, drop}
use Rattle.json.specs.Value.{items_view}
use Rattle.named.specs.Leaf.{names_among}
use Rattle.named.proofs.scalar.names_among.Given as goal

abbrev pub invariant-loop-item : goal.invariant-loop-item
invariant-loop-item l = names_among l.item-index (items_view (drop l.item-index l.items)) ≡ names_among 0 (items_view l.items)
