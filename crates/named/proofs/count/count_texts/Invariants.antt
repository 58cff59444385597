-- those before were counted, and are no more than the items
use Rattle.std.proofs.Common.{◌≡◌, ◌≤◌, ◌+◌, drop, length}
use Rattle.json.specs.Value.{items_view}
use Rattle.named.specs.Names.{texts_of}
use Rattle.named.proofs.count.count_texts.Given as goal

abbrev pub invariant-loop-item : goal.invariant-loop-item
invariant-loop-item l = record {
  counted : l.count + length (texts_of (items_view (drop l.item-index l.items))) ≡ length (texts_of (items_view l.items));
  within : l.count ≤ l.item-index;
}
