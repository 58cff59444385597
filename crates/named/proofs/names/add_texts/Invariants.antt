-- what was added, and what is left
use Rattle.std.proofs.Common.{◌≡◌, drop}
use Rattle.json.specs.Value.{items_view}
use Rattle.named.specs.Names.{all_added, texts_of}
use Rattle.named.specs.Views.{texts}
use Rattle.named.proofs.names.add_texts.Given as goal

abbrev pub invariant-loop-item : goal.invariant-loop-item
invariant-loop-item l = all_added l.limit (texts l.names.items) (texts_of (items_view (drop l.item-index l.items))) ≡ all_added l.limit (texts l.initial.names.items) (texts_of (items_view l.items))
