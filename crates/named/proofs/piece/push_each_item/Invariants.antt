-- what was found, and what is left
use Rattle.std.proofs.Common.{◌≡◌, ◌++◌, drop, map}
use Rattle.json.specs.Value.{items_view}
use Rattle.named.specs.Pieces.{item_pieces}
use Rattle.named.specs.Views.{piece_view}
use Rattle.named.proofs.piece.push_each_item.Given as goal

abbrev pub invariant-loop-n : goal.invariant-loop-n
invariant-loop-n l = map piece_view l.found.items ++ item_pieces l.n l.sort (items_view (drop l.n l.items)) ≡ map piece_view l.initial.found.items ++ item_pieces 0 l.sort (items_view l.items)
