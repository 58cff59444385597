-- what was found, and what is left
use Rattle.std.proofs.Common.{◌≡◌, ◌++◌, drop, map}
use Rattle.json.specs.Value.{value_view}
use Rattle.named.specs.Pieces.{part_pieces}
use Rattle.named.specs.Views.{piece_view}
use Rattle.named.proofs.piece.push_parts.Given as goal

abbrev pub invariant-loop-part : goal.invariant-loop-part
invariant-loop-part l = map piece_view l.found.items ++ part_pieces (drop l.part-index l.parts) (value_view l.value) ≡ map piece_view l.initial.found.items ++ part_pieces l.parts (value_view l.value)
