-- what was found, and what is left
use Rattle.std.proofs.Common.{◌≡◌, ◌++◌, drop, map}
use Rattle.json.specs.Value.{value_view}
use Rattle.named.specs.Pieces.{field_pieces}
use Rattle.named.specs.Views.{piece_view}
use Rattle.named.proofs.piece.push_fields.Given as goal

abbrev pub invariant-loop-field : goal.invariant-loop-field
invariant-loop-field l = map piece_view l.found.items ++ field_pieces (drop l.field-index l.fields) (value_view l.value) ≡ map piece_view l.initial.found.items ++ field_pieces l.fields (value_view l.value)
