-- one level less at each value within; what was written, and what is left
use Rattle.std.proofs.Common.{◌≡◌, ◌++◌, ◌+◌, ◌*◌, List, drop, map}
use Rattle.json.specs.Token.{Token}
use Rattle.named.specs.Pieces.{Piece}
use Rattle.named.specs.Views.{names_of, piece_view}
use Rattle.named.specs.Written.{filled, together, written}
use Rattle.named.proofs.numbered.+write.Given as goal

abbrev pub decreases-write : goal.decreases-write
decreases-write l = l.levels * 3

abbrev pub decreases-write_piece : goal.decreases-write_piece
decreases-write_piece l = l.levels * 3 + 1

abbrev pub decreases-write_each : goal.decreases-write_each
decreases-write_each l = l.levels * 3 + 2

abbrev pub invariant-write_each-loop-piece : goal.invariant-write_each-loop-piece
invariant-write_each-loop-piece l =
    let each : Piece → List Token = filled (written l.levels (names_of l.names)) in
    record {
      wrote : l.writer.tokens ++ together each (map piece_view (drop l.piece-index l.pieces)) ≡ l.initial.writer.tokens ++ together each (map piece_view l.pieces);
      stays : l.writer.before ≡ l.initial.writer.before;
    }
