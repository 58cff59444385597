-- one level less at each value within; what was found, and what is left
use Rattle.std.proofs.Common.{◌≡◌, ◌++◌, ◌+◌, ◌*◌, [], ◌∷◌, List, drop, map}
use Rattle.named.specs.Faults.{Found, faults_in, together, within}
use Rattle.named.specs.Pieces.{Piece}
use Rattle.named.specs.Views.{names_of, step_view, piece_view, found_of}
use Rattle.named.proofs.check.+check.Given as goal

abbrev pub decreases-check : goal.decreases-check
decreases-check l = l.levels * 3

abbrev pub decreases-check_piece : goal.decreases-check_piece
decreases-check_piece l = l.levels * 3 + 1

abbrev pub decreases-check_each : goal.decreases-check_each
decreases-check_each l = l.levels * 3 + 2

abbrev pub invariant-check_each-loop-piece : goal.invariant-check_each-loop-piece
invariant-check_each-loop-piece l =
    let each : Piece → List Found = within (λ step. faults_in l.levels (names_of l.names) (map step_view l.initial.place.items ++ step ∷ [])) in
    record {
      found : map found_of l.faults.items ++ together each (map piece_view (drop l.piece-index l.pieces)) ≡ map found_of l.initial.faults.items ++ together each (map piece_view l.pieces);
      back : map step_view l.place.items ≡ map step_view l.initial.place.items;
    }
