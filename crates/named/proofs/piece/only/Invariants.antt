-- none of those before
use Rattle.std.proofs.Common.{◌≡◌, drop}
use Rattle.json.specs.Value.{value_view}
use Rattle.named.specs.Pieces.{only}
use Rattle.named.proofs.piece.only.Given as goal

abbrev pub invariant-loop-n : goal.invariant-loop-n
invariant-loop-n l = only (drop l.n l.words) (value_view l.value) ≡ only l.words (value_view l.value)
