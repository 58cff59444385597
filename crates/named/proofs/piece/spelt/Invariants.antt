-- none of those before
use Rattle.std.proofs.Common.{◌≡◌, drop}
use Rattle.named.specs.Pieces.{spelt}
use Rattle.named.proofs.piece.spelt.Given as goal

abbrev pub invariant-loop-word : goal.invariant-loop-word
invariant-loop-word l = spelt (drop l.word-index l.words) l.text ≡ spelt l.words l.text
