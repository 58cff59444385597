use Rattle.std.proofs.Common.{◌≡◌, ◌<◌, ◌%◌, ℕ, arith}
use Rattle.source_rows.proofs.laws.marks_are_apart.Goals as goal

apart : (c d : ℕ) → c < 256 → d < 256 → c % 256 ≡ d % 256 → c ≡ d
apart c d lt lu same = omega arith

below : (c : ℕ) → c % 256 < 256
below c = omega arith

pub returns : goal.returns
returns c = record { apart = apart; below = below; two = omega arith; marks = omega arith }
