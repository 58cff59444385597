-- What is refused of the script of numbers that bytes stand for is refused of all for which they stand.
use Rattle.std.proofs.Common.{◌≡◌, ℕ, false, List, subst}
use Rattle.named.specs.Answer.{StandsFor}
use Rattle.script_report.specs.Verdict.{Judges}

-- bytes stand for one script of numbers at most
pub stands_for_one : (bytes n m : List ℕ) → StandsFor bytes n → StandsFor bytes m → n ≡ m
stands_for_one bytes n m (j, u, d, s, f, p) (k, v, e, t, g, q) = cc

-- so what is so of that one is so of each for which they stand
pub all_refused : (bytes n : List ℕ) → StandsFor bytes n → Judges n false → (m : List ℕ) → StandsFor bytes m → Judges m false
all_refused bytes n s r m t = subst (λ x. Judges x false) (stands_for_one bytes n m s t) r
