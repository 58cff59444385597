-- A level by those below it.
use Rattle.std.proofs.Common.{◌≡◌, ◌-◌, ℕ, zero, suc, [], ◌∷◌, refl, ap, arith}
use Rattle.json.specs.Json.{Json}
use Rattle.json.specs.Token as token
use Rattle.named.specs.Names.{Names}
use Rattle.named.specs.Pieces.{pieces}
use Rattle.named.specs.Written.{filled, together, written}
use Rattle.named.specs.declared.sort.Sort.{Sort}

pub written_none : (n : ℕ) (ns : Names) (s : Sort) (j : Json) → n ≡ 0 → written n ns s j ≡ token.null ∷ []
unfolding written
written_none n ns s j e = ap (λ m. written m ns s j) e

pub written_step : (n : ℕ) (ns : Names) (s : Sort) (j : Json) → (n ≡ 0 → ⊥) → written n ns s j ≡ together (filled (written (n - 1) ns)) (pieces s ns j)
unfolding written
written_step zero ns s j h = absurd (h refl)
written_step (suc n) ns s j h =
    let e : n ≡ suc n - 1 = omega arith in
    ap (λ m. together (filled (written m ns)) (pieces s ns j)) e
