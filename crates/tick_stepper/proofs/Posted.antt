-- What lanes that stand by number post stands by sender and number.
use Rattle.std.proofs.Common.{◌≡◌, ◌⊎◌, inl, inr, ℕ, ◌+◌, ◌<◌, ◌≤◌, false, List, [], ◌∷◌, ◌++◌, sym, ◌∙◌, subst, arith}
use Rattle.std.proofs.lemmas.Bool.Decides.{nat_tests}
use Rattle.std.specs.List.{AllByRecursion, IsDistinct}
use Rattle.loop_script.specs.declared.plan.Plan.{Plan}
use Rattle.post_office.specs.declared.letter.Letter.{Letter}
use Rattle.post_office.specs.Order.{MayPrecede, InOrder, same_place, AreApart}
use Rattle.lane_turn.specs.Lane.{Lane}
use Rattle.lane_turn.specs.Turn.{out_of}
use Rattle.lane_turn.specs.Letters.{AreNumbered}
use Rattle.lane_turn.specs.Tick.{posted_at}
use Rattle.lane_turn.proofs.Turns.{out_numbered}
use Rattle.tick_stepper.specs.Order.{ByNumber}
use Rattle.tick_stepper.proofs.Deals.{all_weaker}

-- ---- letters that rise

-- a letter at a place or after it
abbrev IsFrom : ℕ → ℕ → Letter → Type 0
IsFrom s n letter = (s < letter.sender) ⊎ ((letter.sender ≡ s) × (n ≤ letter.number))

-- each at a place or after it, and after the one before
abbrev RiseFrom : ℕ → ℕ → List Letter → Type 0
RiseFrom s n [] = Unit {0}
RiseFrom s n (letter ∷ letters) = IsFrom s n letter × RiseFrom letter.sender (letter.number + 1) letters

from_along : (s n : ℕ) (x y : Letter) → IsFrom s n x → IsFrom x.sender (x.number + 1) y → IsFrom s n y
from_along s n x y (inl p) (inl q) = inl (omega arith)
from_along s n x y (inl p) (inr q) = let same = q.0 in inl (omega arith)
from_along s n x y (inr p) (inl q) = let same = p.0 in inl (omega arith)
from_along s n x y (inr p) (inr q) = let some = p.1 in let more = q.1 in inr (q.0 ∙ p.0, omega arith)

all_from : (s n : ℕ) (letters : List Letter) → RiseFrom s n letters → AllByRecursion (IsFrom s n) letters
all_from s n [] r = tt
all_from s n (x ∷ letters) r = (
  r.0,
  all_weaker (IsFrom x.sender (x.number + 1)) (IsFrom s n) (λ y h. from_along s n x y r.0 h) letters (all_from x.sender (x.number + 1) letters r.1),
)

precedes : (x y : Letter) → IsFrom x.sender (x.number + 1) y → MayPrecede x y
precedes x y (inl p) = inl p
precedes x y (inr p) = let above = p.1 in inr (sym p.0, omega arith)

apart : (x y : Letter) → IsFrom x.sender (x.number + 1) y → same_place x y ≡ false
apart x y (inl p) = grind (arith, nat_tests)
apart x y (inr p) = let above = p.1 in grind (arith, nat_tests)

in_order : (s n : ℕ) (letters : List Letter) → RiseFrom s n letters → InOrder letters
in_order s n [] r = tt
in_order s n (x ∷ letters) r = (
  all_weaker (IsFrom x.sender (x.number + 1)) (MayPrecede x) (precedes x) letters (all_from x.sender (x.number + 1) letters r.1),
  in_order x.sender (x.number + 1) letters r.1,
)

are_apart : (s n : ℕ) (letters : List Letter) → RiseFrom s n letters → AreApart letters
unfolding IsDistinct
are_apart s n [] r = tt
are_apart s n (x ∷ letters) r = (
  all_weaker (IsFrom x.sender (x.number + 1)) (λ y. same_place x y ≡ false) (apart x) letters (all_from x.sender (x.number + 1) letters r.1),
  are_apart x.sender (x.number + 1) letters r.1,
)

-- ---- those of a tick do

-- from an earlier sender on
sooner : (s n m k : ℕ) (letters : List Letter) → s < m → RiseFrom m k letters → RiseFrom s n letters
sooner s n m k [] lt r = tt
sooner s n m k (x ∷ letters) lt r = (before r.0, r.1)
  where
    before : IsFrom m k x → IsFrom s n x
    before (inl p) = inl (omega arith)
    before (inr p) = let same = p.0 in inl (omega arith)

-- a sender's letters, and then those of later ones
numbered_then : (tick s n : ℕ) (letters rest : List Letter) → AreNumbered tick s n letters → ((k : ℕ) → RiseFrom s k rest) → RiseFrom s n (letters ++ rest)
numbered_then tick s n [] rest h r = r n
numbered_then tick s n (x ∷ letters) rest h r =
    let number = h.1.1.0 in
    let more = numbered_then tick s (n + 1) letters rest h.1.1.1 r in
    let P : ℕ → ℕ → Type 0 = λ a b. RiseFrom a (b + 1) (letters ++ rest) in
    (inr (h.1.0, omega arith), subst (λ a. P a x.number) (sym h.1.0) (subst (P s) (sym number) more))

-- lanes above a number
rise : (script : Plan) (tick n k : ℕ) (lanes : List Lane) → AllByRecursion (λ lane. n < lane.number) lanes → ByNumber lanes → RiseFrom n k (posted_at script tick lanes)
rise script tick n k [] above order = tt
rise script tick n k (lane ∷ lanes) above order =
    sooner n k lane.number 0 (posted_at script tick (lane ∷ lanes)) above.0
    (numbered_then tick lane.number 0 (out_of script tick lane) (posted_at script tick lanes) (out_numbered script tick lane) (λ k. rise script tick lane.number k lanes order.0 order.1))

posted_rise : (script : Plan) (tick : ℕ) (lane : Lane) (lanes : List Lane) → ByNumber (lane ∷ lanes) → RiseFrom lane.number 0 (posted_at script tick (lane ∷ lanes))
posted_rise script tick lane lanes order =
    numbered_then tick lane.number 0 (out_of script tick lane) (posted_at script tick lanes) (out_numbered script tick lane) (λ k. rise script tick lane.number k lanes order.0 order.1)

pub posted_in_order : (script : Plan) (tick : ℕ) (lanes : List Lane) → ByNumber lanes → InOrder (posted_at script tick lanes)
posted_in_order script tick [] order = tt
posted_in_order script tick (lane ∷ lanes) order = in_order lane.number 0 (posted_at script tick (lane ∷ lanes)) (posted_rise script tick lane lanes order)

pub posted_apart : (script : Plan) (tick : ℕ) (lanes : List Lane) → ByNumber lanes → AreApart (posted_at script tick lanes)
unfolding IsDistinct
posted_apart script tick [] order = tt
posted_apart script tick (lane ∷ lanes) order = are_apart lane.number 0 (posted_at script tick (lane ∷ lanes)) (posted_rise script tick lane lanes order)
