-- Which lane a script gives a context.
use Rattle.std.proofs.Common.{◌≡◌, ℕ, zero, suc, ◌+◌, ◌-◌, ◌<◌, ◌≤◌, Bool, true, false, cond, List, [], ◌∷◌, ◌++◌, length, refl, arith, sum_by, ltb-false}
use Rattle.std.specs.Prelude.{unwrap_or, slice_get, nat_lt}
use Rattle.std.proofs.lemmas.List.Sums.{sum_by-cons}
use Rattle.loop_script.specs.declared.plan.LaneSpec.{LaneSpec}
use Rattle.loop_script.specs.Parts.{home_in}
use Rattle.lane_turn.specs.Turn.{open_loops}

home_by : (number : ℕ) (lane : LaneSpec) (lanes : List LaneSpec) (c : ℕ) (b : Bool) → nat_lt c lane.contexts ≡ b → (lane.contexts ≤ c → home_in (number + 1) lanes (c - lane.contexts) < number + 1 + length lanes)
    → cond b number (home_in (number + 1) lanes (c - lane.contexts)) < number + length (lane ∷ lanes)
home_by number lane lanes c true e f = omega arith
home_by number lane lanes c false e f = omega (arith, f (ltb-false c lane.contexts e))

pub home_within : (number : ℕ) (lanes : List LaneSpec) (c : ℕ) → c < sum_by (λ l. l.contexts) lanes → home_in number lanes c < number + length lanes
home_within number [] c h = absurd (omega (arith, h))
home_within number (lane ∷ lanes) c h =
    let sum = sum_by-cons (λ (l : LaneSpec). l.contexts) lane lanes in
    home_by number lane lanes c (nat_lt c lane.contexts) refl (λ le. home_within (number + 1) lanes (c - lane.contexts) (omega (arith, h, sum, le)))

-- at first nothing is given
pub none_open : (n c : ℕ) → unwrap_or (slice_get (open_loops n) c) false ≡ false
none_open zero c = refl
none_open (suc n) c = none_pushed (open_loops n) c (λ i. none_open n i)
  where
    none_pushed : (bs : List Bool) (c : ℕ) → ((i : ℕ) → unwrap_or (slice_get bs i) false ≡ false) → unwrap_or (slice_get (bs ++ false ∷ []) c) false ≡ false
    none_pushed [] zero h = refl
    none_pushed [] (suc c) h = refl
    none_pushed (b ∷ bs) zero h = h zero
    none_pushed (b ∷ bs) (suc c) h = none_pushed bs c (λ i. h (suc i))
