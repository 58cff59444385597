-- Lanes that may take their turns.
use Rattle.std.proofs.Common.{◌≡◌, ℕ, zero, suc, ◌<◌, ◌^◌, false, List, [], ◌∷◌, length, get_or, sym, subst, arith}
use Rattle.std.specs.List.{AllByRecursion}
use Rattle.loop_script.specs.declared.plan.Plan.{Plan}
use Rattle.lane_turn.specs.Lane.{Lane, State}
use Rattle.lane_turn.specs.Sound.{IsReady}
use Rattle.tick_stepper.specs.Share.{unspent, IsReadyOne}
use Rattle.tick_stepper.proofs.Along.{stepped_to, one_is}

each_at : {X : Type 0} (P : X → Type 0) (i : ℕ) (xs : List X) (d : X) → AllByRecursion P xs → i < length xs → P (get_or xs i d)
each_at P i [] d a h = absurd (omega arith)
each_at P zero (x ∷ xs) d a h = a.0
each_at P (suc i) (x ∷ xs) d a h = each_at P i xs d a.1 (omega arith)

-- the next one, where those before it took a step
pub ready_here : (script : Plan) (tick i : ℕ) (step : State → State) (old now : List State) (d : State) → AllByRecursion (IsReadyOne script tick) old → now ≡ stepped_to step i old → i < length old → IsReady script tick (2 ^ 61) (get_or now i d).lane
ready_here script tick i step old now d ready e h =
    let there : IsReadyOne script tick (get_or old i d) = each_at (IsReadyOne script tick) i old d ready h in
    subst (λ (s : State). IsReady script tick (2 ^ 61) s.lane) (sym (one_is step i old now d e h)) there.ready

pub kept_is : (kept : State) (lane : Lane) → kept.lane ≡ lane → kept.spent ≡ false → kept ≡ unspent lane
kept_is kept lane e f = λ i. record { lane = e i; spent = f i }
