-- A turn by its steps: any number of steps that is large enough gives the same.
use Rattle.std.proofs.Common.{◌≡◌, ℕ, zero, suc, ◌<◌, ◌≤◌, ◌≢◌, Bool, true, false, Option, Some, None, is_some, unwrap_or, refl, ap, sym, ◌∙◌, arith, subst}
use Rattle.std.specs.Option.{option_map_or}
use Rattle.loop_script.specs.declared.plan.Plan.{Plan}
use Rattle.lane_turn.specs.Lane.{Turn}
use Rattle.lane_turn.specs.declared.lane.Status.{Status}
use Rattle.lane_turn.specs.declared.lane.Status.TheVariants.{GoesOn, Ended, Halted}
use Rattle.lane_turn.specs.Step.{step, step_going}
use Rattle.lane_turn.specs.Turn.{work, stepped, finish, finished}
use Rattle.lane_turn.specs.Sound.{IsSound}
use Rattle.lane_turn.proofs.Steps.{Goes, goes}

-- a lane that has ended or is halted has no step
pub no_step : (script : Plan) (tick : ℕ) (t : Turn) (status : Status) → status ≢ GoesOn → is_some (step_going script tick t status) ≡ true → ⊥
no_step script tick t GoesOn over some = over refl
no_step script tick t Ended over some = cc
no_step script tick t Halted over some = cc

-- where no step is left, steps change nothing
pub fixed : (script : Plan) (tick : ℕ) (t : Turn) → step script tick t ≡ None → (k : ℕ) → finish script tick k t ≡ t
unfolding finish
fixed script tick t e zero = refl
fixed script tick t e (suc k) = ap (λ (o : Option Turn). option_map_or (finish script tick k) o t) e

-- and else the first of them is taken
pub one_taken : (script : Plan) (tick : ℕ) (t u : Turn) → step script tick t ≡ Some u → (k : ℕ) → finish script tick (suc k) t ≡ finish script tick k u
unfolding finish
one_taken script tick t u e k = ap (λ (o : Option Turn). option_map_or (finish script tick k) o t) e

pub finish_none : (script : Plan) (tick : ℕ) (t : Turn) → finish script tick zero t ≡ t
unfolding finish
finish_none script tick t = refl

none_left : (script : Plan) (tick : ℕ) (t : Turn) (o : Option Turn) → step script tick t ≡ o → work t ≤ 0 → step script tick t ≡ None
none_left script tick t None e h = e
none_left script tick t (Some u) e h = let w : work u < work t = (goes script 0 tick t u e).falls in absurd (omega arith)

-- the step that is taken
next_is : (script : Plan) (tick : ℕ) (t u : Turn) → step script tick t ≡ Some u → u ≡ stepped script tick t
next_is script tick t u e = sym (ap (λ (o : Option Turn). unwrap_or o t) e)

next_goes : (script : Plan) (n tick : ℕ) (t u : Turn) → step script tick t ≡ Some u → Goes n t (stepped script tick t)
next_goes script n tick t u e = subst (Goes n t) (next_is script tick t u e) (goes script n tick t u e)

more : (script : Plan) (tick n m : ℕ) (t : Turn) (o : Option Turn) → step script tick t ≡ o → work t ≤ suc n → work t ≤ suc m
    → ((u : Turn) → work u ≤ n → work u ≤ m → finish script tick n u ≡ finish script tick m u)
    → finish script tick (suc n) t ≡ finish script tick (suc m) t
more script tick n m t None e a b k = fixed script tick t e (suc n) ∙ sym (fixed script tick t e (suc m))
more script tick n m t (Some u) e a b k =
    let w : work u < work t = (goes script 0 tick t u e).falls in
    one_taken script tick t u e n ∙ (k u (omega arith) (omega arith) ∙ sym (one_taken script tick t u e m))

-- any number of steps that is large enough gives the same
pub enough : (script : Plan) (tick n m : ℕ) (t : Turn) → work t ≤ n → work t ≤ m → finish script tick n t ≡ finish script tick m t
enough script tick zero m t a b = finish_none script tick t ∙ sym (fixed script tick t (none_left script tick t _ refl a) m)
enough script tick (suc n) zero t a b = fixed script tick t (none_left script tick t _ refl b) (suc n) ∙ sym (finish_none script tick t)
enough script tick (suc n) (suc m) t a b =
    more script tick n m t (step script tick t) refl a b (λ u c d. enough script tick n m u c d)

one_less : (script : Plan) (tick w : ℕ) (t u : Turn) → step script tick t ≡ Some u → work u < w → finish script tick w t ≡ finish script tick (work u) u
one_less script tick zero t u e h = absurd (omega arith)
one_less script tick (suc w) t u e h = one_taken script tick t u e w ∙ enough script tick w (work u) u (omega arith) (omega arith)

some_of : (o : Option Turn) → is_some o ≡ true → (u : Turn) × (o ≡ Some u)
some_of (Some u) h = (u, refl)
some_of None h = cc

none_of : (o : Option Turn) → is_some o ≡ false → o ≡ None
none_of None h = refl
none_of (Some u) h = cc

-- a step that is taken falls in work, keeps what is sound, and leads to the same end
pub taken : (script : Plan) (n tick : ℕ) (t : Turn) → is_some (step script tick t) ≡ true → Goes n t (stepped script tick t)
taken script n tick t h = let u = some_of (step script tick t) h in next_goes script n tick t u.0 u.1

pub finished_on : (script : Plan) (tick : ℕ) (t : Turn) → is_some (step script tick t) ≡ true → finished script tick (stepped script tick t) ≡ finished script tick t
unfolding finished
finished_on script tick t h =
    let u = some_of (step script tick t) h in
    ap (λ (v : Turn). finish script tick (work v) v) (sym (next_is script tick t u.0 u.1))
    ∙ sym (one_less script tick (work t) t u.0 u.1 (goes script 0 tick t u.0 u.1).falls)

-- a turn with no step left is finished
pub finished_now : (script : Plan) (tick : ℕ) (t : Turn) → is_some (step script tick t) ≡ false → finished script tick t ≡ t
unfolding finished
finished_now script tick t h = fixed script tick t (none_of (step script tick t) h) (work t)

pub stepped_now : (script : Plan) (tick : ℕ) (t : Turn) → is_some (step script tick t) ≡ false → stepped script tick t ≡ t
stepped_now script tick t h = ap (λ (o : Option Turn). unwrap_or o t) (none_of (step script tick t) h)

-- a step, or none where none is left, leads to the same end
pub finished_same : (script : Plan) (tick : ℕ) (t : Turn) → finished script tick (stepped script tick t) ≡ finished script tick t
finished_same script tick t = by_more (is_some (step script tick t)) refl
  where
    by_more : (b : Bool) → is_some (step script tick t) ≡ b → finished script tick (stepped script tick t) ≡ finished script tick t
    by_more true e = finished_on script tick t e
    by_more false e = ap (finished script tick) (stepped_now script tick t e)

sound_on : (script : Plan) (n tick k : ℕ) (t : Turn) (o : Option Turn) → step script tick t ≡ o → IsSound n t → ((u : Turn) → IsSound n u → IsSound n (finish script tick k u)) → IsSound n (finish script tick (suc k) t)
sound_on script n tick k t None e s f = subst (IsSound n) (sym (fixed script tick t e (suc k))) s
sound_on script n tick k t (Some u) e s f = subst (IsSound n) (sym (one_taken script tick t u e k)) (f u ((goes script n tick t u e).keeps s))

sound-finish : (script : Plan) (n tick k : ℕ) (t : Turn) → IsSound n t → IsSound n (finish script tick k t)
sound-finish script n tick zero t s = subst (IsSound n) (sym (finish_none script tick t)) s
sound-finish script n tick (suc k) t s = sound_on script n tick k t (step script tick t) refl s (λ u r. sound-finish script n tick k u r)

-- what is sound stays so over a turn
pub sound-finished : (script : Plan) (n tick : ℕ) (t : Turn) → IsSound n t → IsSound n (finished script tick t)
unfolding finished
sound-finished script n tick t s = sound-finish script n tick (work t) t s

-- where a number of steps is enough, no step is left after it
none_after : (script : Plan) (tick n : ℕ) (t : Turn) (o : Option Turn) → step script tick t ≡ o → work t ≤ suc n
    → ((u : Turn) → work u ≤ n → step script tick (finish script tick n u) ≡ None) → step script tick (finish script tick (suc n) t) ≡ None
none_after script tick n t None e h k = ap (step script tick) (fixed script tick t e (suc n)) ∙ e
none_after script tick n t (Some u) e h k =
    let w : work u < work t = (goes script 0 tick t u e).falls in
    ap (step script tick) (one_taken script tick t u e n) ∙ k u (omega arith)

no_step_after : (script : Plan) (tick n : ℕ) (t : Turn) → work t ≤ n → step script tick (finish script tick n t) ≡ None
no_step_after script tick zero t h = ap (step script tick) (finish_none script tick t) ∙ none_left script tick t _ refl h
no_step_after script tick (suc n) t h = none_after script tick n t (step script tick t) refl h (λ u k. no_step_after script tick n u k)

pub no_step_left : (script : Plan) (tick : ℕ) (t : Turn) → step script tick (finished script tick t) ≡ None
unfolding finished
no_step_left script tick t = no_step_after script tick (work t) t (omega arith)
