-- Each claim can be made, and each turn comes to its end.
use Rattle.std.proofs.Common.{◌≡◌, ℕ, zero, suc, ◌<◌, ◌≤◌, Option, Some, None, List, [], ◌∷◌, ◌++◌, length, map, set, replicate, refl, sym, ap, ◌∙◌, subst, arith}
use Rattle.std.specs.Prelude.{slice_get}
use Rattle.std.proofs.lemmas.List.{map-set, set-set}
use Rattle.loop_script.specs.declared.plan.Plan.{Plan}
use Rattle.post_office.specs.declared.letter.Letter.{Letter}
use Rattle.post_office.specs.Parts.{Work, claims, claim_of, all_claims}
use Rattle.lane_turn.specs.Lane.{Lane, Turn}
use Rattle.lane_turn.specs.Step.{step}
use Rattle.lane_turn.specs.Turn.{begun, work}
use Rattle.lane_turn.proofs.Steps.{goes}
use Rattle.tick_stepper.specs.Machine.{Worker, TickState, Move, Claim, Step, Done, takes, goes_on, lets_go, posted_by, gone_on, ended, claim, go_on, end, by_worker, moved, after, idle, opening, AreFree, taken_of, work_of}
use Rattle.tick_stepper.specs.Law.{ClaimsHappen}
use Rattle.tick_stepper.proofs.Deals.{all_at, all_set, within}
use Rattle.tick_stepper.proofs.Readings.{read_worker}

set_read : (ws : List Worker) (w : ℕ) (v : Worker) → w < length ws → slice_get (set ws w v) w ≡ Some v
set_read [] w v lt = absurd (omega arith)
set_read (x ∷ xs) zero v lt = refl
set_read (x ∷ xs) (suc w) v lt = set_read xs w v (omega arith)

unread : (ws : List Worker) (w : ℕ) → slice_get ws w ≡ None → slice_get (map (λ (v : Worker). v.taken) ws) w ≡ None
unread [] w e = refl
unread (v ∷ vs) zero e = cc
unread (v ∷ vs) (suc w) e = unread vs w e

-- the turns are over, and the work is as it was
record Rests (s s' : TickState) : Type 0 where
  waiting : s'.waiting ≡ s.waiting
  taken : taken_of s' ≡ taken_of s
  free : AreFree s'.workers

tick_of : List Lane → List Worker → List Letter → TickState
tick_of waiting ws office = record { waiting = waiting; workers = ws; office = office }

module _ (script : Plan) (tick : ℕ) where
  on_step : (lanes : List Lane) (ws : List Worker) (office : List Letter) (w : ℕ) (v : Worker) (t : Turn) (o : Option Turn) → w < length ws → v.held ≡ Some t → step script tick t ≡ o
      → moved script tick (tick_of lanes (set ws w v) office) (Step w) ≡ gone_on (tick_of lanes (set ws w v) office) w v t o
  unfolding tick_of
  on_step lanes ws office w v t o lt is e =
      let s : TickState = tick_of lanes (set ws w v) office in
      ap (by_worker script tick s (Step w)) (set_read ws w v lt) ∙ ap (go_on script tick s w v) is ∙ ap (gone_on s w v t) e

  on_done : (lanes : List Lane) (ws : List Worker) (office : List Letter) (w : ℕ) (v : Worker) (t : Turn) → w < length ws → v.held ≡ Some t → step script tick t ≡ None
      → moved script tick (tick_of lanes (set ws w v) office) (Done w) ≡ tick_of lanes (set ws w (lets_go v t)) office
  unfolding tick_of
  on_done lanes ws office w v t lt is e =
      let s : TickState = tick_of lanes (set ws w v) office in
      ap (by_worker script tick s (Done w)) (set_read ws w v lt) ∙ ap (end script tick s w v) is ∙ ap (ended s w v t) e ∙ ap (λ (l : List Worker). tick_of lanes l office) (set-set ws w v (lets_go v t))

  module _ (lanes : List Lane) (ws : List Worker) (w : ℕ) (lt : w < length ws) (free : AreFree ws) where
    turn_by : (n : ℕ) (office : List Letter) (v : Worker) (t : Turn) (o : Option Turn) → v.held ≡ Some t → step script tick t ≡ o → work t ≤ n
        → ((office : List Letter) (v : Worker) (t : Turn) → v.held ≡ Some t → suc (work t) ≤ n → (moves : List Move) × Rests (tick_of lanes (set ws w v) office) (after script tick moves (tick_of lanes (set ws w v) office)))
        → (moves : List Move) × Rests (tick_of lanes (set ws w v) office) (after script tick moves (tick_of lanes (set ws w v) office))
    unfolding tick_of
    turn_by n office v t None is e le k = (
      Done w ∷ [],
      subst (Rests (tick_of lanes (set ws w v) office)) (sym (on_done lanes ws office w v t lt is e)) (record {
        waiting = refl;
        taken = map-set (λ (v : Worker). v.taken) ws w (lets_go v t) ∙ sym (map-set (λ (v : Worker). v.taken) ws w v);
        free = all_set (λ v. v.held ≡ None) ws w (lets_go v t) free refl;
      }),
    )
    turn_by n office v t (Some u) is e le k =
        let falls : work u < work t = (goes script 0 tick t u e).falls in
        let next : Worker = goes_on v t u in
        let there : TickState = tick_of lanes (set ws w next) (office ++ posted_by t u) in
        let r = k (office ++ posted_by t u) next u refl (omega arith) in
        let to : moved script tick (tick_of lanes (set ws w v) office) (Step w) ≡ there = on_step lanes ws office w v t (Some u) lt is e ∙ ap (λ (l : List Worker). tick_of lanes l (office ++ posted_by t u)) (set-set ws w v next) in
        let rests : Rests (tick_of lanes (set ws w v) office) (after script tick r.0 there) = record {
          waiting = r.1.waiting;
          taken = r.1.taken ∙ map-set (λ (v : Worker). v.taken) ws w next ∙ sym (map-set (λ (v : Worker). v.taken) ws w v);
          free = r.1.free;
        } in
        (Step w ∷ r.0, subst (λ (s : TickState). Rests (tick_of lanes (set ws w v) office) (after script tick r.0 s)) (sym to) rests)

    turn_over : (n : ℕ) (office : List Letter) (v : Worker) (t : Turn) → v.held ≡ Some t → work t ≤ n → (moves : List Move) × Rests (tick_of lanes (set ws w v) office) (after script tick moves (tick_of lanes (set ws w v) office))
    turn_over zero office v t is le = turn_by zero office v t (step script tick t) is refl le (λ office v t is less. absurd (omega arith))
    turn_over (suc n) office v t is le = turn_by (suc n) office v t (step script tick t) is refl le (λ office v t is less. turn_over n office v t is (omega arith))

  -- what one claim leads to
  record Goes (w : ℕ) (s s' : TickState) : Type 0 where
    part : work_of s' ≡ claims w 0 (work_of s)
    free : AreFree s'.workers

  claim_by : (lane : Lane) (lanes : List Lane) (ws : List Worker) (office : List Letter) (w : ℕ) (o : Option Worker) → AreFree ws → slice_get ws w ≡ o
      → (moves : List Move) × Goes w (tick_of (lane ∷ lanes) ws office) (after script tick moves (tick_of (lane ∷ lanes) ws office))
  unfolding tick_of
  claim_by lane lanes ws office w None free e = ([], record { part = ap (λ (o : Option (List Lane)). claim_of w 0 (work_of (tick_of (lane ∷ lanes) ws office)) o (Some lane)) (sym (unread ws w e)); free = free })
  claim_by lane lanes ws office w (Some v) free e =
      let s : TickState = tick_of (lane ∷ lanes) ws office in
      let unheld : v.held ≡ None = all_at (λ v. v.held ≡ None) ws w v free e in
      let there : TickState = tick_of lanes (set ws w (takes tick v lane)) office in
      let to : moved script tick s (Claim w 0) ≡ there = ap (by_worker script tick s (Claim w 0)) e ∙ ap (claim tick s w 0 v) unheld in
      let r = turn_over lanes ws w (within ws w v e) free (work (begun tick lane)) office (takes tick v lane) (begun tick lane) refl (omega arith) in
      let taken : taken_of (after script tick r.0 there) ≡ set (taken_of s) w (v.taken ++ lane ∷ []) = r.1.taken ∙ map-set (λ (v : Worker). v.taken) ws w (takes tick v lane) in
      let part : work_of (after script tick r.0 there) ≡ claims w 0 (work_of s) = (λ i. record { waiting = r.1.waiting i; taken = taken i }) ∙ ap (λ (o : Option (List Lane)). claim_of w 0 (work_of s) o (Some lane)) (sym (read_worker (λ (v : Worker). v.taken) ws w v e)) in
      (Claim w 0 ∷ r.0, subst (λ (q : TickState). Goes w s (after script tick r.0 q)) (sym to) (record { part = part; free = r.1.free }))

  nothing_waits : (w : ℕ) (work : Work Lane) (o : Option (List Lane)) → claim_of w 0 work o None ≡ work
  nothing_waits w work None = refl
  nothing_waits w work (Some l) = refl

  one_claim : (lanes : List Lane) (ws : List Worker) (office : List Letter) (w : ℕ) → AreFree ws → (moves : List Move) × Goes w (tick_of lanes ws office) (after script tick moves (tick_of lanes ws office))
  unfolding tick_of
  one_claim [] ws office w free = ([], record { part = sym (nothing_waits w (work_of (tick_of [] ws office)) (slice_get (taken_of (tick_of [] ws office)) w)); free = free })
  one_claim (lane ∷ lanes) ws office w free = claim_by lane lanes ws office w (slice_get ws w) free refl

  after_both : (moves fs : List Move) (s : TickState) → after script tick (moves ++ fs) s ≡ after script tick fs (after script tick moves s)
  after_both [] fs s = refl
  after_both (e ∷ moves) fs s = after_both moves fs (moved script tick s e)

  claims_go : (who : List ℕ) (s : TickState) → AreFree s.workers → (moves : List Move) × (let s' = after script tick moves s in (work_of s' ≡ all_claims who (work_of s)) × AreFree s'.workers)
  unfolding tick_of
  claims_go [] s free = ([], (refl, free))
  claims_go (w ∷ ws) s free =
      let one = one_claim s.waiting s.workers s.office w free in
      let s1 : TickState = after script tick one.0 s in
      let r = claims_go ws s1 one.1.free in
      (one.0 ++ r.0, subst (λ (q : TickState). (work_of q ≡ all_claims (w ∷ ws) (work_of s)) × AreFree q.workers) (sym (after_both one.0 r.0 s)) (r.1.0 ∙ ap (all_claims ws) one.1.part, r.1.1))

  none_held : (n : ℕ) → AreFree (replicate n idle)
  none_held zero = tt
  none_held (suc n) = (refl, none_held n)

  none_taken : (n : ℕ) → map (λ (v : Worker). v.taken) (replicate n idle) ≡ replicate n []
  none_taken zero = refl
  none_taken (suc n) = ap (λ l. [] ∷ l) (none_taken n)

pub claims_happen : ClaimsHappen
claims_happen script tick workers lanes who =
    let r = claims_go script tick who (opening workers lanes) (none_held script tick workers) in
    (r.0, (r.1.0 ∙ ap (λ (l : List (List Lane)). all_claims who (record { waiting = lanes; taken = l })) (none_taken script tick workers), r.1.1))
