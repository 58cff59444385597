-- Each move changes the work or the mail by a part.
use Rattle.std.proofs.Common.{◌≡◌, ℕ, Option, Some, None, List, [], ◌∷◌, ◌++◌, set, refl, sym, ap, ◌∙◌, subst, inl, inr, ⊎_elim, append-nil}
use Rattle.std.specs.Prelude.{slice_get}
use Rattle.std.proofs.lemmas.List.{map-set}
use Rattle.loop_script.specs.declared.plan.Plan.{Plan}
use Rattle.post_office.specs.declared.letter.Letter.{Letter}
use Rattle.lane_turn.specs.Lane.{Lane, Turn}
use Rattle.lane_turn.specs.Step.{step}
use Rattle.lane_turn.proofs.Sends.{step_tells}
use Rattle.post_office.specs.Parts.{without, claim_of, post_of}
use Rattle.tick_stepper.specs.Machine.{Worker, TickState, Move, Claim, Step, Done, posted_by, takes, goes_on, lets_go, claimed, gone_on, ended, claim, go_on, end, by_worker, worker_of, taken_of, posted_of, work_of, mail_of}
use Rattle.tick_stepper.specs.Law.{Changes, ChangesArePartial}
use Rattle.tick_stepper.proofs.Readings.{same_lists, read_worker}
use Rattle.tick_stepper.proofs.Turns.{posts_one}

module _ (script : Plan) (tick : ℕ) where
  claimed_changes : (s : TickState) (w n : ℕ) (v : Worker) (o : Option Lane) → slice_get s.workers w ≡ Some v → slice_get s.waiting n ≡ o → Changes (Claim w n) s (claimed tick s w n v o)
  claimed_changes s w n v None at e = (inl refl, refl)
  claimed_changes s w n v (Some lane) at e =
      let taken : taken_of (claimed tick s w n v (Some lane)) ≡ set (taken_of s) w (v.taken ++ lane ∷ []) = map-set (λ v. v.taken) s.workers w (takes tick v lane) in
      let posted : posted_of (claimed tick s w n v (Some lane)) ≡ posted_of s = same_lists (λ v. v.posted) s.workers w v (takes tick v lane) at refl in
      let work : work_of (claimed tick s w n v (Some lane)) ≡ claim_of w n (work_of s) (Some v.taken) (Some lane) = (λ i. record { waiting = without n s.waiting; taken = taken i }) in
      (inr (work ∙ (λ i. claim_of w n (work_of s) (sym (read_worker (λ v. v.taken) s.workers w v at) i) (sym e i))), λ i. record { posted = posted i; office = s.office })

  gone_on_changes : (s : TickState) (w : ℕ) (v : Worker) (t : Turn) (o : Option Turn) → slice_get s.workers w ≡ Some v → step script tick t ≡ o → Changes (Step w) s (gone_on s w v t o)
  gone_on_changes s w v t None at e = (refl, inl refl)
  gone_on_changes s w v t (Some u) at e =
      let taken : taken_of (gone_on s w v t (Some u)) ≡ taken_of s = same_lists (λ v. v.taken) s.workers w v (goes_on v t u) at refl in (
        (λ i. record { waiting = s.waiting; taken = taken i }),
        ⊎_elim
            (λ (none : posted_by t u ≡ []).
            let posted : posted_of (gone_on s w v t (Some u)) ≡ posted_of s = same_lists (λ v. v.posted) s.workers w v (goes_on v t u) at (ap (λ (l : List Letter). v.posted ++ l) none ∙ append-nil v.posted) in
            let office : s.office ++ posted_by t u ≡ s.office = ap (λ (l : List Letter). s.office ++ l) none ∙ append-nil s.office in
            inl (λ i. record { posted = posted i; office = office i }))
            (λ (one : (x : Letter) × (posted_by t u ≡ x ∷ [])).
            let posted : posted_of (gone_on s w v t (Some u)) ≡ set (posted_of s) w (v.posted ++ one.0 ∷ []) = map-set (λ v. v.posted) s.workers w (goes_on v t u) ∙ ap (λ (l : List Letter). set (posted_of s) w (v.posted ++ l)) one.1 in
            let mail : mail_of (gone_on s w v t (Some u)) ≡ post_of w one.0 (mail_of s) (Some v.posted) = (λ i. record { posted = posted i; office = s.office ++ one.1 i }) in
            inr (one.0, mail ∙ ap (post_of w one.0 (mail_of s)) (sym (read_worker (λ v. v.posted) s.workers w v at))))
            (posts_one script tick t u (step_tells script tick t u e)),
      )

  ended_changes : (s : TickState) (w : ℕ) (v : Worker) (t : Turn) (o : Option Turn) → slice_get s.workers w ≡ Some v → Changes (Done w) s (ended s w v t o)
  ended_changes s w v t (Some u) at = (refl, refl)
  ended_changes s w v t None at =
      let taken : taken_of (ended s w v t None) ≡ taken_of s = same_lists (λ v. v.taken) s.workers w v (lets_go v t) at refl in
      let posted : posted_of (ended s w v t None) ≡ posted_of s = same_lists (λ v. v.posted) s.workers w v (lets_go v t) at refl in
      ((λ i. record { waiting = s.waiting; taken = taken i }), λ i. record { posted = posted i; office = s.office })

  none_changes : (s : TickState) (move : Move) → Changes move s s
  none_changes s (Claim w n) = (inl refl, refl)
  none_changes s (Step w) = (refl, inl refl)
  none_changes s (Done w) = (refl, refl)

  held_changes : (s : TickState) (move : Move) (v : Worker) (o : Option Turn) → slice_get s.workers (worker_of move) ≡ Some v → v.held ≡ o → Changes move s (by_worker script tick s move (Some v))
  held_changes s (Claim w n) v None at is = subst (λ (o : Option Turn). Changes (Claim w n) s (claim tick s w n v o)) (sym is) (claimed_changes s w n v (slice_get s.waiting n) at refl)
  held_changes s (Claim w n) v (Some t) at is = subst (λ (o : Option Turn). Changes (Claim w n) s (claim tick s w n v o)) (sym is) (none_changes s (Claim w n))
  held_changes s (Step w) v None at is = subst (λ (o : Option Turn). Changes (Step w) s (go_on script tick s w v o)) (sym is) (none_changes s (Step w))
  held_changes s (Step w) v (Some t) at is = subst (λ (o : Option Turn). Changes (Step w) s (go_on script tick s w v o)) (sym is) (gone_on_changes s w v t (step script tick t) at refl)
  held_changes s (Done w) v None at is = subst (λ (o : Option Turn). Changes (Done w) s (end script tick s w v o)) (sym is) (none_changes s (Done w))
  held_changes s (Done w) v (Some t) at is = subst (λ (o : Option Turn). Changes (Done w) s (end script tick s w v o)) (sym is) (ended_changes s w v t (step script tick t) at)

  worker_changes : (s : TickState) (move : Move) (o : Option Worker) → slice_get s.workers (worker_of move) ≡ o → Changes move s (by_worker script tick s move o)
  worker_changes s (Claim w n) None at = none_changes s (Claim w n)
  worker_changes s (Step w) None at = none_changes s (Step w)
  worker_changes s (Done w) None at = none_changes s (Done w)
  worker_changes s move (Some v) at = held_changes s move v v.held at refl

pub changes_are_partial : ChangesArePartial
changes_are_partial script tick s move = worker_changes script tick s move (slice_get s.workers (worker_of move)) refl
