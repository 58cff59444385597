-- What each worker has done so far, and what all have: so each lane is turned once.
use Rattle.std.proofs.Common.{◌≡◌, ℕ, zero, suc, Option, Some, None, List, [], ◌∷◌, ◌++◌, map, get_or, replicate, refl, sym, ap, ◌∙◌, subst, append_assoc, append-nil}
use Rattle.std.specs.Prelude.{IsPermutation, slice_get}
use Rattle.std.specs.List.{AllByRecursion}
use Rattle.std.proofs.lemmas.List.Sorted.{IsPermutation-refl, IsPermutation-trans, IsPermutation-map}
use Rattle.loop_script.specs.declared.plan.Plan.{Plan}
use Rattle.post_office.specs.declared.letter.Letter.{Letter}
use Rattle.lane_turn.specs.Lane.{Lane, Turn}
use Rattle.lane_turn.specs.Step.{step}
use Rattle.lane_turn.specs.Turn.{begun, turned, finished, out_of}
use Rattle.lane_turn.specs.Tick.{posted_at}
use Rattle.lane_turn.proofs.Sends.{step_tells}
use Rattle.post_office.specs.Merge.{IsMerge, concat}
use Rattle.post_office.specs.Parts.{without}
use Rattle.tick_stepper.specs.Machine.{Worker, TickState, Move, Claim, Step, Done, posted_by, takes, goes_on, lets_go, claimed, gone_on, ended, claim, go_on, end, by_worker, worker_of, moved, after, idle, opening, AreFree, IsFull, taken_of, over_of, posted_of}
use Rattle.tick_stepper.specs.Law.{sent_by, IsTurned, EachTurnedOnce}
use Rattle.tick_stepper.proofs.Concats.{map_snoc, map_concat, flat_snoc}
use Rattle.tick_stepper.proofs.Deals.{all_at, all_set, still_split, merge_pushes}
use Rattle.tick_stepper.proofs.Readings.{same_lists, more_lists, lt_lists}
use Rattle.tick_stepper.proofs.Sorted.{order_is_one}
use Rattle.tick_stepper.proofs.Turns.{goes_to, is_over, posts_on, turned_in_order}

module _ (script : Plan) (tick : ℕ) where
  -- the worker's lanes are turned, but the one that it holds, whose turn is on its way
  abbrev Honest : Worker → Option Turn → Type 0
  Honest v None = (v.over ≡ map (turned script tick) v.taken) × (v.posted ≡ posted_at script tick v.taken)
  Honest v (Some t) = (before : List Lane) × (lane : Lane) × (v.taken ≡ before ++ lane ∷ []) × (v.over ≡ map (turned script tick) before)
      × (v.posted ≡ posted_at script tick before ++ t.posted) × (finished script tick t ≡ finished script tick (begun tick lane))

  record Along (lanes : List Lane) (s : TickState) : Type 0 where
    honest : AllByRecursion (λ v. Honest v v.held) s.workers
    split : IsPermutation lanes (concat (taken_of s) ++ s.waiting)
    office : IsMerge (posted_of s) s.office

  goes_honest : (v : Worker) (t u : Turn) → step script tick t ≡ Some u → Honest v (Some t) → Honest (goes_on v t u) (Some u)
  goes_honest v t u e h = (
    h.0,
    h.1,
    h.2,
    h.3,
    ap (λ (l : List Letter). l ++ posted_by t u) h.4 ∙ append_assoc (posted_at script tick h.0) t.posted (posted_by t u) ∙ ap (λ (l : List Letter). posted_at script tick h.0 ++ l) (posts_on script tick t u (step_tells script tick t u e)),
    goes_to script tick t u e ∙ h.5,
  )

  ends_honest : (v : Worker) (t : Turn) → step script tick t ≡ None → Honest v (Some t) → Honest (lets_go v t) None
  ends_honest v t e h =
      let is : t ≡ finished script tick (begun tick h.1) = sym (is_over script tick t e) ∙ h.5 in (
        (λ i. h.3 i ++ (is i).lane ∷ []) ∙ sym (map_snoc (turned script tick) h.0 h.1) ∙ ap (map (turned script tick)) (sym h.2),
        h.4 ∙ ap (λ (u : Turn). posted_at script tick h.0 ++ u.posted) is ∙ sym (flat_snoc (out_of script tick) h.0 h.1) ∙ ap (λ (l : List Lane). posted_at script tick l) (sym h.2),
      )

  module _ (lanes : List Lane) where
    claimed_along : (s : TickState) (w n : ℕ) (v : Worker) (o : Option Lane) → slice_get s.workers w ≡ Some v → Honest v None → slice_get s.waiting n ≡ o → Along lanes s → Along lanes (claimed tick s w n v o)
    claimed_along s w n v None at h e a = a
    claimed_along s w n v (Some lane) at h e a = record {
      honest = all_set (λ v. Honest v v.held) s.workers w (takes tick v lane) a.honest (v.taken, lane, refl, h.0, h.1 ∙ sym (append-nil _), refl);
      split = subst (λ (ls : List (List Lane)). IsPermutation lanes (concat ls ++ without n s.waiting)) (sym (more_lists (λ v. v.taken) s.workers w v (takes tick v lane) (lane ∷ []) at refl))
          (still_split lanes s.waiting (taken_of s) w n lane (lt_lists (λ v. v.taken) s.workers w v at) e a.split);
      office = subst (λ (ls : List (List Letter)). IsMerge ls s.office) (sym (same_lists (λ v. v.posted) s.workers w v (takes tick v lane) at refl)) a.office;
    }

    gone_on_along : (s : TickState) (w : ℕ) (v : Worker) (t : Turn) (o : Option Turn) → slice_get s.workers w ≡ Some v → Honest v (Some t) → step script tick t ≡ o → Along lanes s → Along lanes (gone_on s w v t o)
    gone_on_along s w v t None at h e a = a
    gone_on_along s w v t (Some u) at h e a = record {
      honest = all_set (λ v. Honest v v.held) s.workers w (goes_on v t u) a.honest (goes_honest v t u e h);
      split = subst (λ (ls : List (List Lane)). IsPermutation lanes (concat ls ++ s.waiting)) (sym (same_lists (λ v. v.taken) s.workers w v (goes_on v t u) at refl)) a.split;
      office = subst (λ (ls : List (List Letter)). IsMerge ls (s.office ++ posted_by t u)) (sym (more_lists (λ v. v.posted) s.workers w v (goes_on v t u) (posted_by t u) at refl))
          (merge_pushes (posted_of s) s.office w (posted_by t u) (lt_lists (λ v. v.posted) s.workers w v at) a.office);
    }

    ended_along : (s : TickState) (w : ℕ) (v : Worker) (t : Turn) (o : Option Turn) → slice_get s.workers w ≡ Some v → Honest v (Some t) → step script tick t ≡ o → Along lanes s → Along lanes (ended s w v t o)
    ended_along s w v t (Some u) at h e a = a
    ended_along s w v t None at h e a = record {
      honest = all_set (λ v. Honest v v.held) s.workers w (lets_go v t) a.honest (ends_honest v t e h);
      split = subst (λ (ls : List (List Lane)). IsPermutation lanes (concat ls ++ s.waiting)) (sym (same_lists (λ v. v.taken) s.workers w v (lets_go v t) at refl)) a.split;
      office = subst (λ (ls : List (List Letter)). IsMerge ls s.office) (sym (same_lists (λ v. v.posted) s.workers w v (lets_go v t) at refl)) a.office;
    }

    by_held : (s : TickState) (move : Move) (v : Worker) (o : Option Turn) → slice_get s.workers (worker_of move) ≡ Some v → v.held ≡ o → Honest v o → Along lanes s → Along lanes (by_worker script tick s move (Some v))
    by_held s (Claim w n) v None at is h a = subst (λ (o : Option Turn). Along lanes (claim tick s w n v o)) (sym is) (claimed_along s w n v (slice_get s.waiting n) at h refl a)
    by_held s (Claim w n) v (Some t) at is h a = subst (λ (o : Option Turn). Along lanes (claim tick s w n v o)) (sym is) a
    by_held s (Step w) v None at is h a = subst (λ (o : Option Turn). Along lanes (go_on script tick s w v o)) (sym is) a
    by_held s (Step w) v (Some t) at is h a = subst (λ (o : Option Turn). Along lanes (go_on script tick s w v o)) (sym is) (gone_on_along s w v t (step script tick t) at h refl a)
    by_held s (Done w) v None at is h a = subst (λ (o : Option Turn). Along lanes (end script tick s w v o)) (sym is) a
    by_held s (Done w) v (Some t) at is h a = subst (λ (o : Option Turn). Along lanes (end script tick s w v o)) (sym is) (ended_along s w v t (step script tick t) at h refl a)

    by_worker_along : (s : TickState) (move : Move) (o : Option Worker) → slice_get s.workers (worker_of move) ≡ o → Along lanes s → Along lanes (by_worker script tick s move o)
    by_worker_along s (Claim w n) None at a = a
    by_worker_along s (Step w) None at a = a
    by_worker_along s (Done w) None at a = a
    by_worker_along s move (Some v) at a = by_held s move v v.held at refl (all_at (λ v. Honest v v.held) s.workers (worker_of move) v a.honest at) a

    after_along : (moves : List Move) (s : TickState) → Along lanes s → Along lanes (after script tick moves s)
    after_along [] s a = a
    after_along (move ∷ moves) s a = after_along moves (moved script tick s move) (by_worker_along s move (slice_get s.workers (worker_of move)) refl a)

  honest_idle : (n : ℕ) → AllByRecursion (λ v. Honest v v.held) (replicate n idle)
  honest_idle zero = tt
  honest_idle (suc n) = ((refl, refl), honest_idle n)

  no_taken : (n : ℕ) → concat (map (λ (v : Worker). v.taken) (replicate n idle)) ≡ []
  no_taken zero = refl
  no_taken (suc n) = no_taken n

  no_posted : (n t : ℕ) → get_or (map (λ (v : Worker). v.posted) (replicate n idle)) t [] ≡ []
  no_posted zero t = refl
  no_posted (suc n) zero = refl
  no_posted (suc n) (suc t) = no_posted n t

  opens : (workers : ℕ) (lanes : List Lane) → Along lanes (opening workers lanes)
  opens workers lanes = record {
    honest = honest_idle workers;
    split = subst (λ (l : List Lane). IsPermutation lanes (l ++ lanes)) (sym (no_taken workers)) (IsPermutation-refl lanes);
    office = ([], refl, λ t. sym (no_posted workers t));
  }

  -- at the end
  each_over : (ws : List Worker) → AllByRecursion (λ v. Honest v v.held) ws → AreFree ws → map (λ (v : Worker). v.over) ws ≡ map (map (turned script tick)) (map (λ (v : Worker). v.taken) ws)
  each_over [] h k = refl
  each_over (v ∷ vs) h k = let o = subst (Honest v) k.0 h.0 in λ i. o.0 i ∷ each_over vs h.1 k.1 i

  each_posted : (ws : List Worker) → AllByRecursion (λ v. Honest v v.held) ws → AreFree ws → map (λ (v : Worker). v.posted) ws ≡ sent_by script tick (map (λ (v : Worker). v.taken) ws)
  each_posted [] h k = refl
  each_posted (v ∷ vs) h k = let o = subst (Honest v) k.0 h.0 in λ i. o.1 i ∷ each_posted vs h.1 k.1 i

  at_end : (lanes : List Lane) (s : TickState) → Along lanes s → IsFull s → IsTurned script tick lanes s
  at_end lanes s a f =
      let split : IsPermutation lanes (concat (taken_of s)) = subst (IsPermutation lanes) (ap (λ (l : List Lane). concat (taken_of s) ++ l) f.waiting ∙ append-nil (concat (taken_of s))) a.split in
      let over = each_over s.workers a.honest f.held in
      record {
        split = split;
        posted = each_posted s.workers a.honest f.held;
        office = a.office;
        each = over;
        ends = λ sorted order p up.
            let all : IsPermutation (map (turned script tick) lanes) (concat (over_of s)) = subst (IsPermutation (map (turned script tick) lanes)) (sym (map_concat (turned script tick) (taken_of s)) ∙ ap concat (sym over)) (IsPermutation-map (turned script tick) lanes (concat (taken_of s)) split) in
            order_is_one (map (turned script tick) lanes) sorted (IsPermutation-trans _ _ _ all p) (turned_in_order script tick lanes order) up;
      }

pub each_turned_once : EachTurnedOnce
each_turned_once script tick workers lanes moves f = at_end script tick lanes _ (after_along script tick lanes moves (opening workers lanes) (opens script tick workers lanes)) f
