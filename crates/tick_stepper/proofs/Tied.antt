-- A step of a queue is a move of the machine.
use Rattle.std.proofs.Common.{◌≡◌, ℕ, zero, suc, ◌+◌, Option, Some, None, List, [], ◌∷◌, ◌++◌, map, set, length, option_map, refl, sym, ap, ◌∙◌}
use Rattle.std.specs.Prelude.{slice_get}
use Rattle.std.proofs.lemmas.List.{map-set, map-append}
use Rattle.loop_script.specs.declared.plan.Plan.{Plan}
use Rattle.post_office.specs.declared.letter.Letter.{Letter}
use Rattle.post_office.specs.declared.views.WorkView.{WorkView}
use Rattle.post_office.specs.Parts.{Work, without, claims, claim_of, posts, post_of}
use Rattle.post_office.specs.WorkQueue.{work_of as queued}
use Rattle.post_office.proofs.Changed.{takes_are_claims, pushes_are_posts}
use Rattle.lane_turn.specs.Lane.{Lane, State, Turn}
use Rattle.lane_turn.specs.Step.{step}
use Rattle.tick_stepper.specs.Share.{lanes_in}
use Rattle.tick_stepper.specs.Machine.{Worker, TickState, Claim, Step, moved, by_worker, claim, claimed, takes, go_on, gone_on, goes_on, posted_by, taken_of, posted_of, work_of, mail_of}
use Rattle.tick_stepper.specs.Tie.{lanes_of, IsFree, IsTurning, QueuesMove}
use Rattle.tick_stepper.proofs.Readings.{read_worker}

-- ---- what is claimed, lane by lane

get_map : {A B : Type 0} (f : A → B) (xs : List A) (i : ℕ) → slice_get (map f xs) i ≡ option_map f (slice_get xs i)
get_map f [] i = refl
get_map f (x ∷ xs) zero = refl
get_map f (x ∷ xs) (suc i) = get_map f xs i

without_map : {A B : Type 0} (f : A → B) (n : ℕ) (xs : List A) → map f (without n xs) ≡ without n (map f xs)
without_map f n [] = refl
without_map f zero (x ∷ xs) = refl
without_map f (suc n) (x ∷ xs) = ap (λ l. f x ∷ l) (without_map f n xs)

abbrev lane_of : State → Lane
lane_of s = s.lane

by_claim : (w n : ℕ) (work : Work State) (o : Option (List State)) (p : Option State) → lanes_of (claim_of w n work o p) ≡ claim_of w n (lanes_of work) (option_map lanes_in o) (option_map lane_of p)
by_claim w n work (Some list) (Some x) =
    let taken : map lanes_in (set work.taken w (list ++ x ∷ [])) ≡ set (map lanes_in work.taken) w (lanes_in list ++ lane_of x ∷ []) =
    map-set lanes_in work.taken w (list ++ x ∷ []) ∙ ap (λ (l : List Lane). set (map lanes_in work.taken) w l) (map-append lane_of list (x ∷ [])) in
    λ i. record { waiting = without_map lane_of n work.waiting i; taken = taken i }
by_claim w n work (Some list) None = refl
by_claim w n work None p = refl

map_claims : (w n : ℕ) (work : Work State) → lanes_of (claims w n work) ≡ claims w n (lanes_of work)
map_claims w n work =
    by_claim w n work (slice_get work.taken w) (slice_get work.waiting n)
    ∙ (λ i. claim_of w n (lanes_of work) (sym (get_map lanes_in work.taken w) i) (sym (get_map lane_of work.waiting n) i))

-- ---- the machine's moves

claim_moves : (script : Plan) (tick w : ℕ) (s : TickState) (lane : Lane) → IsFree s w → slice_get s.waiting 0 ≡ Some lane → work_of (moved script tick s (Claim w 0)) ≡ claims w 0 (work_of s)
claim_moves script tick w s lane free waits =
    let v : Worker = free.0 in
    let to : moved script tick s (Claim w 0) ≡ claimed tick s w 0 v (Some lane) = ap (by_worker script tick s (Claim w 0)) free.1 ∙ (ap (claim tick s w 0 v) free.2 ∙ ap (claimed tick s w 0 v) waits) in
    let taken : taken_of (claimed tick s w 0 v (Some lane)) ≡ set (taken_of s) w (v.taken ++ lane ∷ []) = map-set (λ (v : Worker). v.taken) s.workers w (takes tick v lane) in
    let work : work_of (claimed tick s w 0 v (Some lane)) ≡ claim_of w 0 (work_of s) (Some v.taken) (Some lane) = (λ i. record { waiting = without 0 s.waiting; taken = taken i }) in
    ap work_of to ∙ (work ∙ (λ i. claim_of w 0 (work_of s) (sym (read_worker (λ (v : Worker). v.taken) s.workers w v free.1) i) (sym waits i)))

step_moves : (script : Plan) (tick w : ℕ) (s : TickState) (t u : Turn) (x : Letter) → IsTurning s w t → step script tick t ≡ Some u → posted_by t u ≡ x ∷ [] → mail_of (moved script tick s (Step w)) ≡ posts w x (mail_of s)
step_moves script tick w s t u x held e one =
    let v : Worker = held.0 in
    let to : moved script tick s (Step w) ≡ gone_on s w v t (Some u) = ap (by_worker script tick s (Step w)) held.1 ∙ (ap (go_on script tick s w v) held.2 ∙ ap (gone_on s w v t) e) in
    let posted : posted_of (gone_on s w v t (Some u)) ≡ set (posted_of s) w (v.posted ++ x ∷ []) = map-set (λ (v : Worker). v.posted) s.workers w (goes_on v t u) ∙ ap (λ (l : List Letter). set (posted_of s) w (v.posted ++ l)) one in
    let mail : mail_of (gone_on s w v t (Some u)) ≡ post_of w x (mail_of s) (Some v.posted) = (λ i. record { posted = posted i; office = s.office ++ one i }) in
    ap mail_of to ∙ (mail ∙ ap (post_of w x (mail_of s)) (sym (read_worker (λ (v : Worker). v.posted) s.workers w v held.1)))

-- ---- both together

first_waits : (s : TickState) (items : List State) (own : WorkView State) (vs : List (WorkView State)) (x : State) → lanes_of (queued (x ∷ items) own vs) ≡ work_of s → slice_get s.waiting 0 ≡ Some (lane_of x)
first_waits s items own vs x same = ap (λ (work : Work Lane). slice_get work.waiting 0) (sym same)

pub queues_move : QueuesMove
queues_move = record {
  takes = λ script tick s items own vs x port v at same free.
      let w : ℕ = suc (length own.recorded + port) in
      ap lanes_of ((takes_are_claims State items own vs x).0 port v at) ∙ (map_claims w 0 (queued (x ∷ items) own vs) ∙ (ap (claims w 0) same ∙ sym (claim_moves script tick w s (lane_of x) free (first_waits s items own vs x same))));
  takes_itself = λ script tick s items own vs x same free.
      ap lanes_of ((takes_are_claims State items own vs x).1) ∙ (map_claims 0 0 (queued (x ∷ items) own vs) ∙ (ap (claims 0 0) same ∙ sym (claim_moves script tick 0 s (lane_of x) free (first_waits s items own vs x same))));
  pushes = λ script tick s items own vs x port v t u at same held e one.
      let w : ℕ = length own.recorded + port in
      pushes_are_posts items own vs x port v at ∙ (ap (posts w x) same ∙ sym (step_moves script tick w s t u x held e one));
}
