-- What the moves of one thread lead to.
use Rattle.std.proofs.Common.{◌≡◌, ℕ, ◌+◌, Option, Some, None, is_some, List, [], ◌∷◌, ◌++◌, ◌⊎◌, inl, inr, map, refl, ap, sym, ◌∙◌, subst, append_assoc, append-nil}
use Rattle.loop_script.specs.declared.plan.Plan.{Plan}
use Rattle.post_office.specs.declared.letter.Letter.{Letter}
use Rattle.lane_turn.specs.Lane.{Lane, Turn}
use Rattle.lane_turn.specs.Step.{step}
use Rattle.lane_turn.specs.Turn.{begun, finished, turned, stepped}
use Rattle.lane_turn.specs.Deliver.{received, received_all, delivered}
use Rattle.lane_turn.specs.Handover.{handing_of}
use Rattle.lane_turn.specs.Quiet.{at_tick, IsQuiet}
use Rattle.lane_turn.specs.Tick.{posted_at, ticked}
use Rattle.lane_turn.specs.Traces.{Grows, IsOf}
use Rattle.lane_turn.proofs.Finish.{finished_on, finished_now}
use Rattle.lane_turn.proofs.Traced.{of_tick, delivery_grows}
use Rattle.tick_stepper.proofs.Lined.{first_over, none_left}
use Rattle.tick_stepper.specs.Account.{Place, Turning, Giving, Bringing, started, turned_on, moved, lanes_in, all_brought, end_of, OneChanges, OneGoesOver}

same_place : (p q : Place) → Some p ≡ Some q → p ≡ q
same_place p q e = cc

pub starts : (script : Plan) (tick : ℕ) (lanes : List Lane) → end_of script tick (started lanes) ≡ ticked script tick lanes
starts script tick lanes = refl

-- the turn in progress by its next step
turn_leads : (script : Plan) (tick : ℕ) (over : List Lane) (t : Turn) (waiting : List Lane) (posted : List Letter) (o : Option Turn) → step script tick t ≡ o
    → end_of script tick (turned_on over t waiting posted o) ≡ end_of script tick (Turning over (Some t) waiting posted)
turn_leads script tick over t waiting posted (Some u) e =
    let more = ap (λ (x : Option Turn). is_some x) e in
    let next : u ≡ stepped script tick t = sym (ap (λ (x : Option Turn). step_or x t) e) in
    let same : finished script tick u ≡ finished script tick t = ap (finished script tick) next ∙ finished_on script tick t more in
    ap (λ (v : Turn). delivered script tick (posted ++ (v.posted ++ posted_at script tick waiting)) (over ++ v.lane ∷ map (turned script tick) waiting)) same
  where
    step_or : Option Turn → Turn → Turn
    step_or None t = t
    step_or (Some u) t = u
turn_leads script tick over t waiting posted None e =
    let none = ap (λ (x : Option Turn). is_some x) e in
    let same : finished script tick t ≡ t = finished_now script tick t none in
    ap (λ (ls : List Letter). delivered script tick ls ((over ++ t.lane ∷ []) ++ map (turned script tick) waiting)) (append_assoc posted t.posted (posted_at script tick waiting))
    ∙ (ap (delivered script tick (posted ++ (t.posted ++ posted_at script tick waiting))) (append_assoc over (t.lane ∷ []) (map (turned script tick) waiting))
    ∙ ap (λ (v : Turn). delivered script tick (posted ++ (v.posted ++ posted_at script tick waiting)) (over ++ v.lane ∷ map (turned script tick) waiting)) (sym same))

brought_all : (script : Plan) (tick : ℕ) (letters : List Letter) (lanes : List Lane) → all_brought script tick lanes letters letters ≡ map (received_all script tick letters) lanes
brought_all script tick letters [] = refl
brought_all script tick letters (lane ∷ lanes) = refl

move_leads : (script : Plan) (tick : ℕ) (p q : Place) → moved script tick p ≡ Some q → end_of script tick q ≡ end_of script tick p
move_leads script tick (Turning over (Some t) waiting posted) q e =
    ap (end_of script tick) (sym (same_place _ q e)) ∙ turn_leads script tick over t waiting posted (step script tick t) refl
move_leads script tick (Turning over None (lane ∷ waiting) posted) q e = ap (end_of script tick) (sym (same_place _ q e))
move_leads script tick (Turning over None [] posted) q e =
    ap (end_of script tick) (sym (same_place _ q e))
    ∙ (ap (λ (ls : List Letter). delivered script tick ls over) (sym (append-nil posted)) ∙ ap (delivered script tick (posted ++ [])) (sym (append-nil over)))
move_leads script tick (Giving lanes (letter ∷ left) letters) q e =
    ap (end_of script tick) (sym (same_place _ q e)) ∙ ap (map (received_all script tick letters)) (first_over tick (handing_of letter lanes) left lanes)
move_leads script tick (Giving lanes [] letters) q e =
    ap (end_of script tick) (sym (same_place _ q e)) ∙ (brought_all script tick letters lanes ∙ ap (map (received_all script tick letters)) (sym (none_left tick lanes)))
move_leads script tick (Bringing over (lane ∷ waiting) (letter ∷ left) letters) q e = ap (end_of script tick) (sym (same_place _ q e))
move_leads script tick (Bringing over (lane ∷ waiting) [] letters) q e =
    ap (end_of script tick) (sym (same_place _ q e))
    ∙ (append_assoc over (lane ∷ []) (all_brought script tick waiting letters letters) ∙ ap (λ (ls : List Lane). over ++ lane ∷ ls) (brought_all script tick letters waiting))
move_leads script tick (Bringing over [] left letters) q e = let no : None ≡ Some q = e in cc

pub leads : (script : Plan) (tick : ℕ) (p q : Place) → moved script tick p ≡ Some q → end_of script tick q ≡ end_of script tick p
leads script tick p q e = move_leads script tick p q e

pub passes : (script : Plan) (tick : ℕ) (over : List Lane) (lane : Lane) (waiting : List Lane) (posted : List Letter) → IsQuiet script tick lane
    → end_of script tick (Turning (over ++ at_tick (tick + 1) lane ∷ []) None waiting posted) ≡ end_of script tick (Turning over None (at_tick tick lane ∷ waiting) posted)
passes script tick over lane waiting posted q =
    ap (delivered script tick (posted ++ posted_at script tick waiting)) (append_assoc over (at_tick (tick + 1) lane ∷ []) (map (turned script tick) waiting))
    ∙ (ap (λ (l : Lane). delivered script tick (posted ++ posted_at script tick waiting) (over ++ l ∷ map (turned script tick) waiting)) (sym q.stays)
    ∙ ap (λ (ls : List Letter). delivered script tick (posted ++ (ls ++ posted_at script tick waiting)) (over ++ turned script tick (at_tick tick lane) ∷ map (turned script tick) waiting)) (sym q.letters))

pub ends : (script : Plan) (tick : ℕ) (p : Place) → moved script tick p ≡ None → lanes_in p ≡ end_of script tick p
ends script tick (Turning over (Some t) waiting posted) e = cc
ends script tick (Turning over None (lane ∷ waiting) posted) e = cc
ends script tick (Turning over None [] posted) e = cc
ends script tick (Giving lanes (letter ∷ left) letters) e = cc
ends script tick (Giving lanes [] letters) e = cc
ends script tick (Bringing over (lane ∷ waiting) (letter ∷ left) letters) e = cc
ends script tick (Bringing over (lane ∷ waiting) [] letters) e = cc
ends script tick (Bringing over [] left letters) e = refl

-- ---- one lane changes

at_held : (tick : ℕ) (over waiting : List Lane) (t u : Turn) → Grows (IsOf tick) t.lane.trace u.lane.trace → OneChanges tick (over ++ (t.lane ∷ [] ++ waiting)) (over ++ (u.lane ∷ [] ++ waiting))
at_held tick over waiting t u g = record { before = over; lane = t.lane; next = u.lane; behind = waiting; was = refl; is = refl; lines = g.more; grows = g.lines; ticks = g.each }

by_step : (script : Plan) (tick : ℕ) (over : List Lane) (t : Turn) (waiting : List Lane) (posted : List Letter) (o : Option Turn) → step script tick t ≡ o
    → (lanes_in (turned_on over t waiting posted o) ≡ lanes_in (Turning over (Some t) waiting posted)) ⊎ (OneChanges tick (lanes_in (Turning over (Some t) waiting posted)) (lanes_in (turned_on over t waiting posted o)) ⊎ OneGoesOver tick (Turning over (Some t) waiting posted) (turned_on over t waiting posted o))
by_step script tick over t waiting posted (Some u) e = inr (inl (at_held tick over waiting t u (of_tick script tick t u e)))
by_step script tick over t waiting posted None e = inl (append_assoc over (t.lane ∷ []) waiting)

abbrev Tells : (tick : ℕ) (p q : Place) → Type 0
Tells tick p q = (lanes_in q ≡ lanes_in p) ⊎ (OneChanges tick (lanes_in p) (lanes_in q) ⊎ OneGoesOver tick p q)

pub changes_one : (script : Plan) (tick : ℕ) (p q : Place) → moved script tick p ≡ Some q → (lanes_in q ≡ lanes_in p) ⊎ (OneChanges tick (lanes_in p) (lanes_in q) ⊎ OneGoesOver tick p q)
changes_one script tick (Turning over (Some t) waiting posted) q e =
    subst (Tells tick (Turning over (Some t) waiting posted)) (same_place _ q e) (by_step script tick over t waiting posted (step script tick t) refl)
changes_one script tick (Turning over None (lane ∷ waiting) posted) q e =
    subst (Tells tick (Turning over None (lane ∷ waiting) posted)) (same_place _ q e)
    (inr (inl (record { before = over; lane = lane; next = (begun tick lane).lane; behind = waiting; was = refl; is = refl; lines = []; grows = sym (append-nil lane.trace); ticks = tt })))
changes_one script tick (Turning over None [] posted) q e =
    subst (Tells tick (Turning over None [] posted)) (same_place _ q e) (inl (sym (append-nil over)))
changes_one script tick (Giving lanes (letter ∷ left) letters) q e =
    subst (Tells tick (Giving lanes (letter ∷ left) letters)) (same_place _ q e) (inr (inr (record { lanes = lanes; letter = letter; left = left; letters = letters; was = refl; is = refl })))
changes_one script tick (Giving lanes [] letters) q e = subst (Tells tick (Giving lanes [] letters)) (same_place _ q e) (inl refl)
changes_one script tick (Bringing over (lane ∷ waiting) (letter ∷ left) letters) q e =
    let g = delivery_grows script tick (letter ∷ []) lane in
    subst (Tells tick (Bringing over (lane ∷ waiting) (letter ∷ left) letters)) (same_place _ q e)
    (inr (inl (record { before = over; lane = lane; next = received script tick letter lane; behind = waiting; was = refl; is = refl; lines = g.more; grows = g.lines; ticks = g.each })))
changes_one script tick (Bringing over (lane ∷ waiting) [] letters) q e =
    subst (Tells tick (Bringing over (lane ∷ waiting) [] letters)) (same_place _ q e) (inl (append_assoc over (lane ∷ []) waiting))
changes_one script tick (Bringing over [] left letters) q e = let no : None ≡ Some q = e in cc
