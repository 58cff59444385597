-- In a run no reply is lost.
use Rattle.std.proofs.Common.{◌≡◌, ◌≢◌, ◌⊎◌, inl, inr, ℕ, zero, suc, ◌+◌, ◌<◌, ◌≤◌, ◌==◌, ◌&&◌, Bool, true, false, cond, List, [], ◌∷◌, ◌++◌, map, length, slice_set, option_map, refl, ap, sym, ◌∙◌, arith, subst, sum_by}
use Rattle.std.specs.List.{flat_map, range_with_len}
use Rattle.std.proofs.lemmas.List.{length-map, length-set}
use Rattle.std.proofs.lemmas.Bool.{eq-eqb}
use Rattle.std.proofs.lemmas.Bool.Decides.{eqb_tells}
use Rattle.loop_script.specs.declared.plan.Plan.{Plan}
use Rattle.loop_script.specs.Parts.{time_of}
use Rattle.loop_script.specs.References.{sizes}
use Rattle.source_rows.specs.Rows.{attached}
use Rattle.post_office.specs.declared.letter.Letter.{Letter}
use Rattle.post_office.specs.declared.letter.Body.{Body}
use Rattle.post_office.specs.declared.letter.Body.TheVariants.{Attach, Complete, Cancelled, Give}
use Rattle.lane_turn.specs.declared.line.Event.TheVariants as events
use Rattle.lane_turn.specs.Lane.{Lane, context_at, next_id, with_rows, edited, written, is_own}
use Rattle.lane_turn.specs.Turn.{opening, turned, out_of}
use Rattle.lane_turn.specs.Deliver.{reply_spec, holding, received_body, received, received_all}
use Rattle.lane_turn.specs.Tick.{lanes_at, posted_at}
use Rattle.lane_turn.proofs.Steady.{held_of}
use Rattle.lane_turn.specs.Letters.{AreNumbered}
use Rattle.lane_turn.specs.Owed.{one_for, is_reply, replied, lane_under, posted_before, mail_of_run, over_of_run}
use Rattle.lane_turn.specs.Taken.{accounted, came_before}
use Rattle.lane_turn.proofs.Turns.{out_numbered}
use Rattle.lane_turn.proofs.Arrivals.{length_held}
use Rattle.lane_turn.proofs.Owed.{run_under}
use Rattle.lane_turn.proofs.Leaves.{IsPlaced, place_same, leaves_cancel}
use Rattle.lane_turn.proofs.Moving.{AreHomed, turned_homes}
use Rattle.lane_turn.proofs.Brought.{leaves_arrived}
use Rattle.lane_turn.proofs.GoingOver.{handed_part}
use Rattle.lane_turn.proofs.Sums.{sent, sent_cons, came_at, each_comes, holders_over}
use Rattle.lane_turn.proofs.Taken.{over, over_none, sent_elsewhere, sent_by, under_number, numbers}
use Rattle.lane_turn.specs.Holding.{holder_at}
use Rattle.lane_turn.specs.Handover.{Handing, all_handed, handed_over}

-- ---- where replies of a run go

received_placed : (m : ℕ) (script : Plan) (tick sender : ℕ) (body : Body) (lane : Lane) → 0 < m → IsPlaced m lane → IsPlaced m (received_body script tick sender body lane)
received_placed m script tick sender (Attach context spec) lane z p = (leaves_arrived 0 0 tick (time_of script tick) context spec lane).place m z p
received_placed m script tick sender (Cancelled c) lane z p = (leaves_cancel 0 0 script tick c lane).place m z p
received_placed m script tick sender (Give context to) lane z p = p
received_placed m script tick sender (Complete reply) lane z p = by (is_own reply.ctx lane)
  where
    size : length (slice_set lane.contexts reply.ctx (option_map (with_rows (attached (reply_spec reply) (time_of script tick))) (context_at reply.ctx lane))) ≡ length lane.contexts
    size = simp length-set

    by : (b : Bool) → IsPlaced m (cond b (written tick (events.Arrive reply.ctx (next_id (context_at reply.ctx lane))) (holding reply.ctx (next_id (context_at reply.ctx lane)) sender reply (edited reply.ctx (attached (reply_spec reply) (time_of script tick)) lane))) lane)
    by true = place_same m lane _ size refl refl p
    by false = p

all_placed : (m : ℕ) (script : Plan) (tick : ℕ) (letters : List Letter) (lane : Lane) → 0 < m → IsPlaced m lane → IsPlaced m (received_all script tick letters lane)
all_placed m script tick [] lane z p = p
all_placed m script tick (l ∷ ls) lane z p = all_placed m script tick ls (received script tick l lane) z (received_placed m script tick l.sender l.body lane z p)

-- what goes over leaves where tasks and defaults are
placed_over : (m k : ℕ) (hs : List Handing) (lane : Lane) → IsPlaced m lane → IsPlaced m (all_handed k hs lane)
placed_over m k hs lane p =
    place_same m lane (all_handed k hs lane) (handed_part (λ (l : Lane). length l.contexts) k (λ kept l. simp length-set) (λ c l. simp length-set) hs lane)
    (handed_part (λ (l : Lane). l.defaults) k (λ kept l. refl) (λ c l. refl) hs lane) (handed_part (λ (l : Lane). l.tasks.started) k (λ kept l. refl) (λ c l. refl) hs lane) p

under_placed : (script : Plan) (mail : ℕ → List Letter) (goes : ℕ → List Handing) (lane k : ℕ) → 0 < (sizes script).contexts → IsPlaced (sizes script).contexts (lane_under script mail goes lane k)
under_placed script mail goes lane zero z =
    let size : length (held_of (opening script lane).contexts) ≡ length (opening script lane).contexts = simp length-map in
    record { all = sym size ∙ length_held script lane (sizes script).contexts; defaults = tt; tasks = tt }
under_placed script mail goes lane (suc k) z =
    let before : Lane = lane_under script mail goes lane k in
    let m : ℕ = (sizes script).contexts in
    all_placed m script k (mail k) (all_handed k (goes k) (turned script k before)) z (placed_over m k (goes k) (turned script k before) (turned_homes m script k before z (under_placed script mail goes lane k z)).0)

homed_append : (m : ℕ) (xs ys : List Letter) → AreHomed m xs → AreHomed m ys → AreHomed m (xs ++ ys)
homed_append m [] ys h g = g
homed_append m (x ∷ xs) ys h g = (h.0, homed_append m xs ys h.1 g)

posted_homed : (script : Plan) (mail : ℕ → List Letter) (goes : ℕ → List Handing) (k : ℕ) (ns : List ℕ) → 0 < (sizes script).contexts → AreHomed (sizes script).contexts (flat_map (out_of script k) (map (λ i. lane_under script mail goes i k) ns))
posted_homed script mail goes k [] z = tt
posted_homed script mail goes k (i ∷ ns) z =
    homed_append (sizes script).contexts (out_of script k (lane_under script mail goes i k)) _
    (turned_homes (sizes script).contexts script k (lane_under script mail goes i k) z (under_placed script mail goes i k z)).1
    (posted_homed script mail goes k ns z)

mail_homed : (script : Plan) (k : ℕ) → 0 < (sizes script).contexts → AreHomed (sizes script).contexts (mail_of_run script k)
mail_homed script k z = subst (λ (lanes : List Lane). AreHomed (sizes script).contexts (posted_at script k lanes)) (sym (run_under script k)) (posted_homed script (mail_of_run script) (over_of_run script) k (numbers script) z)

-- ---- all that was sent comes

-- where all but one are none, and that is among them
over_same : (f : ℕ → ℕ) (h : ℕ) → ((l : ℕ) → l ≢ h → f l ≡ 0) → (a m : ℕ) → a ≤ h → h < a + m → over f (range_with_len a m) ≡ f h
over_same f h e a zero l g = absurd (omega (arith, l, g))
over_same f h e a (suc m) l g = by (eqb_tells a h) (λ k. over_same f h e (a + 1) m k (omega (arith, g)))
  where
    by : ((a == h) ≡ true × a ≡ h) ⊎ ((a == h) ≡ false × a ≢ h) → (a + 1 ≤ h → over f (range_with_len (a + 1) m) ≡ f h) → f a + over f (range_with_len (a + 1) m) ≡ f h
    by (inl p) r = omega (arith, ap f p.1, over_none f h e (a + 1) m (omega (arith, p.1)))
    by (inr p) r = omega (arith, e a p.1, r (omega (arith, l, p.1)))

sent_own : (s n tick sender j : ℕ) (ls : List Letter) → AreNumbered tick sender j ls → (sender == s) ≡ true → sent s n ls ≡ replied n ls
sent_own s n tick sender j [] h e = refl
sent_own s n tick sender j (l ∷ ls) h e =
    let one = ap (λ b. one_for (b && is_reply n l.body)) (ap (λ (i : ℕ). i == s) (h.1).0 ∙ e) in
    omega (arith, one, sent_cons s n l ls, sent_own s n tick sender (j + 1) ls ((h.1).1).1 e)

run_sent : (s n : ℕ) (script : Plan) (k : ℕ) → s < length script.lanes → sent s n (mail_of_run script k) ≡ replied n (out_of script k (lane_under script (mail_of_run script) (over_of_run script) s k))
run_sent s n script k h =
    let mail : ℕ → List Letter = mail_of_run script in
    let goes : ℕ → List Handing = over_of_run script in
    let lane : Lane = lane_under script mail goes s k in
    ap (λ (lanes : List Lane). sent s n (posted_at script k lanes)) (run_under script k)
    ∙ (sent_by s n (out_of script k) (λ i. lane_under script mail goes i k) (numbers script)
    ∙ (over_same (λ i. sent s n (out_of script k (lane_under script mail goes i k))) s (λ i p. sent_elsewhere s n script mail goes k i p) 0 (length script.lanes) (omega arith) (omega (arith, h))
    ∙ sent_own s n k lane.number 0 (out_of script k lane) (out_numbered script k lane) (ap (λ (i : ℕ). i == s) (under_number script mail goes s k) ∙ eq-eqb s s refl)))

came_all : (s n : ℕ) (script : Plan) (tick : ℕ) → 0 < (sizes script).contexts → s < length script.lanes → came_before script s n tick ≡ posted_before script (mail_of_run script) (over_of_run script) s n tick
came_all s n script zero z h = refl
came_all s n script (suc k) z h =
    let lanes : List Lane = lanes_at script k in
    let letters : List Letter = posted_at script k lanes in
    omega (arith, each_comes s n (sizes script).contexts (length script.lanes) (λ c. holder_at script c (suc k)) (handed_over k letters (map (turned script k) lanes)) letters (holders_over script k) (mail_homed script k z), came_all s n script k z h, run_sent s n script k h)

pub none_lost : (script : Plan) (s n tick : ℕ) → 0 < (sizes script).contexts → s < length script.lanes → sum_by (accounted s n) (lanes_at script tick) ≡ posted_before script (mail_of_run script) (over_of_run script) s n tick
none_lost script s n tick z h = came_at script s n tick ∙ came_all s n script tick z h
