-- What a delivery leaves in a context: rows of before, and those of the letters' sources with the replies that they hold.
use Rattle.std.proofs.Common.{◌≡◌, inl, inr, ℕ, ◌+◌, ◌<◌, ◌≤◌, ◌==◌, Bool, true, false, cond, Option, Some, None, List, [], ◌∷◌, ◌++◌, map, option_map, refl, ap, sym, ◌∙◌, arith, subst, append-nil}
use Rattle.std.specs.Prelude.{is_some}
use Rattle.std.specs.List.{AllByRecursion, cons_option}
use Rattle.std.proofs.lemmas.List.{append_assoc}
use Rattle.std.proofs.lemmas.Bool.Decides.{eqb_tells}
use Rattle.loop_script.specs.declared.plan.Plan.{Plan}
use Rattle.loop_script.specs.declared.source.SourceSpec.{SourceSpec}
use Rattle.loop_script.specs.Parts.{time_of}
use Rattle.source_rows.specs.declared.row.Row.{Row}
use Rattle.source_rows.specs.Row.{root_row}
use Rattle.source_rows.specs.Rows.{row_of as row_with, attached}
use Rattle.source_rows.specs.Tree.{IdsRise}
use Rattle.source_rows.proofs.Lists.{all_of}
use Rattle.source_rows.proofs.Forest.{all_found}
use Rattle.context_core.specs.declared.context.Context.{Context}
use Rattle.task_steps.specs.declared.entry.Reply.{Reply}
use Rattle.post_office.specs.declared.letter.Letter.{Letter}
use Rattle.post_office.specs.declared.letter.Body.{Body}
use Rattle.post_office.specs.declared.letter.Body.TheVariants.{Attach, Complete, Cancelled, Give}
use Rattle.lane_turn.specs.declared.line.Event.TheVariants as events
use Rattle.lane_turn.specs.declared.replies.Awaited.{Awaited}
use Rattle.lane_turn.specs.Replies.{replies_at, reply_held}
use Rattle.lane_turn.specs.Lane.{Lane, Turn, is_own, taken, context_at, with_rows, edited, next_id, written}
use Rattle.lane_turn.specs.Acted.{cancel}
use Rattle.lane_turn.specs.Turn.{begun, turned, out_of}
use Rattle.lane_turn.specs.Deliver.{reply_spec, holding, received_body, received, received_all}
use Rattle.lane_turn.specs.Step.{step, posted_with, letter as sent_letter}
use Rattle.lane_turn.specs.Tick.{posted_at, lanes_at}
use Rattle.lane_turn.specs.Arrivals.{Coming, coming_by, comings, rows_from, AreHeld, rows_of_context, next_order, IsAmong, CallsNone, IsOfInvoke, AreAttached}
use Rattle.lane_turn.proofs.Moves.{has_own}
use Rattle.lane_turn.proofs.Arrivals.{still_has}
use Rattle.lane_turn.proofs.Adds.{each_joined}
use Rattle.lane_turn.proofs.Taking.{IsFresh}
use Rattle.lane_turn.proofs.Sums.{went}
use Rattle.lane_turn.proofs.Brought.{letter_gains}
use Rattle.lane_turn.proofs.Waits.{NumberedIn}
use Rattle.lane_turn.proofs.Lists.{each-push}
use Rattle.lane_turn.proofs.Sends.{IsAllowed, of_invoke, step_tells}
use Rattle.lane_turn.proofs.Turns.{kept_finished}
use Rattle.lane_turn.specs.Handover.{handed_over}
use Rattle.lane_turn.proofs.Slots.{IsUnder, ArePast, past_at}
use Rattle.lane_turn.proofs.Given.{IsBound, past_in, bound_went, bound_run}
use Rattle.lane_turn.proofs.Freed.{Rests, rests_went, rests_run}
use Rattle.lane_turn.proofs.Handling.{IsNew, IsLeft, root_new, set_here, set_there, Named, Stays, Told, hands_cancel}
use Rattle.lane_turn.proofs.Awaits.{Adds, letter_adds}

-- ---- one letter

abbrev one_next : Option Coming → ℕ → ℕ
one_next None n = n
one_next (Some c) n = n + 1

-- a lane that got a letter
abbrev Got : (W : Type 0) (context first next order : ℕ) (before came : List Row) (now : ℕ) → Option Coming → Lane → Type 0
Got W context first next order before came now m lane = Stays W context first (one_next m next) (one_next m order) before (came ++ rows_from now next order (cons_option m [])) lane

none_more : (W : Type 0) (context first next order : ℕ) (before came : List Row) (now : ℕ) (lane : Lane) → Stays W context first next order before came lane → Got W context first next order before came now None lane
none_more W context first next order before came now lane h = subst (λ rs. Stays W context first next order before rs lane) (sym (append-nil came)) h

left_more : (W : Type 0) (next order now : ℕ) (spec : SourceSpec) (before came : List Row) (o : Option Context) → is_some o ≡ true → IsLeft W next order before came o
    → IsLeft W (next + 1) (order + 1) before (came ++ root_row spec now next order ∷ []) (option_map (with_rows (attached spec now)) o)
left_more W next order now spec before came None e h = let no : false ≡ true = e in cc
left_more W next order now spec before came (Some c) e h = record {
  left = h.left;
  rows = ap (λ rs. rs ++ root_row spec now c.rows.next_id c.rows.next_order ∷ []) h.rows
      ∙ (append_assoc h.left came (root_row spec now c.rows.next_id c.rows.next_order ∷ [])
      ∙ (ap (λ (n : ℕ). h.left ++ (came ++ root_row spec now n c.rows.next_order ∷ [])) h.at_id ∙ ap (λ (q : ℕ). h.left ++ (came ++ root_row spec now next q ∷ [])) h.at_order));
  among = h.among;
  rising = h.rising;
  whole = h.whole;
  at_id = ap (λ (n : ℕ). n + 1) h.at_id;
  at_order = ap (λ (q : ℕ). q + 1) h.at_order;
}

-- a source that is attached to a context of the lane
got_attached : (W : Type 0) (context first next order : ℕ) (before came : List Row) (now d : ℕ) (spec : SourceSpec) (reply : Option Awaited) (lane : Lane) → is_some (context_at d lane) ≡ true → Told d context
    → Stays W context first next order before came lane → Got W context first next order before came now (cond (d == context) (Some (record { spec = spec; reply = reply })) None) (edited d (attached spec now) lane)
got_attached W context first next order before came now d spec reply lane e (inl p) h =
    let c : Coming = record { spec = spec; reply = reply } in
    let f : Context → Context = with_rows (attached spec now) in
    let after : Lane = edited d (attached spec now) lane in
    let there : is_some (context_at context lane) ≡ true = subst (λ (n : ℕ). is_some (context_at n lane) ≡ true) p.1 e in
    let same : context_at context after ≡ option_map f (context_at context lane) =
    subst (λ (n : ℕ). context_at context (edited n (attached spec now) lane) ≡ option_map f (context_at context lane)) (sym p.1) (set_here f lane.contexts context) in
    subst (λ b. Got W context first next order before came now (cond b (Some c) None) after) (sym p.0) (record {
      kept = subst (IsLeft W (next + 1) (order + 1) before (came ++ root_row spec now next order ∷ [])) (sym same) (left_more W next order now spec before came (context_at context lane) there h.kept);
      named = h.named;
    })
got_attached W context first next order before came now d spec reply lane e (inr p) h =
    let c : Coming = record { spec = spec; reply = reply } in
    let after : Lane = edited d (attached spec now) lane in
    let stays : Stays W context first next order before came after = record {
      kept = subst (IsLeft W next order before came) (sym (set_there (with_rows (attached spec now)) lane.contexts d context p.1)) h.kept;
      named = h.named;
    } in
    subst (λ b. Got W context first next order before came now (cond b (Some c) None) after) (sym p.0) (none_more W context first next order before came now after stays)

-- what is not of the lane is not the context that it has
got_elsewhere : (W : Type 0) (context first next order : ℕ) (before came : List Row) (now d : ℕ) (c : Coming) (lane : Lane) → is_own d lane ≡ false → is_own context lane ≡ true → Told d context
    → Stays W context first next order before came lane → Got W context first next order before came now (cond (d == context) (Some c) None) lane
got_elsewhere W context first next order before came now d c lane e k (inl p) h = let no : false ≡ true = sym e ∙ (ap (λ (n : ℕ). is_own n lane) p.1 ∙ k) in cc
got_elsewhere W context first next order before came now d c lane e k (inr p) h =
    subst (λ b. Got W context first next order before came now (cond b (Some c) None) lane) (sym p.0) (none_more W context first next order before came now lane h)

got_source : (W : Type 0) (context first next order : ℕ) (before came : List Row) (tick now d : ℕ) (spec : SourceSpec) (lane : Lane) (b : Bool) → is_own d lane ≡ b → is_own context lane ≡ true
    → Stays W context first next order before came lane → Got W context first next order before came now (cond (d == context) (Some (record { spec = spec; reply = None })) None) (cond b (written tick (events.Arrive d (next_id (context_at d lane))) (edited d (attached spec now) lane)) lane)
got_source W context first next order before came tick now d spec lane true e k h =
    let g = got_attached W context first next order before came now d spec None lane (has_own d lane e) (eqb_tells d context) h in
    record { kept = g.kept; named = g.named }
got_source W context first next order before came tick now d spec lane false e k h = got_elsewhere W context first next order before came now d (record { spec = spec; reply = None }) lane e k (eqb_tells d context) h

got_reply : (W : Type 0) (context first next order : ℕ) (before came : List Row) (tick now sender : ℕ) (reply : Reply) (lane : Lane) (b : Bool) → is_own reply.ctx lane ≡ b → is_own context lane ≡ true
    → Stays W context first next order before came lane →
    let id : ℕ = next_id (context_at reply.ctx lane) in
    Got W context first next order before came now (cond (reply.ctx == context) (Some (record { spec = reply_spec reply; reply = Some (record { sender = sender; reply = reply }) })) None)
    (cond b (written tick (events.Arrive reply.ctx id) (holding reply.ctx id sender reply (edited reply.ctx (attached (reply_spec reply) now) lane))) lane)
got_reply W context first next order before came tick now sender reply lane true e k h =
    let g = got_attached W context first next order before came now reply.ctx (reply_spec reply) (Some (record { sender = sender; reply = reply })) lane (has_own reply.ctx lane e) (eqb_tells reply.ctx context) h in
    record { kept = g.kept; named = g.named }
got_reply W context first next order before came tick now sender reply lane false e k h =
    got_elsewhere W context first next order before came now reply.ctx (record { spec = reply_spec reply; reply = Some (record { sender = sender; reply = reply }) }) lane e k (eqb_tells reply.ctx context) h

-- a cancellation calls handlers
got_cancel : (W : Type 0) (context first next order : ℕ) (before came : List Row) (now : ℕ) (script : Plan) (tick c : ℕ) (lane : Lane) → (W → ⊥) → AllByRecursion (IsNew first) came
    → Stays W context first next order before came lane → Got W context first next order before came now None (cancel script tick c lane)
got_cancel W context first next order before came now script tick c lane f n h =
    let k = h.kept in
    let some : IsLeft ⊥ next order before came (context_at context lane) = record { left = k.left; rows = k.rows; among = k.among; rising = k.rising; whole = λ w. absurd w; at_id = k.at_id; at_order = k.at_order } in
    let g = hands_cancel context first next order before came script tick c lane n (record { kept = some; named = h.named }) in
    none_more W context first next order before came now (cancel script tick c lane)
    (record { kept = record { left = (g.kept).left; rows = (g.kept).rows; among = (g.kept).among; rising = (g.kept).rising; whole = λ w. absurd (f w); at_id = (g.kept).at_id; at_order = (g.kept).at_order }; named = g.named })

got_letter : (W : Type 0) (context first next order : ℕ) (before came : List Row) (script : Plan) (tick sender : ℕ) (body : Body) (lane : Lane) → is_own context lane ≡ true → (W → CallsNone body) → AllByRecursion (IsNew first) came
    → Stays W context first next order before came lane → Got W context first next order before came (time_of script tick) (coming_by context sender body) (received_body script tick sender body lane)
got_letter W context first next order before came script tick sender (Attach d spec) lane k f n h = got_source W context first next order before came tick (time_of script tick) d spec lane (is_own d lane) refl k h
got_letter W context first next order before came script tick sender (Complete reply) lane k f n h = got_reply W context first next order before came tick (time_of script tick) sender reply lane (is_own reply.ctx lane) refl k h
got_letter W context first next order before came script tick sender (Cancelled c) lane k f n h = got_cancel W context first next order before came (time_of script tick) script tick c lane f n h
got_letter W context first next order before came script tick sender (Give c to) lane k f n h = none_more W context first next order before came (time_of script tick) lane h

-- ---- a delivery

record Ends (W : Type 0) (context next order now : ℕ) (before came : List Row) (cs : List Coming) (lane after : Lane) : Type 0 where
  left : List Row
  rows : rows_of_context (context_at context after) ≡ left ++ (came ++ rows_from now next order cs)
  among : AllByRecursion (IsAmong before) left
  rising : IdsRise left
  whole : W → left ≡ before
  replies : AreHeld next cs (replies_at context after.replies)
  held : (id : ℕ) → id < next → reply_held context id after.replies ≡ reply_held context id lane.replies

rows_new : (first now next order : ℕ) (cs : List Coming) → first ≤ next → AllByRecursion (IsNew first) (rows_from now next order cs)
rows_new first now next order [] l = tt
rows_new first now next order (c ∷ cs) l = (root_new first next now order c.spec l, rows_new first now (next + 1) (order + 1) cs (omega (arith, l)))

next_up : (m : Option Coming) (n : ℕ) → n ≤ one_next m n
next_up None n = omega arith
next_up (Some c) n = omega arith

rows_joined : (now next order : ℕ) (came : List Row) (m : Option Coming) (cs : List Coming)
    → (came ++ rows_from now next order (cons_option m [])) ++ rows_from now (one_next m next) (one_next m order) cs ≡ came ++ rows_from now next order (cons_option m cs)
rows_joined now next order came None cs = ap (λ rs. rs ++ rows_from now next order cs) (append-nil came)
rows_joined now next order came (Some c) cs = append_assoc came (root_row c.spec now next order ∷ []) (rows_from now (next + 1) (order + 1) cs)

held_joined : (context next : ℕ) (m : Option Coming) (cs : List Coming) (lane mid after : Lane) → Adds context next m lane mid
    → ((id : ℕ) → id < one_next m next → reply_held context id after.replies ≡ reply_held context id mid.replies) → AreHeld (one_next m next) cs (replies_at context after.replies)
    → AreHeld next (cons_option m cs) (replies_at context after.replies)
held_joined context next None cs lane mid after a k h = h
held_joined context next (Some c) cs lane mid after a k h = (k next (omega arith) ∙ a.holds, h)

delivered_ends : (W : Type 0) (context first next order : ℕ) (before came : List Row) (script : Plan) (tick : ℕ) (letters : List Letter) (lane : Lane) → first ≤ next → is_own context lane ≡ true
    → (W → AllByRecursion (λ letter. CallsNone letter.body) letters) → AllByRecursion (IsNew first) came → IsFresh lane → Stays W context first next order before came lane
    → Ends W context next order (time_of script tick) before came (comings context letters) lane (received_all script tick letters lane)
delivered_ends W context first next order before came script tick [] lane l k f n fresh h = record {
  left = (h.kept).left;
  rows = (h.kept).rows ∙ ap (λ rs. (h.kept).left ++ rs) (sym (append-nil came));
  among = (h.kept).among;
  rising = (h.kept).rising;
  whole = (h.kept).whole;
  replies = tt;
  held = λ id m. refl;
}
delivered_ends W context first next order before came script tick (letter ∷ letters) lane l k f n fresh h =
    let now : ℕ = time_of script tick in
    let m : Option Coming = coming_by context letter.sender letter.body in
    let mid : Lane = received script tick letter lane in
    let got : Got W context first next order before came now m mid = got_letter W context first next order before came script tick letter.sender letter.body lane k (λ w. (f w).0) n h in
    let more : List Row = came ++ rows_from now next order (cons_option m []) in
    let adds : Adds context next m lane mid = subst (λ (i : ℕ). Adds context i m lane mid) (h.kept).at_id (letter_adds context script tick letter.sender letter.body lane k fresh) in
    let rest : Ends W context (one_next m next) (one_next m order) now before more (comings context letters) mid (received_all script tick letters mid) =
    delivered_ends W context first (one_next m next) (one_next m order) before more script tick letters mid (omega (arith, l, next_up m next)) (still_has context script tick letter.sender letter.body lane ∙ k) (λ w. (f w).1)
    (each_joined (IsNew first) came (rows_from now next order (cons_option m [])) n (rows_new first now next order (cons_option m []) l))
    (letter_gains 0 0 script tick letter.sender letter.body lane fresh).0 got in
    record {
      left = rest.left;
      rows = rest.rows ∙ ap (λ rs. rest.left ++ rs) (rows_joined now next order came m (comings context letters));
      among = rest.among;
      rising = rest.rising;
      whole = rest.whole;
      replies = held_joined context next m (comings context letters) lane mid (received_all script tick letters mid) adds rest.held rest.replies;
      held = λ id i. rest.held id (omega (arith, i, next_up m next)) ∙ adds.keeps id i;
    }

-- ---- runs

among_self : (o : Option Context) → NumberedIn o → AllByRecursion (IsAmong (rows_of_context o)) (rows_of_context o)
among_self None h = tt
among_self (Some c) h = all_of (λ (r : Row). row_with r.id c.rows.rows ≡ Some r) (IsAmong c.rows.rows) (λ r e. (r, e, refl)) c.rows.rows (all_found c.rows.rows h.rising)

named_in : (most : ℕ → ℕ) (c id : ℕ) (o : Option Context) → is_some o ≡ true → IsUnder most c o id → id < next_id o
named_in most c id None e u = let no : false ≡ true = e in cc
named_in most c id (Some x) e u = u

rising_self : (o : Option Context) → NumberedIn o → IdsRise (rows_of_context o)
rising_self None h = tt
rising_self (Some c) h = h.rising

attached_in : (most : ℕ → ℕ) (script : Plan) (tick context : ℕ) (letters : List Letter) (lane : Lane) → is_own context lane ≡ true → IsFresh lane → ArePast most lane.contexts lane.slots → NumberedIn (context_at context lane)
    → AreAttached script tick context letters lane (received_all script tick letters lane)
attached_in most script tick context letters lane k fresh past numbered =
    let W : Type 0 = AllByRecursion (λ letter. CallsNone letter.body) letters in
    let before : List Row = rows_of_context (context_at context lane) in
    let first : ℕ = next_id (context_at context lane) in
    let order : ℕ = next_order (context_at context lane) in
    let kept : IsLeft W first order before [] (context_at context lane) = record { left = before; rows = sym (append-nil before); among = among_self (context_at context lane) numbered; rising = rising_self (context_at context lane) numbered; whole = λ w. refl; at_id = refl; at_order = refl } in
    let named : Named context first lane = λ slot place e same. named_in most context place.id (context_at context lane) (has_own context lane k) (subst (λ (c : ℕ). IsUnder most c (context_at c lane) place.id) same (past_at most lane.contexts lane.slots slot place past e)) in
    let ends = delivered_ends W context first first order before [] script tick letters lane (omega arith) k (λ w. w) tt fresh (record { kept = kept; named = named }) in
    record { left = ends.left; rows = ends.rows; among = ends.among; rising = ends.rising; whole = ends.whole; replies = ends.replies; held = ends.held }

abbrev GainsAll : (script : Plan) (tick context : ℕ) (letters : List Letter) → Lane → Type 0
GainsAll script tick context letters lane = is_own context lane ≡ true → AreAttached script tick context letters lane (received_all script tick letters lane)

gains_each : (most : ℕ → ℕ) (script : Plan) (tick context : ℕ) (letters : List Letter) (lanes : List Lane) → AllByRecursion IsFresh lanes → AllByRecursion (IsBound most) lanes → AllByRecursion Rests lanes → AllByRecursion (GainsAll script tick context letters) lanes
gains_each most script tick context letters [] f b r = tt
gains_each most script tick context letters (lane ∷ lanes) f b r =
    ((λ k. attached_in most script tick context letters lane k f.0 (past_in most lane b.0) (((r.0).sits).numbered context)), gains_each most script tick context letters lanes f.1 b.1 r.1)

pub sources_run : (script : Plan) (tick context : ℕ) (letters : List Letter)
    → AllByRecursion (λ lane. is_own context lane ≡ true → AreAttached script tick context letters lane (received_all script tick letters lane)) (handed_over tick (posted_at script tick (lanes_at script tick)) (map (turned script tick) (lanes_at script tick)))
sources_run script tick context letters =
    let b = bound_went script tick (bound_run script tick) in
    gains_each b.0 script tick context letters (handed_over tick (posted_at script tick (lanes_at script tick)) (map (turned script tick) (lanes_at script tick))) (went 0 0 script tick).0 b.1 (rests_went script tick (rests_run script tick))

-- ---- whose sources letters tell

posted_of_invoke : (script : Plan) (lane : Lane) (tick sender number : ℕ) (letters : List Letter) (mail : Option Body) → AllByRecursion (λ l. IsOfInvoke l.body) letters → IsAllowed script lane mail → AllByRecursion (λ l. IsOfInvoke l.body) (posted_with tick sender number letters mail)
posted_of_invoke script lane tick sender number letters None h i = h
posted_of_invoke script lane tick sender number letters (Some body) h i = each-push (λ l. IsOfInvoke l.body) letters (sent_letter tick sender number body) h (of_invoke script lane body i)

invokes_on : (script : Plan) (tick : ℕ) (t u : Turn) → step script tick t ≡ Some u → AllByRecursion (λ l. IsOfInvoke l.body) t.posted → AllByRecursion (λ l. IsOfInvoke l.body) u.posted
invokes_on script tick t u e h =
    let s = step_tells script tick t u e in
    subst (AllByRecursion (λ (l : Letter). IsOfInvoke l.body)) (sym s.posted) (posted_of_invoke script (taken t.lane) tick t.lane.number t.sent t.posted s.mail h s.allowed)

invokes_of : (script : Plan) (tick : ℕ) (lane : Lane) → AllByRecursion (λ l. IsOfInvoke l.body) (out_of script tick lane)
invokes_of script tick lane = kept_finished script tick (λ t. AllByRecursion (λ l. IsOfInvoke l.body) t.posted) (invokes_on script tick) (begun tick lane) tt

invokes_all : (script : Plan) (tick : ℕ) (lanes : List Lane) → AllByRecursion (λ l. IsOfInvoke l.body) (posted_at script tick lanes)
invokes_all script tick [] = tt
invokes_all script tick (lane ∷ lanes) = each_joined (λ l. IsOfInvoke l.body) (out_of script tick lane) (posted_at script tick lanes) (invokes_of script tick lane) (invokes_all script tick lanes)

pub invokes_run : (script : Plan) (tick : ℕ) → AllByRecursion (λ letter. IsOfInvoke letter.body) (posted_at script tick (lanes_at script tick))
invokes_run script tick = invokes_all script tick (lanes_at script tick)
