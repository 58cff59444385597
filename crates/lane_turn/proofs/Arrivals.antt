-- What letters attach, and which lane has which context.
use Rattle.std.proofs.Common.{◌≡◌, ◌≢◌, ◌⊎◌, inl, inr, ℕ, zero, suc, ◌+◌, ◌<◌, ◌≤◌, ◌==◌, Bool, true, false, cond, Option, Some, None, List, [], ◌∷◌, ◌++◌, length, slice_set, refl, ap, sym, ◌∙◌, arith, subst, append-nil, ltb-true, ltb-false}
use Rattle.std.specs.Prelude.{not, ◌&&◌, unwrap_or, is_some, slice_get, slice_index_or, option_map, nat_lt}
use Rattle.std.specs.List.{AllByRecursion, cons_option}
use Rattle.std.proofs.lemmas.List.{append_assoc}
use Rattle.std.proofs.lemmas.List.Elements.{filter_map-append}
use Rattle.std.proofs.lemmas.Bool.Decides.{eqb_tells}
use Rattle.loop_script.specs.declared.plan.Plan.{Plan}
use Rattle.loop_script.specs.declared.source.SourceSpec.{SourceSpec}
use Rattle.loop_script.specs.Parts.{time_of, home_of}
use Rattle.source_rows.specs.Rows.{RowSet, attached, destroyed, ready_set}
use Rattle.context_core.specs.declared.context.Context.{Context}
use Rattle.post_office.specs.declared.letter.Letter.{Letter}
use Rattle.post_office.specs.declared.letter.Body.{Body as Mail}
use Rattle.post_office.specs.declared.letter.Body.TheVariants as mails
use Rattle.task_steps.specs.declared.entry.Reply.{Reply}
use Rattle.lane_turn.specs.declared.line.Line.{Line}
use Rattle.lane_turn.specs.declared.line.Event.{Event}
use Rattle.lane_turn.specs.declared.line.Event.TheVariants as events
use Rattle.lane_turn.specs.Sources.{no_sources}
use Rattle.lane_turn.specs.Lane.{Lane, present, context_at, next_id, with_rows, edited, written, is_own, is_given}
use Rattle.lane_turn.specs.Acted.{cancel}
use Rattle.lane_turn.specs.Deliver.{reply_spec, holding, received_body, received, received_all}
use Rattle.lane_turn.specs.Turn.{open_context, open_contexts_to, begun, turned}
use Rattle.lane_turn.specs.Arrivals.{is_for_body, is_for, arrival_of, arrivals, ids_for}
use Rattle.lane_turn.proofs.Moves as moves
use Rattle.lane_turn.proofs.Moves.{PlainMove, plainly, IsSaid, IsPlain, PlainLaw, noticed, has_own, next_more, cancel_by}
use Rattle.lane_turn.proofs.Steady.{held_of}
use Rattle.lane_turn.proofs.Sends.{step_tells}
use Rattle.lane_turn.proofs.Delivered.{got_given, received_steady}
use Rattle.lane_turn.proofs.Turns.{kept_finished}

-- ---- whose contexts are

pub own_held : (contexts : List (Option Context)) (i : ℕ) → is_some (present (slice_get contexts i)) ≡ slice_index_or (held_of contexts) i false
own_held [] i = refl
own_held (None ∷ contexts) zero = refl
own_held (Some c ∷ contexts) zero = refl
own_held (o ∷ contexts) (suc i) = own_held contexts i

pub held_turned : (script : Plan) (tick : ℕ) (lane : Lane) → held_of (turned script tick lane).contexts ≡ held_of lane.contexts
held_turned script tick lane =
    kept_finished script tick (λ t. held_of t.lane.contexts ≡ held_of lane.contexts) (λ t u e h. (step_tells script tick t u e).holds ∙ h) (begun tick lane) refl

pub held_received : (script : Plan) (tick : ℕ) (letters : List Letter) (lane : Lane) → held_of (received_all script tick letters lane).contexts ≡ held_of lane.contexts
held_received script tick [] lane = refl
held_received script tick (l ∷ letters) lane = held_received script tick letters (received script tick l lane) ∙ (received_steady script tick l.sender l.body lane).holds

-- a delivery leaves what is given
pub given_received : (script : Plan) (tick : ℕ) (letters : List Letter) (lane : Lane) → (received_all script tick letters lane).given ≡ lane.given
given_received script tick [] lane = refl
given_received script tick (l ∷ letters) lane = given_received script tick letters (received script tick l lane) ∙ ((received_steady script tick l.sender l.body lane).given ∙ got_given l.body lane.given)

-- lanes that have the same contexts, and gave the same, own the same
pub own_same : (context : ℕ) (lane home : Lane) → held_of lane.contexts ≡ held_of home.contexts → lane.given ≡ home.given → is_own context lane ≡ is_own context home
own_same context lane home h g =
    ap (λ b. b && not (is_given context lane)) (own_held lane.contexts context ∙ (ap (λ bs. slice_index_or bs context false) h ∙ sym (own_held home.contexts context)))
    ∙ ap (λ (gs : List Bool). is_some (context_at context home) && not (unwrap_or (slice_get gs context) false)) g

pub length_held : (script : Plan) (lane k : ℕ) → length (held_of (open_contexts_to script lane k)) ≡ k
length_held script lane zero = refl
length_held script lane (suc k) = length_push (open_contexts_to script lane k) (open_context script lane k) ∙ ap suc (length_held script lane k)
  where
    length_push : (os : List (Option Context)) (o : Option Context) → length (held_of (os ++ o ∷ [])) ≡ suc (length (held_of os))
    length_push [] o = refl
    length_push (x ∷ os) o = ap suc (length_push os o)

before_push : (os : List (Option Context)) (o : Option Context) (i : ℕ) → i < length (held_of os) → slice_index_or (held_of (os ++ o ∷ [])) i false ≡ slice_index_or (held_of os) i false
before_push [] o i h = absurd (omega (arith, h))
before_push (x ∷ os) o zero h = refl
before_push (x ∷ os) o (suc i) h = before_push os o i (omega (arith, h))

at_push : (os : List (Option Context)) (o : Option Context) (i : ℕ) → i ≡ length (held_of os) → slice_index_or (held_of (os ++ o ∷ [])) i false ≡ is_some o
at_push [] o zero h = refl
at_push [] o (suc i) h = absurd (omega (arith, h))
at_push (x ∷ os) o zero h = absurd (omega (arith, h))
at_push (x ∷ os) o (suc i) h = at_push os o i (omega (arith, h))

open_held : (script : Plan) (lane k : ℕ) → is_some (open_context script lane k) ≡ (home_of script k == lane)
open_held script lane k = held_by (home_of script k == lane)
  where
    held_by : (b : Bool) → is_some (cond b (Some (no_sources script)) None) ≡ b
    held_by true = refl
    held_by false = refl

open_by : (script : Plan) (lane k i : ℕ) (b : Bool) → nat_lt i k ≡ b → i < suc k → (i < k → slice_index_or (held_of (open_contexts_to script lane k)) i false ≡ (home_of script i == lane))
    → slice_index_or (held_of (open_contexts_to script lane (suc k))) i false ≡ (home_of script i == lane)
open_by script lane k i true e h f =
    let lt : i < k = ltb-true i k e in
    before_push (open_contexts_to script lane k) (open_context script lane k) i (omega (arith, lt, length_held script lane k)) ∙ f lt
open_by script lane k i false e h f =
    let le : k ≤ i = ltb-false i k e in
    let same : i ≡ k = omega (arith, le, h) in
    at_push (open_contexts_to script lane k) (open_context script lane k) i (omega (arith, same, length_held script lane k))
    ∙ (open_held script lane k ∙ ap (λ (n : ℕ). home_of script n == lane) (sym same))

pub open_at : (script : Plan) (lane k i : ℕ) → i < k → slice_index_or (held_of (open_contexts_to script lane k)) i false ≡ (home_of script i == lane)
open_at script lane zero i h = absurd (omega (arith, h))
open_at script lane (suc k) i h = open_by script lane k i (nat_lt i k) refl h (λ lt. open_at script lane k i lt)

-- ---- what handlers leave alone

-- no line tells of an arrival, and no id is given
record Calm (context : ℕ) (lane after : Lane) : Type 0 where
  pub lines : arrivals context after.trace ≡ arrivals context lane.trace
  pub next : next_id (context_at context after) ≡ next_id (context_at context lane)
  pub given : after.given ≡ lane.given

calm_line : (context tick : ℕ) (event : Event) (lane : Lane) → arrival_of context event ≡ None → arrivals context (lane.trace ++ (record { tick = tick; event = event }) ∷ []) ≡ arrivals context lane.trace
calm_line context tick event lane e =
    filter_map-append (λ (line : Line). arrival_of context line.event) lane.trace ((record { tick = tick; event = event }) ∷ [])
    ∙ (ap (λ o. arrivals context lane.trace ++ cons_option o []) e ∙ append-nil (arrivals context lane.trace))

calm_written : (context tick : ℕ) (event : Event) (lane : Lane) → arrival_of context event ≡ None → Calm context lane (written tick event lane)
calm_written context tick event lane e = record { lines = calm_line context tick event lane e; next = refl; given = refl }

calm_same : (context : ℕ) (lane after : Lane) → after.trace ≡ lane.trace → after.contexts ≡ lane.contexts → after.given ≡ lane.given → Calm context lane after
calm_same context lane after t c g = record { given = g; lines = ap (arrivals context) t; next = ap (λ (cs : List (Option Context)). next_id (present (slice_get cs context))) c }

calm_trans : (context : ℕ) (a b c : Lane) → Calm context a b → Calm context b c → Calm context a c
calm_trans context a b c h k = record { lines = k.lines ∙ h.lines; next = k.next ∙ h.next; given = k.given ∙ h.given }

next_kept : (f : Context → Context) → ((c : Context) → (f c).rows.next_id ≡ c.rows.next_id) → (contexts : List (Option Context)) (i j : ℕ) → next_id (present (slice_get (slice_set contexts i (option_map f (present (slice_get contexts i)))) j)) ≡ next_id (present (slice_get contexts j))
next_kept f e [] i j = refl
next_kept f e (None ∷ contexts) zero zero = refl
next_kept f e (Some c ∷ contexts) zero zero = e c
next_kept f e (o ∷ contexts) zero (suc j) = refl
next_kept f e (o ∷ contexts) (suc i) zero = refl
next_kept f e (o ∷ contexts) (suc i) (suc j) = next_kept f e contexts i j

calm_edit : (context d : ℕ) (edit : RowSet → RowSet) (lane : Lane) → ((s : RowSet) → (edit s).next_id ≡ s.next_id) → Calm context lane (edited d edit lane)
calm_edit context d edit lane e = record { given = refl; lines = refl; next = next_kept (with_rows edit) (λ c. e c.rows) lane.contexts d context }

calm_event : (context : ℕ) (event : Event) → IsSaid false event → arrival_of context event ≡ None
calm_event context (events.Arrive d id) h = absurd h
calm_event context _ h = refl

calm_each : (context tick : ℕ) (move : PlainMove) (lane : Lane) → IsPlain false move lane → Calm context lane (plainly tick move lane)
calm_each context tick (moves.Write event) lane m = calm_written context tick event lane (calm_event context event m)
calm_each context tick (moves.Destroy place) lane m = calm_edit context place.context (destroyed place.id) lane (λ s. refl)
calm_each context tick (moves.SetReady us place) lane m = calm_edit context place.context (ready_set place.id us) lane (λ s. refl)
calm_each context tick _ lane m = calm_same context lane _ refl refl refl

calm_cancel : (context : ℕ) (script : Plan) (tick c : ℕ) (lane : Lane) → Calm context lane (cancel script tick c lane)
calm_cancel context script tick c lane =
    let seen : Lane = noticed tick c lane in
    cancel_by law script (Calm context lane) c lane (λ e. calm_same context lane lane refl refl refl) (λ after e h. calm_trans context lane seen after (calm_same context lane seen refl refl refl) h)
  where
    law : PlainLaw false tick (Calm context)
    law = record { none = λ l. calm_same context l l refl refl refl; next = calm_trans context; each = calm_each context tick }

-- ---- what a letter attaches

-- a source in a context: the next id, and no other in another context
next_other : (f : Context → Context) (contexts : List (Option Context)) (i j : ℕ) → i ≢ j → next_id (present (slice_get (slice_set contexts i (option_map f (present (slice_get contexts i)))) j)) ≡ next_id (present (slice_get contexts j))
next_other f [] i j h = refl
next_other f (o ∷ contexts) zero zero h = absurd (h refl)
next_other f (o ∷ contexts) zero (suc j) h = refl
next_other f (o ∷ contexts) (suc i) zero h = refl
next_other f (o ∷ contexts) (suc i) (suc j) h = next_other f contexts i j (λ e. h (ap suc e))

abbrev one_id : Bool → ℕ → List ℕ
one_id true id = id ∷ []
one_id false id = []

abbrev one_more : Bool → ℕ → ℕ
one_more true n = n + 1
one_more false n = n

-- what a letter does, that attaches a source to a context or not
record Adds (context : ℕ) (attaches : Bool) (lane after : Lane) : Type 0 where
  pub lines : arrivals context after.trace ≡ arrivals context lane.trace ++ one_id attaches (next_id (context_at context lane))
  pub next : next_id (context_at context after) ≡ one_more attaches (next_id (context_at context lane))

adds_none : (context : ℕ) (lane after : Lane) → Calm context lane after → Adds context false lane after
adds_none context lane after h = record { lines = h.lines ∙ sym (append-nil (arrivals context lane.trace)); next = h.next }

-- a source that arrives, beside what is held for it
abbrev attached_at : (tick now d : ℕ) → SourceSpec → Lane → Lane
attached_at tick now d spec lane = written tick (events.Arrive d (next_id (context_at d lane))) (edited d (attached spec now) lane)

arrive_line : (context tick d id : ℕ) (ls : List Line) (b : Bool) → (d == context) ≡ b → arrivals context (ls ++ (record { tick = tick; event = events.Arrive d id }) ∷ []) ≡ arrivals context ls ++ one_id b id
arrive_line context tick d id ls b e =
    filter_map-append (λ (line : Line). arrival_of context line.event) ls ((record { tick = tick; event = events.Arrive d id }) ∷ [])
    ∙ (ap (λ b. arrivals context ls ++ cons_option (cond b (Some id) None) []) e ∙ ap (λ ids. arrivals context ls ++ ids) (by b))
  where
    by : (b : Bool) → cons_option (cond b (Some id) None) [] ≡ one_id b id
    by true = refl
    by false = refl

adds_one : (context tick now d : ℕ) (spec : SourceSpec) (lane : Lane) → is_own d lane ≡ true → ((d == context) ≡ true × d ≡ context) ⊎ ((d == context) ≡ false × d ≢ context)
    → Adds context (d == context) lane (attached_at tick now d spec lane)
adds_one context tick now d spec lane h (inl p) = record {
  lines = arrive_line context tick d (next_id (context_at d lane)) lane.trace true p.0 ∙ ap (λ (n : ℕ). arrivals context lane.trace ++ next_id (context_at n lane) ∷ []) p.1 ∙ ap (λ b. arrivals context lane.trace ++ one_id b (next_id (context_at context lane))) (sym p.0);
  next = subst (λ (n : ℕ). next_id (context_at n (edited d (attached spec now) lane)) ≡ next_id (context_at n lane) + 1) p.1 (next_more (with_rows (attached spec now)) (λ c. refl) lane.contexts d (has_own d lane h)) ∙ ap (λ b. one_more b (next_id (context_at context lane))) (sym p.0);
}
adds_one context tick now d spec lane h (inr p) = record {
  lines = arrive_line context tick d (next_id (context_at d lane)) lane.trace false p.0 ∙ ap (λ b. arrivals context lane.trace ++ one_id b (next_id (context_at context lane))) (sym p.0);
  next = next_other (with_rows (attached spec now)) lane.contexts d context p.1 ∙ ap (λ b. one_more b (next_id (context_at context lane))) (sym p.0);
}

abbrev Told : ℕ → ℕ → Type 0
Told d context = ((d == context) ≡ true × d ≡ context) ⊎ ((d == context) ≡ false × d ≢ context)

-- what is not of the lane is not the context that it has
adds_elsewhere : (context d : ℕ) (lane : Lane) → is_own d lane ≡ false → is_own context lane ≡ true → Told d context → Adds context (d == context) lane lane
adds_elsewhere context d lane e h (inl p) = let no : false ≡ true = sym e ∙ (ap (λ (n : ℕ). is_own n lane) p.1 ∙ h) in cc
adds_elsewhere context d lane e h (inr p) = subst (λ b. Adds context b lane lane) (sym p.0) (adds_none context lane lane (calm_same context lane lane refl refl refl))

attach_adds : (context tick now d : ℕ) (spec : SourceSpec) (lane : Lane) (b : Bool) → is_own d lane ≡ b → is_own context lane ≡ true → Adds context (d == context) lane (cond b (attached_at tick now d spec lane) lane)
attach_adds context tick now d spec lane true e h = adds_one context tick now d spec lane e (eqb_tells d context)
attach_adds context tick now d spec lane false e h = adds_elsewhere context d lane e h (eqb_tells d context)

reply_adds : (context tick now sender : ℕ) (reply : Reply) (lane : Lane) (b : Bool) → is_own reply.ctx lane ≡ b → is_own context lane ≡ true →
    let id : ℕ = next_id (context_at reply.ctx lane) in
    Adds context (reply.ctx == context) lane (cond b (written tick (events.Arrive reply.ctx id) (holding reply.ctx id sender reply (edited reply.ctx (attached (reply_spec reply) now) lane))) lane)
reply_adds context tick now sender reply lane true e h =
    let a = adds_one context tick now reply.ctx (reply_spec reply) lane e (eqb_tells reply.ctx context) in
    record { lines = a.lines; next = a.next }
reply_adds context tick now sender reply lane false e h = adds_elsewhere context reply.ctx lane e h (eqb_tells reply.ctx context)

letter_adds : (context : ℕ) (script : Plan) (tick sender : ℕ) (body : Mail) (lane : Lane) → is_own context lane ≡ true → Adds context (is_for_body context body) lane (received_body script tick sender body lane)
letter_adds context script tick sender (mails.Attach d spec) lane h = attach_adds context tick (time_of script tick) d spec lane (is_own d lane) refl h
letter_adds context script tick sender (mails.Complete reply) lane h = reply_adds context tick (time_of script tick) sender reply lane (is_own reply.ctx lane) refl h
letter_adds context script tick sender (mails.Give c to) lane h = adds_none context lane lane (calm_same context lane lane refl refl refl)
letter_adds context script tick sender (mails.Cancelled c) lane h = adds_none context lane (cancel script tick c lane) (calm_cancel context script tick c lane)

given_either : (lane x y : Lane) (b : Bool) → x.given ≡ lane.given → y.given ≡ lane.given → (cond b x y).given ≡ lane.given
given_either lane x y true p q = p
given_either lane x y false p q = q

-- a delivery leaves what was given
received_given : (script : Plan) (tick sender : ℕ) (body : Mail) (lane : Lane) → (received_body script tick sender body lane).given ≡ lane.given
received_given script tick sender (mails.Attach d spec) lane = given_either lane _ _ (is_own d lane) refl refl
received_given script tick sender (mails.Complete reply) lane = given_either lane _ _ (is_own reply.ctx lane) refl refl
received_given script tick sender (mails.Cancelled c) lane = (calm_cancel 0 script tick c lane).given
received_given script tick sender (mails.Give c to) lane = refl

pub still_there : (context : ℕ) (script : Plan) (tick sender : ℕ) (body : Mail) (lane : Lane) → is_some (context_at context (received_body script tick sender body lane)) ≡ is_some (context_at context lane)
still_there context script tick sender body lane =
    let after : Lane = received_body script tick sender body lane in
    own_held after.contexts context ∙ (ap (λ bs. slice_index_or bs context false) (received_steady script tick sender body lane).holds ∙ sym (own_held lane.contexts context))

pub still_has : (context : ℕ) (script : Plan) (tick sender : ℕ) (body : Mail) (lane : Lane) → is_own context (received_body script tick sender body lane) ≡ is_own context lane
still_has context script tick sender body lane =
    ap (λ b. b && not (is_given context (received_body script tick sender body lane))) (still_there context script tick sender body lane)
    ∙ ap (λ (gs : List Bool). is_some (context_at context lane) && not (unwrap_or (slice_get gs context) false)) (received_given script tick sender body lane)

ids_step : (context n : ℕ) (letters : List Letter) (b : Bool) → one_id b n ++ ids_for context (one_more b n) letters ≡ cond b (n ∷ ids_for context (n + 1) letters) (ids_for context n letters)
ids_step context n letters true = refl
ids_step context n letters false = refl

all_add : (context : ℕ) (script : Plan) (tick : ℕ) (letters : List Letter) (lane : Lane) → is_own context lane ≡ true
    → arrivals context (received_all script tick letters lane).trace ≡ arrivals context lane.trace ++ ids_for context (next_id (context_at context lane)) letters
all_add context script tick [] lane h = sym (append-nil (arrivals context lane.trace))
all_add context script tick (l ∷ letters) lane h =
    let next : Lane = received script tick l lane in
    let n : ℕ = next_id (context_at context lane) in
    let b : Bool = is_for context l in
    let a : Adds context b lane next = letter_adds context script tick l.sender l.body lane h in
    let before : List ℕ = arrivals context lane.trace in
    all_add context script tick letters next (still_has context script tick l.sender l.body lane ∙ h)
    ∙ (ap (λ ids. ids ++ ids_for context (next_id (context_at context next)) letters) a.lines
    ∙ (ap (λ (k : ℕ). (before ++ one_id b n) ++ ids_for context k letters) a.next
    ∙ (append_assoc before (one_id b n) (ids_for context (one_more b n) letters)
    ∙ ap (λ ids. before ++ ids) (ids_step context n letters b))))

pub arrive_once : (script : Plan) (tick context : ℕ) (letters : List Letter) (lane : Lane) (c : Context) → is_own context lane ≡ true → context_at context lane ≡ Some c
    → arrivals context (received_all script tick letters lane).trace ≡ arrivals context lane.trace ++ ids_for context c.rows.next_id letters
arrive_once script tick context letters lane c h e =
    all_add context script tick letters lane h
    ∙ ap (λ (o : Option Context). arrivals context lane.trace ++ ids_for context (next_id o) letters) e

-- ---- what no letter attaches

line_elsewhere : (context tick now d : ℕ) (spec : SourceSpec) (lane : Lane) → is_own d lane ≡ true → is_own context lane ≡ false → Told d context
    → arrivals context (attached_at tick now d spec lane).trace ≡ arrivals context lane.trace
line_elsewhere context tick now d spec lane e h (inl p) = let no : true ≡ false = sym e ∙ (ap (λ (n : ℕ). is_own n lane) p.1 ∙ h) in cc
line_elsewhere context tick now d spec lane e h (inr p) = arrive_line context tick d (next_id (context_at d lane)) lane.trace false p.0 ∙ append-nil (arrivals context lane.trace)

attach_elsewhere : (context tick now d : ℕ) (spec : SourceSpec) (lane : Lane) (b : Bool) → is_own d lane ≡ b → is_own context lane ≡ false
    → arrivals context (cond b (attached_at tick now d spec lane) lane).trace ≡ arrivals context lane.trace
attach_elsewhere context tick now d spec lane true e h = line_elsewhere context tick now d spec lane e h (eqb_tells d context)
attach_elsewhere context tick now d spec lane false e h = refl

reply_elsewhere : (context tick now sender : ℕ) (reply : Reply) (lane : Lane) (b : Bool) → is_own reply.ctx lane ≡ b → is_own context lane ≡ false →
    let id : ℕ = next_id (context_at reply.ctx lane) in
    arrivals context (cond b (written tick (events.Arrive reply.ctx id) (holding reply.ctx id sender reply (edited reply.ctx (attached (reply_spec reply) now) lane))) lane).trace ≡ arrivals context lane.trace
reply_elsewhere context tick now sender reply lane true e h = line_elsewhere context tick now reply.ctx (reply_spec reply) lane e h (eqb_tells reply.ctx context)
reply_elsewhere context tick now sender reply lane false e h = refl

letter_elsewhere : (context : ℕ) (script : Plan) (tick sender : ℕ) (body : Mail) (lane : Lane) → is_own context lane ≡ false → arrivals context (received_body script tick sender body lane).trace ≡ arrivals context lane.trace
letter_elsewhere context script tick sender (mails.Attach d spec) lane h = attach_elsewhere context tick (time_of script tick) d spec lane (is_own d lane) refl h
letter_elsewhere context script tick sender (mails.Complete reply) lane h = reply_elsewhere context tick (time_of script tick) sender reply lane (is_own reply.ctx lane) refl h
letter_elsewhere context script tick sender (mails.Give c to) lane h = refl
letter_elsewhere context script tick sender (mails.Cancelled c) lane h = (calm_cancel context script tick c lane).lines

all_elsewhere : (context : ℕ) (script : Plan) (tick : ℕ) (letters : List Letter) (lane : Lane) → is_own context lane ≡ false → arrivals context (received_all script tick letters lane).trace ≡ arrivals context lane.trace
all_elsewhere context script tick [] lane h = refl
all_elsewhere context script tick (l ∷ letters) lane h =
    all_elsewhere context script tick letters (received script tick l lane) (still_has context script tick l.sender l.body lane ∙ h) ∙ letter_elsewhere context script tick l.sender l.body lane h

pub arrive_elsewhere : (script : Plan) (tick context : ℕ) (letters : List Letter) (lane : Lane) → is_own context lane ≡ false → arrivals context (received_all script tick letters lane).trace ≡ arrivals context lane.trace
arrive_elsewhere script tick context letters lane e = all_elsewhere context script tick letters lane e

-- each lane of some, whatever letters come
pub follow_each : (script : Plan) (tick context : ℕ) (letters : List Letter) (lanes : List Lane)
    → AllByRecursion (λ lane. (c : Context) → is_own context lane ≡ true → context_at context lane ≡ Some c → arrivals context (received_all script tick letters lane).trace ≡ arrivals context lane.trace ++ ids_for context c.rows.next_id letters) lanes
follow_each script tick context letters [] = tt
follow_each script tick context letters (lane ∷ lanes) = (λ c h e. arrive_once script tick context letters lane c h e, follow_each script tick context letters lanes)
