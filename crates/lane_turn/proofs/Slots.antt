-- What slots name: handlers, and sources that there have been.
use Rattle.std.proofs.Common.{◌≡◌, ℕ, zero, suc, ◌<◌, Bool, true, false, not, ◌&&◌, cond, Option, Some, None, List, [], ◌∷◌, slice_set, refl, sym, ◌∙◌, arith, subst}
use Rattle.std.specs.Prelude.{slice_get, nat_lt}
use Rattle.std.specs.List.{AllByRecursion}
use Rattle.loop_script.specs.declared.plan.Plan.{Plan}
use Rattle.loop_script.specs.declared.action.Action.{Action}
use Rattle.loop_script.specs.declared.body.Body.{Body}
use Rattle.loop_script.specs.Parts.{actions_of, stays}
use Rattle.source_rows.specs.declared.row.Row.{Row}
use Rattle.source_rows.specs.Rows.{destroyed, ready_set}
use Rattle.context_core.specs.declared.context.Context.{Context}
use Rattle.post_office.specs.declared.letter.Letter.{Letter}
use Rattle.post_office.specs.declared.letter.Body.{Body as Mail}
use Rattle.post_office.specs.declared.letter.Body.TheVariants as mails
use Rattle.lane_watch.specs.Tasks.{Started}
use Rattle.lane_turn.specs.declared.line.Event.TheVariants as events
use Rattle.lane_turn.specs.declared.lane.Status.{Status}
use Rattle.lane_turn.specs.declared.lane.Status.TheVariants.{GoesOn, Ended, Halted}
use Rattle.lane_turn.proofs.Moves as moves
use Rattle.lane_turn.proofs.Moves.{PlainMove, plainly, IsThere, IsPlain, PlainLaw, changed_by, Move, moved, MayMove, Law, cancel_by, acted_by}
use Rattle.lane_turn.specs.declared.layer.Asker.{Asker}
use Rattle.lane_turn.specs.declared.layer.Asker.TheVariants as askers
use Rattle.lane_turn.specs.declared.layer.Call.{Call}
use Rattle.lane_turn.specs.declared.layer.Origin.{Origin}
use Rattle.lane_turn.specs.declared.layer.Origin.TheVariants as origins
use Rattle.lane_turn.specs.declared.slot.Place.{Place}
use Rattle.lane_turn.specs.declared.slot.Named.{Named}
use Rattle.lane_turn.specs.declared.slot.Named.TheVariants.{Source, Handler}
use Rattle.lane_turn.specs.Frames.{Frame, CallOf, IterOf, LoopOf, calls_in_progress}
use Rattle.lane_turn.specs.Lane.{Lane, Turn, present, is_own, context_at, with_rows, with_context, next_id, source_of, held, row_of, written, stopped, popped, taken, iterating, is_running}
use Rattle.lane_turn.specs.Acted.{cancel, acted, sends}
use Rattle.lane_turn.specs.Step.{step, step_polling, step_call, step_id, limited_by, with_lane, dispatched, dispatching, returned, answered, polled}
use Rattle.lane_turn.specs.Turn.{begun, turned}
use Rattle.lane_turn.specs.Deliver.{received_body, received, received_all}
use Rattle.lane_turn.proofs.Follows.{FollowsIn, AllFollow}
use Rattle.lane_turn.proofs.Counts.{Edits, edits_destroyed, edits_ready_set, all_changed, follow_all}
use Rattle.lane_turn.proofs.Adds.{edits_by}
use Rattle.lane_turn.proofs.Added.{does}
use Rattle.lane_turn.proofs.Traced.{brings_all}
use Rattle.lane_turn.proofs.Turns.{kept_finished}

-- an id that was given in a context: in one that is elsewhere it is below a bound
abbrev pub IsUnder : (ℕ → ℕ) → ℕ → Option Context → ℕ → Type 0
IsUnder most c None id = id < most c
IsUnder most c (Some context) id = id < context.rows.next_id

-- a slot names nothing, a handler, or a source whose id was given
abbrev pub IsPast : (ℕ → ℕ) → List (Option Context) → Option Named → Type 0
IsPast most contexts None = Unit {0}
IsPast most contexts (Some (Source place)) = IsUnder most place.context (present (slice_get contexts place.context)) place.id
IsPast most contexts (Some (Handler id)) = Unit {0}

abbrev pub ArePast : (ℕ → ℕ) → List (Option Context) → List (Option Named) → Type 0
ArePast most contexts slots = AllByRecursion (IsPast most contexts) slots

under_on : (most : ℕ → ℕ) (c id : ℕ) (o p : Option Context) → FollowsIn o p → IsUnder most c o id → IsUnder most c p id
under_on most c id None None f h = h
under_on most c id None (Some d) f h = absurd f
under_on most c id (Some x) None f h = absurd f
under_on most c id (Some x) (Some d) f h = omega (arith, h, f.next)

-- what is below the next id of a context was given
under_next : (most : ℕ → ℕ) (c id : ℕ) (o : Option Context) → id < next_id o → IsUnder most c o id
under_next most c id None h = absurd (omega (arith, h))
under_next most c id (Some x) h = h

past_held : (most : ℕ → ℕ) (before after : List (Option Context)) → AllFollow before after → (thing : Option Named) → IsPast most before thing → IsPast most after thing
past_held most before after r None h = tt
past_held most before after r (Some (Source place)) h = under_on most place.context place.id (present (slice_get before place.context)) (present (slice_get after place.context)) (r place.context) h
past_held most before after r (Some (Handler id)) h = tt

past_still : (most : ℕ → ℕ) (before after : List (Option Context)) → AllFollow before after → (slots : List (Option Named)) → ArePast most before slots → ArePast most after slots
past_still most before after r [] h = tt
past_still most before after r (thing ∷ slots) h = (past_held most before after r thing h.0, past_still most before after r slots h.1)

past_set : (most : ℕ → ℕ) (contexts : List (Option Context)) (thing : Option Named) → IsPast most contexts thing → (slots : List (Option Named)) (slot : ℕ) → ArePast most contexts slots → ArePast most contexts (slice_set slots slot thing)
past_set most contexts thing p [] slot h = tt
past_set most contexts thing p (x ∷ slots) zero h = (p, h.1)
past_set most contexts thing p (x ∷ slots) (suc slot) h = (h.0, past_set most contexts thing p slots slot h.1)

some_place : (a b : Place) → Some a ≡ Some b → a ≡ b
some_place a b e = cc

pub past_at : (most : ℕ → ℕ) (contexts : List (Option Context)) (slots : List (Option Named)) (slot : ℕ) (place : Place) → ArePast most contexts slots → source_of (held (slice_get slots slot)) ≡ Some place → IsUnder most place.context (present (slice_get contexts place.context)) place.id
past_at most contexts [] slot place h e = let no : None ≡ Some place = e in cc
past_at most contexts (None ∷ slots) zero place h e = let no : None ≡ Some place = e in cc
past_at most contexts (Some (Source it) ∷ slots) zero place h e = subst (λ (p : Place). IsUnder most p.context (present (slice_get contexts p.context)) p.id) (some_place it place e) h.0
past_at most contexts (Some (Handler id) ∷ slots) zero place h e = let no : None ≡ Some place = e in cc
past_at most contexts (x ∷ slots) (suc slot) place h e = past_at most contexts slots slot place h.1 e

-- ---- what handlers leave of slots: all

slots_either : (lane x y : Lane) (b : Bool) → x.slots ≡ lane.slots → y.slots ≡ lane.slots → (cond b x y).slots ≡ lane.slots
slots_either lane x y true p q = p
slots_either lane x y false p q = q

slots_each : (tick : ℕ) (move : PlainMove) (lane : Lane) → IsPlain false move lane → (plainly tick move lane).slots ≡ lane.slots
slots_each tick (moves.Name slot thing) lane m = absurd m.0
slots_each tick _ lane m = refl

slots_moves : (tick : ℕ) → PlainLaw false tick (λ a b. b.slots ≡ a.slots)
slots_moves tick = record { none = λ lane. refl; next = λ a b c h g. g ∙ h; each = slots_each tick }

slots_cancel : (script : Plan) (tick c : ℕ) (lane : Lane) → (cancel script tick c lane).slots ≡ lane.slots
slots_cancel script tick c lane = cancel_by (slots_moves tick) script (λ after. after.slots ≡ lane.slots) c lane (λ e. refl) (λ after e h. h)

-- ---- what slots name was given, after each action too

abbrev Names : Lane → Lane → Type 0
Names lane after = (most : ℕ → ℕ) → ArePast most lane.contexts lane.slots → ArePast most after.contexts after.slots

-- the same slots, of sources that go on
names_same : (lane after : Lane) → AllFollow lane.contexts after.contexts → after.slots ≡ lane.slots → Names lane after
names_same lane after f e most h = subst (ArePast most after.contexts) (sym e) (past_still most lane.contexts after.contexts f lane.slots h)

names_change : (context : ℕ) (change : Context → Context) (lane : Lane) → ((c : Context) → Edits c.rows (change c).rows) → Names lane (with_context context change lane)
names_change context change lane e =
    let after : Lane = with_context context change lane in
    names_same lane after (follow_all lane.contexts after.contexts (all_changed change e lane.contexts context)) refl

past_thing : (most : ℕ → ℕ) (thing : Named) (lane : Lane) → IsThere thing lane → IsPast most lane.contexts (Some thing)
past_thing most (Source place) lane h = under_next most place.context place.id (context_at place.context lane) h
past_thing most (Handler id) lane h = tt

names_plain : (tick : ℕ) (move : PlainMove) (lane : Lane) → IsPlain true move lane → Names lane (plainly tick move lane)
names_plain tick (moves.Name slot thing) lane m = λ most h. past_set most lane.contexts (Some thing) (past_thing most thing lane m.1) lane.slots slot h
names_plain tick (moves.Destroy place) lane m = names_change place.context (with_rows (destroyed place.id)) lane (λ c. edits_destroyed place.id c.rows)
names_plain tick (moves.SetReady us place) lane m = names_change place.context (with_rows (ready_set place.id us)) lane (λ c. edits_ready_set place.id us c.rows)
names_plain tick _ lane m = λ most h. h

names_each : (script : Plan) (tick : ℕ) (move : Move) (lane : Lane) → MayMove script move lane → Names lane (moved script tick move lane)
names_each script tick (moves.Alter context it) lane m = names_change context (changed_by it) lane (edits_by it)
names_each script tick _ lane m = λ most h. h

names_moves : (script : Plan) (tick : ℕ) → Law script tick Names (λ mail. Names)
names_moves script tick = record {
  plain = record { none = λ lane most h. h; next = λ a b c h g most p. g most (h most p); each = names_plain tick };
  of = λ a b h. h;
  next = λ mail a b c h g most p. g most (h most p);
  each = names_each script tick;
}

-- ---- a step

-- of a step that leaves what sources stood
abbrev On : Turn → Turn → Type 0
On t u = AllFollow t.lane.contexts u.lane.contexts → Names t.lane u.lane

some_same : (t u : Turn) → Some t ≡ Some u → t ≡ u
some_same t u e = cc

on_left : (t u : Turn) → u.lane.slots ≡ t.lane.slots → On t u
on_left t u e f = names_same t.lane u.lane f e

slots_counted : (tick : ℕ) (mail : Option Mail) (f : Lane → Lane) (t : Turn) (left : ℕ) → (f t.lane).slots ≡ t.lane.slots → (limited_by tick mail f t left).lane.slots ≡ t.lane.slots
slots_counted tick mail f t zero h = refl
slots_counted tick mail f t (suc left) h = h

slots_returned : (script : Plan) (tick : ℕ) (body : Body) (origin : Origin) (lane : Lane) → (returned script tick body origin lane).slots ≡ lane.slots
slots_returned script tick body origins.Start lane = refl
slots_returned script tick body (origins.Invoke acquired) lane = refl
slots_returned script tick body (origins.Source caller) lane = slots_either lane _ _ (not caller.once && stays script body caller.number) refl refl

slots_answered : (tick context : ℕ) (asker : Asker) (lane : Lane) → (answered tick context asker lane).slots ≡ lane.slots
slots_answered tick context askers.Loop lane = refl
slots_answered tick context (askers.Iterate any) lane = refl

on_acted : (script : Plan) (tick : ℕ) (a : Action) (t : Turn) (left : ℕ) → On t (limited_by tick (sends script a (taken t.lane)) (λ lane. acted script tick a (taken lane)) t left)
on_acted script tick a t zero f most p = p
on_acted script tick a t (suc left) f most p = acted_by (names_moves script tick) a (taken t.lane) most p

on_call : (script : Plan) (tick : ℕ) (t : Turn) (call : Call) (a : Option Action) → On t (step_call script tick t call a)
on_call script tick t call (Some a) = on_acted script tick a t t.left
on_call script tick t call None = on_left t (step_call script tick t call None) (slots_returned script tick call.body call.origin (popped t.lane))

on_id : (tick : ℕ) (t : Turn) (context : ℕ) (r : Option Row) → On t (step_id tick t context r)
on_id tick t context None = on_left t (step_id tick t context None) refl
on_id tick t context (Some row) =
    on_left t (step_id tick t context (Some row))
    (slots_counted tick None (dispatching tick context row) t t.left (slots_either t.lane (dispatched tick context row t.lane) (stopped Halted (written tick events.HaltDepth t.lane)) (nat_lt (calls_in_progress t.lane.frames) 32) refl refl))

on_loop : (script : Plan) (tick : ℕ) (t : Turn) (number context : ℕ) (runs iterated : Bool) (u : Turn)
    → cond runs (cond iterated None (Some (record t { lane = iterating script tick context askers.Loop t.lane; iterated = true }))) (Some (with_lane (λ lane. written tick (events.LoopEnd number) (popped lane)) t)) ≡ Some u → On t u
on_loop script tick t number context true true u e = cc
on_loop script tick t number context true false u e = subst (On t) (some_same _ _ e) (on_left t (record t { lane = iterating script tick context askers.Loop t.lane; iterated = true }) refl)
on_loop script tick t number context false iterated u e = subst (On t) (some_same _ _ e) (on_left t (with_lane (λ lane. written tick (events.LoopEnd number) (popped lane)) t) refl)

abbrev turn : Turn → List Frame → Status → Turn
turn t frames status = record t { lane = record t.lane { frames = frames; status = status }; unpolled = [] }

on_step : (script : Plan) (tick : ℕ) (t : Turn) (frames : List Frame) (status : Status) (u : Turn) → step script tick (turn t frames status) ≡ Some u → On (turn t frames status) u
on_step script tick t [] GoesOn u e = cc
on_step script tick t (CallOf call ∷ below) GoesOn u e =
    let now : Turn = turn t (CallOf call ∷ below) GoesOn in
    subst (On now) (some_same _ _ e) (on_call script tick now call (slice_get (actions_of script call.body) call.place))
on_step script tick t (IterOf context [] asker ∷ below) GoesOn u e =
    let now : Turn = turn t (IterOf context [] asker ∷ below) GoesOn in
    subst (On now) (some_same _ _ e) (on_left now (with_lane (λ lane. answered tick context asker (popped lane)) now) (slots_answered tick context asker (popped now.lane)))
on_step script tick t (IterOf context (id ∷ ids) asker ∷ below) GoesOn u e =
    let now : Turn = turn t (IterOf context (id ∷ ids) asker ∷ below) GoesOn in
    subst (On now) (some_same _ _ e) (on_id tick now context (row_of context id now.lane))
on_step script tick t (LoopOf number context ∷ below) GoesOn u e =
    let now : Turn = turn t (LoopOf number context ∷ below) GoesOn in
    on_loop script tick now number context (is_running number now.lane) now.iterated u e
on_step script tick t frames Ended u e = cc
on_step script tick t frames Halted u e = cc

on_polling : (script : Plan) (tick : ℕ) (t : Turn) (tasks : List Started) (u : Turn) → step_polling script tick (record t { unpolled = tasks }) tasks ≡ Some u → On (record t { unpolled = tasks }) u
on_polling script tick t [] u e = on_step script tick t t.lane.frames t.lane.status u e
on_polling script tick t (task ∷ tasks) u e = subst (On (record t { unpolled = task ∷ tasks })) (some_same _ _ e) (on_left (record t { unpolled = task ∷ tasks }) (polled tick task (record t { unpolled = tasks })) refl)

past_step : (most : ℕ → ℕ) (script : Plan) (tick : ℕ) (t u : Turn) → step script tick t ≡ Some u → ArePast most t.lane.contexts t.lane.slots → ArePast most u.lane.contexts u.lane.slots
past_step most script tick t u e h = on_polling script tick t t.unpolled u e (does script tick t u e).rows most h

-- ---- turns and deliveries

pub past_turned : (most : ℕ → ℕ) (script : Plan) (tick : ℕ) (lane : Lane) → ArePast most lane.contexts lane.slots → ArePast most (turned script tick lane).contexts (turned script tick lane).slots
past_turned most script tick lane h = kept_finished script tick (λ t. ArePast most t.lane.contexts t.lane.slots) (past_step most script tick) (begun tick lane) h

pub slots_received : (script : Plan) (tick sender : ℕ) (body : Mail) (lane : Lane) → (received_body script tick sender body lane).slots ≡ lane.slots
slots_received script tick sender (mails.Attach d spec) lane = slots_either lane _ lane (is_own d lane) refl refl
slots_received script tick sender (mails.Complete reply) lane = slots_either lane _ lane (is_own reply.ctx lane) refl refl
slots_received script tick sender (mails.Cancelled c) lane = slots_cancel script tick c lane
slots_received script tick sender (mails.Give c to) lane = refl

slots_delivered : (script : Plan) (tick : ℕ) (letters : List Letter) (lane : Lane) → (received_all script tick letters lane).slots ≡ lane.slots
slots_delivered script tick [] lane = refl
slots_delivered script tick (l ∷ letters) lane = slots_delivered script tick letters (received script tick l lane) ∙ slots_received script tick l.sender l.body lane

pub past_delivered : (most : ℕ → ℕ) (script : Plan) (tick : ℕ) (letters : List Letter) (lane : Lane) → ArePast most lane.contexts lane.slots → ArePast most (received_all script tick letters lane).contexts (received_all script tick letters lane).slots
past_delivered most script tick letters lane h =
    let after : Lane = received_all script tick letters lane in
    names_same lane after (follow_all lane.contexts after.contexts (brings_all script tick letters lane).adds.rows) (slots_delivered script tick letters lane) most h
