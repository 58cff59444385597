-- What a step leaves as it stands: each context that is not the lane's own, and not acquired. So each that it gave in this tick.
use Rattle.std.proofs.Common.{◌≡◌, ◌≢◌, ℕ, zero, suc, ◌||◌, ◌&&◌, Bool, true, false, cond, Option, Some, None, List, [], ◌∷◌, option_map, refl, ap, sym, ◌∙◌, subst}
use Rattle.std.specs.Prelude.{slice_set, not, is_some, is_none, unwrap_or, slice_get, nat_lt}
use Rattle.std.specs.List.{list_any}
use Rattle.std.proofs.lemmas.Bool.{eq-eqb}
use Rattle.loop_script.specs.declared.plan.Plan.{Plan}
use Rattle.loop_script.specs.declared.action.Action.{Action}
use Rattle.loop_script.specs.declared.body.Body.{Body}
use Rattle.loop_script.specs.Parts.{time_of, actions_of, stays}
use Rattle.source_rows.specs.declared.row.Row.{Row}
use Rattle.source_rows.specs.Rows.{RowSet, counted, destroyed, ready_set, priority_fault}
use Rattle.context_core.specs.declared.context.Context.{Context}
use Rattle.post_office.specs.declared.letter.Body.{Body as Mail}
use Rattle.lane_watch.specs.Tasks.{Started}
use Rattle.lane_turn.specs.declared.line.Event.TheVariants as events
use Rattle.lane_turn.specs.declared.lane.Status.{Status}
use Rattle.lane_turn.specs.declared.lane.Status.TheVariants.{GoesOn, Ended, Halted}
use Rattle.lane_turn.proofs.Moves as moves
use Rattle.lane_turn.proofs.Moves.{PlainMove, plainly, IsPlain, PlainLaw, Change, changed_by, MayChange, Move, moved, MayMove, Law, both_left, acted_by}
use Rattle.lane_turn.specs.declared.layer.Asker.{Asker}
use Rattle.lane_turn.specs.declared.layer.Asker.TheVariants as askers
use Rattle.lane_turn.specs.declared.layer.Call.{Call}
use Rattle.lane_turn.specs.declared.layer.Origin.{Origin}
use Rattle.lane_turn.specs.declared.layer.Origin.TheVariants as origins
use Rattle.lane_turn.specs.declared.slot.Place.{Place}
use Rattle.lane_turn.specs.Frames.{Frame, CallOf, IterOf, LoopOf, owns, calls_in_progress}
use Rattle.lane_turn.specs.Replies.{replies_at, held_without}
use Rattle.lane_turn.specs.Lane.{Lane, Turn, present, context_at, is_given, is_own, with_rows, with_context, edited, row_of, row_at, written, popped, taken, stopped, is_running, iterating}
use Rattle.lane_turn.specs.Owned.{may_release}
use Rattle.lane_turn.specs.Acted.{can_bear_in, acted, sends}
use Rattle.lane_turn.specs.Sources.{restarted}
use Rattle.lane_turn.specs.Step.{step, step_polling, step_call, step_id, limited_by, with_lane, dispatched, dispatching, returned, answered}
use Rattle.lane_turn.proofs.Owning.{right_or}
use Rattle.lane_turn.proofs.Whole.{set_other, index_other}
use Rattle.lane_turn.proofs.Freed.{no_false}
use Rattle.lane_turn.proofs.Caused.{IsCaused, AreCaused}

-- a context with its replies is as it was
abbrev pub Still : ℕ → Lane → Lane → Type 0
Still c lane after = (context_at c after ≡ context_at c lane) × (replies_at c after.replies ≡ replies_at c lane.replies)

still_either : (c : ℕ) (lane x y : Lane) (b : Bool) → Still c lane x → Still c lane y → Still c lane (cond b x y)
still_either c lane x y true p q = p
still_either c lane x y false p q = q

-- a context of the lane's own is another
apart : (c d : ℕ) (lane : Lane) → is_own d lane ≡ true → is_own c lane ≡ false → c ≢ d
apart c d lane e f q = no_false (is_own d lane) e (ap (λ (n : ℕ). is_own n lane) (sym q) ∙ f)

still_change : (c d : ℕ) (change : Context → Context) (lane : Lane) → c ≢ d → Still c lane (with_context d change lane)
still_change c d change lane h = (ap present (set_other lane.contexts d c (option_map change (context_at d lane)) h), refl)

still_edit : (c d : ℕ) (edit : RowSet → RowSet) (lane : Lane) → c ≢ d → Still c lane (edited d edit lane)
still_edit c d edit lane h = still_change c d (with_rows edit) lane h

-- a source that a slot names is there where its context is the lane's own
own_row : (place : Place) (lane : Lane) → is_some (row_at place lane) ≡ true → is_own place.context lane ≡ true
own_row place lane e = by (is_own place.context lane) e
  where
    by : (b : Bool) → is_some (cond b (row_of place.context place.id lane) None) ≡ true → b ≡ true
    by true p = refl
    by false p = p

-- ---- moves

-- plain moves leave it, and which contexts are given
abbrev pub Spares : ℕ → Lane → Lane → Type 0
Spares c lane after = (context_at c after ≡ context_at c lane) × (replies_at c after.replies ≡ replies_at c lane.replies) × (after.given ≡ lane.given)

not_own_on : (c : ℕ) (lane after : Lane) → Spares c lane after → is_own c lane ≡ false → is_own c after ≡ false
not_own_on c lane after h e =
    ap (λ (o : Option Context). is_some o && not (is_given c after)) h.0
    ∙ (ap (λ (gs : List Bool). is_some (context_at c lane) && not (unwrap_or (slice_get gs c) false)) h.2 ∙ e)

spares_each : (c tick : ℕ) (move : PlainMove) (lane : Lane) → IsPlain true move lane → is_own c lane ≡ false → Spares c lane (plainly tick move lane)
spares_each c tick (moves.Destroy place) lane m e = ((still_edit c place.context (destroyed place.id) lane (apart c place.context lane (own_row place lane m) e)).0, refl, refl)
spares_each c tick (moves.SetReady us place) lane m e = ((still_edit c place.context (ready_set place.id us) lane (apart c place.context lane (own_row place lane m) e)).0, refl, refl)
spares_each c tick _ lane m e = (refl, refl, refl)

spares_moves : (c tick : ℕ) → PlainLaw true tick (λ a b. is_own c a ≡ false → Spares c a b)
spares_moves c tick = record {
  none = λ lane e. (refl, refl, refl);
  next = λ a b d h g e. let one = h e in let two = g (not_own_on c a b one e) in (two.0 ∙ one.0, two.1 ∙ one.1, two.2 ∙ one.2);
  each = spares_each c tick;
}

-- what is released is acquired
apart_released : (c d : ℕ) (lane : Lane) → may_release (context_at d lane) ≡ true → may_release (context_at c lane) ≡ false → c ≢ d
apart_released c d lane e f q = no_false (may_release (context_at d lane)) e (ap (λ (n : ℕ). may_release (context_at n lane)) (sym q) ∙ f)

apart_changed : (c d : ℕ) (it : Change) (lane : Lane) → MayChange d it lane → is_own c lane ≡ false → may_release (context_at c lane) ≡ false → c ≢ d
apart_changed c d (moves.Attach spec now) lane m e f = apart c d lane m e
apart_changed c d (moves.Bear spec now id) lane m e f = apart c d lane (both_left (is_own d lane) (can_bear_in id (context_at d lane)) m) e
apart_changed c d (moves.Reprioritise id priority) lane m e f = apart c d lane (own_row (record { context = d; id = id }) lane (there (row_at (record { context = d; id = id }) lane) m)) e
  where
    there : (o : Option Row) → is_none (priority_fault o) ≡ true → is_some o ≡ true
    there None p = p
    there (Some row) p = refl
apart_changed c d moves.Acquire lane m e f = apart c d lane m e
apart_changed c d moves.Release lane m e f = apart_released c d lane m f

-- what is given besides is not the lane's own either
none_more : (x : Bool) (gs : List Bool) (i c : ℕ) → (x && not (unwrap_or (slice_get gs c) false)) ≡ false → (x && not (unwrap_or (slice_get (slice_set gs i true) c) false)) ≡ false
none_more x [] i c h = h
none_more true (g ∷ gs) zero zero h = refl
none_more false (g ∷ gs) zero zero h = refl
none_more x (g ∷ gs) zero (suc c) h = h
none_more x (g ∷ gs) (suc i) zero h = h
none_more x (g ∷ gs) (suc i) (suc c) h = none_more x gs i c h

-- a context that is not the lane's own, nor acquired, stays as it was, and is still not its own
abbrev StaysOut : ℕ → Lane → Lane → Type 0
StaysOut c a b = is_own c a ≡ false → may_release (context_at c a) ≡ false → Still c a b × (is_own c b ≡ false)

out_each : (script : Plan) (tick c : ℕ) (move : Move) (lane : Lane) → MayMove script move lane → StaysOut c lane (moved script tick move lane)
out_each script tick c (moves.Alter context it) lane m e f =
    let still = still_change c context (changed_by it) lane (apart_changed c context it lane m e f) in
    (still, not_own_on c lane (with_context context (changed_by it) lane) (still.0, still.1, refl) e)
out_each script tick c (moves.Give context to) lane m e f = ((refl, refl), none_more (is_some (context_at c lane)) lane.given context c e)
out_each script tick c _ lane m e f = ((refl, refl), e)

out_moves : (script : Plan) (tick c : ℕ) → Law script tick (λ a b. is_own c a ≡ false → Spares c a b) (λ mail. StaysOut c)
out_moves script tick c = record {
  plain = spares_moves c tick;
  of = λ a b h e f. let all = h e in ((all.0, all.1), not_own_on c a b all e);
  next = λ mail a b d h g e f. let one = h e f in let all = g one.1 in ((all.0 ∙ (one.0).0, all.1 ∙ (one.0).1), not_own_on c b d all one.1);
  each = out_each script tick c;
}

still_acted : (script : Plan) (tick : ℕ) (action : Action) (lane : Lane) (c : ℕ) → is_own c lane ≡ false → may_release (context_at c lane) ≡ false → Still c lane (acted script tick action lane)
still_acted script tick action lane c e f = (acted_by (out_moves script tick c) action lane e f).0

-- ---- a step

still_dispatching : (c tick context : ℕ) (row : Row) (lane : Lane) → c ≢ context → Still c lane (dispatching tick context row lane)
still_dispatching c tick context row lane h =
    still_either c lane (dispatched tick context row lane) (stopped Halted (written tick events.HaltDepth lane)) (nat_lt (calls_in_progress lane.frames) 32)
    (ap present (set_other lane.contexts context c (option_map (with_rows (counted row.id)) (context_at context lane)) h), index_other lane.replies context c (held_without row.id (replies_at context lane.replies)) [] h) (refl, refl)

-- the contexts that frames own are the lane's own
abbrev OwnAll : List Frame → Lane → Type 0
OwnAll fs lane = (d : ℕ) → list_any (owns d) fs ≡ true → is_own d lane ≡ true

still_returned : (script : Plan) (tick : ℕ) (body : Body) (origin : Origin) (below : List Frame) (lane : Lane) (c : ℕ) → IsCaused origin below → OwnAll below lane → is_own c lane ≡ false → Still c lane (returned script tick body origin lane)
still_returned script tick body origins.Start below lane c h o e = (refl, refl)
still_returned script tick body (origins.Invoke acquired) below lane c h o e = (refl, refl)
still_returned script tick body (origins.Source caller) below lane c h o e =
    let other : c ≢ caller.context = apart c caller.context lane (o caller.context h) e in
    still_either c lane (edited caller.context (restarted (time_of script tick) caller.id) lane) (edited caller.context (destroyed caller.id) lane) (not caller.once && stays script body caller.number)
    (still_edit c caller.context (restarted (time_of script tick) caller.id) lane other) (still_edit c caller.context (destroyed caller.id) lane other)

still_answered : (c tick context : ℕ) (asker : Asker) (lane : Lane) → Still c lane (answered tick context asker lane)
still_answered c tick context askers.Loop lane = (refl, refl)
still_answered c tick context (askers.Iterate any) lane = (refl, refl)

some_same : (t u : Turn) → Some t ≡ Some u → t ≡ u
some_same t u e = cc

abbrev StillOn : ℕ → Turn → Turn → Type 0
StillOn c t u = Still c t.lane u.lane

still_counted : (c tick : ℕ) (mail : Option Mail) (f : Lane → Lane) (t : Turn) (left : ℕ) → Still c t.lane (f t.lane) → StillOn c t (limited_by tick mail f t left)
still_counted c tick mail f t zero h = (refl, refl)
still_counted c tick mail f t (suc left) h = h

still_call : (script : Plan) (tick : ℕ) (t : Turn) (call : Call) (a : Option Action) (below : List Frame) (c : ℕ) → IsCaused call.origin below → OwnAll below t.lane → is_own c t.lane ≡ false → may_release (context_at c t.lane) ≡ false
    → StillOn c t (step_call script tick t call a)
still_call script tick t call (Some a) below c h o e f = still_counted c tick (sends script a (taken t.lane)) (λ lane. acted script tick a (taken lane)) t t.left (still_acted script tick a (taken t.lane) c e f)
still_call script tick t call None below c h o e f = still_returned script tick call.body call.origin below (popped t.lane) c h o e

still_id : (c tick : ℕ) (t : Turn) (context : ℕ) (r : Option Row) → c ≢ context → StillOn c t (step_id tick t context r)
still_id c tick t context None h = (refl, refl)
still_id c tick t context (Some row) h = still_counted c tick None (dispatching tick context row) t t.left (still_dispatching c tick context row t.lane h)

still_loop : (script : Plan) (tick : ℕ) (t : Turn) (number context : ℕ) (c : ℕ) (runs iterated : Bool) (u : Turn)
    → cond runs (cond iterated None (Some (record t { lane = iterating script tick context askers.Loop t.lane; iterated = true }))) (Some (with_lane (λ lane. written tick (events.LoopEnd number) (popped lane)) t)) ≡ Some u → StillOn c t u
still_loop script tick t number context c true true u e = cc
still_loop script tick t number context c true false u e = subst (StillOn c t) (some_same _ _ e) (refl, refl)
still_loop script tick t number context c false iterated u e = subst (StillOn c t) (some_same _ _ e) (refl, refl)

abbrev turn : Turn → List Frame → Status → Turn
turn t frames status = record t { lane = record t.lane { frames = frames; status = status }; unpolled = [] }

still_step : (script : Plan) (tick : ℕ) (t : Turn) (frames : List Frame) (status : Status) (u : Turn) (c : ℕ) → AreCaused frames → OwnAll frames t.lane → is_own c t.lane ≡ false → may_release (context_at c t.lane) ≡ false
    → step script tick (turn t frames status) ≡ Some u → StillOn c (turn t frames status) u
still_step script tick t [] GoesOn u c h o e f s = cc
still_step script tick t (CallOf call ∷ below) GoesOn u c h o e f s =
    let now : Turn = turn t (CallOf call ∷ below) GoesOn in
    subst (StillOn c now) (some_same _ _ s) (still_call script tick now call (slice_get (actions_of script call.body) call.place) below c h.0 (λ d k. o d (right_or (owns d (CallOf call)) (list_any (owns d) below) k)) e f)
still_step script tick t (IterOf context [] asker ∷ below) GoesOn u c h o e f s =
    let now : Turn = turn t (IterOf context [] asker ∷ below) GoesOn in
    subst (StillOn c now) (some_same _ _ s) (still_answered c tick context asker (popped now.lane))
still_step script tick t (IterOf context (id ∷ ids) asker ∷ below) GoesOn u c h o e f s =
    let now : Turn = turn t (IterOf context (id ∷ ids) asker ∷ below) GoesOn in
    let own : is_own context t.lane ≡ true = o context (ap (λ b. b || list_any (owns context) below) (eq-eqb context context refl)) in
    subst (StillOn c now) (some_same _ _ s) (still_id c tick now context (row_of context id now.lane) (apart c context t.lane own e))
still_step script tick t (LoopOf number context ∷ below) GoesOn u c h o e f s =
    let now : Turn = turn t (LoopOf number context ∷ below) GoesOn in
    still_loop script tick now number context c (is_running number now.lane) now.iterated u s
still_step script tick t frames Ended u c h o e f s = cc
still_step script tick t frames Halted u c h o e f s = cc

pub still_polling : (script : Plan) (tick : ℕ) (t : Turn) (tasks : List Started) (u : Turn) (c : ℕ) → AreCaused t.lane.frames → OwnAll t.lane.frames t.lane → is_own c t.lane ≡ false → may_release (context_at c t.lane) ≡ false
    → step_polling script tick (record t { unpolled = tasks }) tasks ≡ Some u → StillOn c (record t { unpolled = tasks }) u
still_polling script tick t [] u c h o e f s = still_step script tick t t.lane.frames t.lane.status u c h o e f s
still_polling script tick t (task ∷ tasks) u c h o e f s = subst (StillOn c (record t { unpolled = task ∷ tasks })) (some_same _ _ s) (refl, refl)
