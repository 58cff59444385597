-- What each step, each turn and each delivery adds to a trace, and leaves of the sources.
use Rattle.std.proofs.Common.{◌≡◌, ℕ, zero, suc, ◌+◌, ◌<◌, ◌==◌, ◌&&◌, Bool, true, false, cond, Option, Some, None, List, [], ◌∷◌, ◌++◌, length, refl, ap, sym, ◌∙◌, arith, subst, ltb-true, ltb-false}
use Rattle.std.specs.Prelude.{slice_get, nat_lt, is_some}
use Rattle.loop_script.specs.declared.plan.Plan.{Plan}
use Rattle.loop_script.specs.declared.action.Action.{Action}
use Rattle.loop_script.specs.Parts.{actions_of}
use Rattle.source_rows.specs.declared.row.Row.{Row}
use Rattle.source_rows.specs.Rows.{counted as counted_once}
use Rattle.cancel_view.specs.Seen.{Seen}
use Rattle.post_office.specs.declared.letter.Body.{Body as Mail}
use Rattle.lane_watch.specs.Tasks.{Started, is_late_at}
use Rattle.lane_turn.specs.declared.line.Line.{Line}
use Rattle.lane_turn.specs.declared.line.Event.{Event}
use Rattle.lane_turn.specs.declared.line.Event.TheVariants as events
use Rattle.lane_turn.specs.declared.lane.Status.{Status}
use Rattle.lane_turn.specs.declared.lane.Status.TheVariants.{GoesOn, Ended, Halted}
use Rattle.lane_turn.specs.declared.layer.Call.{Call}
use Rattle.lane_turn.specs.declared.layer.Caller.{Caller}
use Rattle.lane_turn.specs.declared.layer.Origin.TheVariants as origins
use Rattle.lane_turn.specs.declared.replies.Awaited.{Awaited}
use Rattle.lane_turn.specs.Replies.{reply_held}
use Rattle.lane_turn.specs.Frames.{Frame, CallOf, IterOf, LoopOf, advanced, calls_in_progress, depth}
use Rattle.lane_turn.specs.Lane.{Lane, Turn, context_at, with_rows, written, stopped, popped, taken, row_of, iterating, is_running}
use Rattle.lane_turn.specs.Acted.{acted, sends}
use Rattle.lane_turn.specs.Step.{step, step_polling, step_call, step_id, limited_by, with_lane, dispatched, dispatching, polled, late_line, one_if, result_lines, body_of}
use Rattle.lane_turn.specs.Depths.{callers, IsShallow, TellsDepth, HaltsOver}
use Rattle.lane_turn.specs.Traces.{Grows}
use Rattle.source_rows.proofs.Compared.{same_self}
use Rattle.lane_turn.specs.Stays.{dispatches}
use Rattle.lane_turn.proofs.Follows.{AllFollow, follows_counted, all_changed}
use Rattle.lane_turn.proofs.Counts.{all_same, follow_all}
use Rattle.lane_turn.proofs.Counted.{AllNumbered, Counted, one_more, counted_acts, counted_dispatched}
use Rattle.lane_turn.proofs.Depths.{depth_callers, callers_advanced, few_dispatches, calls_begun, calls_advanced}
use Rattle.lane_turn.proofs.Iterations.{row_in_id}
use Rattle.lane_turn.proofs.Adds.{grows_line, grows_trans, grows_as, IsOther, OtherAt, Acts, adds_acted, adds_returned, adds_answered, line, same, trans}
use Rattle.lane_turn.specs.declared.layer.Asker.{Asker}
use Rattle.lane_turn.specs.declared.layer.Asker.TheVariants as askers

-- ---- a step

-- the call of a source
abbrev pub call_to : ℕ → Row → Bool → Call
call_to context row once = record { origin = origins.Source (record { context = context; id = row.id; recurse = row.recurse; number = row.count + 1; once = once }); body = body_of row.call; place = 0 }

-- the next source of the innermost iteration
pub record IsNext (lane : Lane) (context : ℕ) (row : Row) : Type 0 where
  pub ids : List ℕ
  pub asker : Asker
  pub below : List Frame
  pub was : lane.frames ≡ IterOf context (row.id ∷ ids) asker ∷ below
  pub there : row_of context row.id lane ≡ Some row

-- it is dispatched
pub record IsDispatched (lane after : Lane) (context id : ℕ) : Type 0 where
  pub row : Row
  pub same : row.id ≡ id
  pub next : IsNext lane context row
  pub frames : after.frames ≡ CallOf (call_to context row (is_some (reply_held context row.id lane.replies))) ∷ advanced lane.frames
  pub number : dispatches context row.id after.trace ≡ dispatches context row.id lane.trace + 1

abbrev pub TellsNext : (lane after : Lane) → Event → Type 0
TellsNext lane after (events.Dispatch context id priority depth) = IsDispatched lane after context id
TellsNext lane after _ = Unit {0}

-- a line of a tick, where that of a dispatch is of the next source, and tells the depth of frames
abbrev pub Told : ℕ → (lane after : Lane) → Line → Type 0
Told tick lane after l = (l.tick ≡ tick) × TellsDepth after.frames l.event × IsShallow l.event × TellsNext lane after l.event × HaltsOver lane.frames l.event

pub record Does (tick : ℕ) (lane after : Lane) : Type 0 where
  pub lines : Grows (Told tick lane after) lane.trace after.trace
  pub counted : (front : List Line) → AllNumbered lane → Counted front lane → Counted front after
  pub rows : AllFollow lane.contexts after.contexts

other_told : (tick : ℕ) (lane after : Lane) (t : ℕ) (event : Event) → t ≡ tick → IsOther (calls_in_progress lane.frames) event → (t ≡ tick) × TellsDepth after.frames event × IsShallow event × TellsNext lane after event × HaltsOver lane.frames event
other_told tick lane after t (events.Dispatch context id priority depth) e h = absurd h
other_told tick lane after t events.HaltDepth e h = (e, tt, tt, tt, omega (arith, h, calls_begun lane.frames))
other_told tick lane after t _ e h = (e, tt, tt, tt, tt)

pub of_acts : (tick : ℕ) (lane after : Lane) → Acts tick (calls_in_progress lane.frames) lane after → Does tick lane after
of_acts tick lane after h = record {
  lines = grows_as (OtherAt tick (calls_in_progress lane.frames)) (Told tick lane after) (λ l p. other_told tick lane after l.tick l.event p.0 p.1) lane.trace after.trace h.lines;
  counted = λ front n. counted_acts front tick (calls_in_progress lane.frames) lane after h.lines h.rows;
  rows = follow_all lane.contexts after.contexts h.rows;
}

of_same : (tick : ℕ) (lane after : Lane) → after.trace ≡ lane.trace → after.contexts ≡ lane.contexts → Does tick lane after
of_same tick lane after t c = of_acts tick lane after (same (OtherAt tick (calls_in_progress lane.frames)) lane after t c)

result_grows : (tick : ℕ) (lane after : Lane) (o : Option Awaited) (view : Seen) (xs : List Line) → Grows (Told tick lane after) xs (xs ++ result_lines tick o view)
result_grows tick lane after None view xs = record { more = []; lines = refl; each = tt }
result_grows tick lane after (Some awaited) view xs = grows_line (Told tick lane after) xs _ (refl, tt, tt, tt, tt)

does_dispatched : (tick context : ℕ) (row : Row) (lane : Lane) → IsNext lane context row → calls_in_progress lane.frames < 32 → Does tick lane (dispatched tick context row lane)
does_dispatched tick context row lane next h =
    let after : Lane = dispatched tick context row lane in
    let n : ℕ = depth lane.frames in
    let first : Line = record { tick = tick; event = events.Dispatch context row.id row.priority (n + 1) } in
    let same : length (callers (advanced lane.frames)) ≡ n = ap (λ (cs : List Caller). length cs) (callers_advanced lane.frames) ∙ sym (depth_callers lane.frames) in
    let rise = λ (c : ℕ) (i : ℕ). one_more tick c i context row (n + 1) (reply_held context row.id lane.replies) lane.view lane.trace in
    let here : ((context == context) && (row.id == row.id)) ≡ true = ap (λ b. b && (row.id == row.id)) (same_self context) ∙ same_self row.id in
    let number : dispatches context row.id after.trace ≡ dispatches context row.id lane.trace + 1 = rise context row.id ∙ ap (λ b. dispatches context row.id lane.trace + cond b 1 0) here in
    let told : Told tick lane after first = (refl, omega (arith, same), (omega arith, omega (arith, h, few_dispatches lane.frames)), record { row = row; same = refl; next = next; frames = refl; number = number }, tt) in
    record {
      lines = grows_trans (Told tick lane after) lane.trace (lane.trace ++ first ∷ []) after.trace (grows_line (Told tick lane after) lane.trace first told) (result_grows tick lane after (reply_held context row.id lane.replies) lane.view (lane.trace ++ first ∷ []));
      counted = λ front. counted_dispatched front context row lane after next.there refl rise;
      rows = all_changed (with_rows (counted_once row.id)) (λ c. follows_counted row.id c.rows) lane.contexts context;
    }

does_halted : (tick : ℕ) (lane : Lane) (event : Event) → IsOther (calls_in_progress lane.frames) event → Does tick lane (stopped Halted (written tick event lane))
does_halted tick lane event p =
    let told : Lane = written tick event lane in
    let P : Line → Type 0 = OtherAt tick (calls_in_progress lane.frames) in
    of_acts tick lane _ (trans P lane told (stopped Halted told) (line P lane tick event (refl, p)) (same P told (stopped Halted told) refl refl))

does_dispatching : (tick context : ℕ) (row : Row) (lane : Lane) → IsNext lane context row → Does tick lane (dispatching tick context row lane)
does_dispatching tick context row lane next = by (nat_lt (calls_in_progress lane.frames) 32) refl
  where
    by : (b : Bool) → nat_lt (calls_in_progress lane.frames) 32 ≡ b → Does tick lane (cond b (dispatched tick context row lane) (stopped Halted (written tick events.HaltDepth lane)))
    by true e = does_dispatched tick context row lane next (ltb-true (calls_in_progress lane.frames) 32 e)
    by false e = does_halted tick lane events.HaltDepth (omega (arith, ltb-false (calls_in_progress lane.frames) 32 e))

some_same : (t u : Turn) → Some t ≡ Some u → t ≡ u
some_same t u e = cc

abbrev On : ℕ → Turn → Turn → Type 0
On tick t u = Does tick t.lane u.lane

does_counted : (tick : ℕ) (mail : Option Mail) (f : Lane → Lane) (t : Turn) (left : ℕ) → Does tick t.lane (f t.lane) → On tick t (limited_by tick mail f t left)
does_counted tick mail f t zero h = does_halted tick t.lane events.HaltSteps tt
does_counted tick mail f t (suc left) h = h

after_taken : (tick : ℕ) (lane before after : Lane) → before.trace ≡ lane.trace → before.contexts ≡ lane.contexts → Acts tick (calls_in_progress lane.frames) before after → Does tick lane after
after_taken tick lane before after t c h = of_acts tick lane after (trans (OtherAt tick (calls_in_progress lane.frames)) lane before after (same (OtherAt tick (calls_in_progress lane.frames)) lane before t c) h)

does_call : (script : Plan) (tick : ℕ) (t : Turn) (call : Call) (a : Option Action) → On tick t (step_call script tick t call a)
does_call script tick t call (Some a) =
    does_counted tick (sends script a (taken t.lane)) (λ lane. acted script tick a (taken lane)) t t.left (after_taken tick t.lane (taken t.lane) _ refl refl (adds_acted script tick (calls_in_progress t.lane.frames) a (taken t.lane) (sym (calls_advanced t.lane.frames))))
does_call script tick t call None = after_taken tick t.lane (popped t.lane) _ refl refl (adds_returned script tick (calls_in_progress t.lane.frames) call.body call.origin (popped t.lane))

does_id : (tick : ℕ) (t : Turn) (context id : ℕ) (ids : List ℕ) (asker : Asker) (below : List Frame) (r : Option Row) → t.lane.frames ≡ IterOf context (id ∷ ids) asker ∷ below → row_of context id t.lane ≡ r → On tick t (step_id tick t context r)
does_id tick t context id ids asker below None f e = of_same tick t.lane (taken t.lane) refl refl
does_id tick t context id ids asker below (Some row) f e =
    let same : row.id ≡ id = row_in_id id (context_at context t.lane) row (sym e) in
    let next : IsNext t.lane context row = record {
      ids = ids;
      asker = asker;
      below = below;
      was = f ∙ ap (λ (i : ℕ). IterOf context (i ∷ ids) asker ∷ below) (sym same);
      there = ap (λ (i : ℕ). row_of context i t.lane) same ∙ e;
    } in
    does_counted tick None (dispatching tick context row) t t.left (does_dispatching tick context row t.lane next)

does_loop : (script : Plan) (tick : ℕ) (t : Turn) (number context : ℕ) (runs iterated : Bool) (u : Turn)
    → cond runs (cond iterated None (Some (record t { lane = iterating script tick context askers.Loop t.lane; iterated = true }))) (Some (with_lane (λ lane. written tick (events.LoopEnd number) (popped lane)) t)) ≡ Some u → On tick t u
does_loop script tick t number context true true u e = cc
does_loop script tick t number context true false u e = subst (On tick t) (some_same _ _ e) (of_same tick t.lane (iterating script tick context askers.Loop t.lane) refl refl)
does_loop script tick t number context false iterated u e =
    subst (On tick t) (some_same _ _ e) (after_taken tick t.lane (popped t.lane) _ refl refl (line (OtherAt tick (calls_in_progress t.lane.frames)) (popped t.lane) tick (events.LoopEnd number) (refl, tt)))

abbrev turn : Turn → List Frame → Status → Turn
turn t frames status = record t { lane = record t.lane { frames = frames; status = status }; unpolled = [] }

does_step : (script : Plan) (tick : ℕ) (t : Turn) (frames : List Frame) (status : Status) (u : Turn) → step script tick (turn t frames status) ≡ Some u → On tick (turn t frames status) u
does_step script tick t [] GoesOn u e = cc
does_step script tick t (CallOf call ∷ below) GoesOn u e =
    let now : Turn = turn t (CallOf call ∷ below) GoesOn in
    subst (On tick now) (some_same _ _ e) (does_call script tick now call (slice_get (actions_of script call.body) call.place))
does_step script tick t (IterOf context [] asker ∷ below) GoesOn u e =
    let now : Turn = turn t (IterOf context [] asker ∷ below) GoesOn in
    subst (On tick now) (some_same _ _ e) (after_taken tick now.lane (popped now.lane) _ refl refl (adds_answered tick (calls_in_progress now.lane.frames) context asker (popped now.lane)))
does_step script tick t (IterOf context (id ∷ ids) asker ∷ below) GoesOn u e =
    let now : Turn = turn t (IterOf context (id ∷ ids) asker ∷ below) GoesOn in
    subst (On tick now) (some_same _ _ e) (does_id tick now context id ids asker below (row_of context id now.lane) refl refl)
does_step script tick t (LoopOf number context ∷ below) GoesOn u e =
    let now : Turn = turn t (LoopOf number context ∷ below) GoesOn in
    does_loop script tick now number context (is_running number now.lane) now.iterated u e
does_step script tick t frames Ended u e = cc
does_step script tick t frames Halted u e = cc

-- ---- a poll

pub late_grows : (P : Line → Type 0) (tick : ℕ) (lane : Lane) (number : ℕ) (late : Bool) → P (late_line tick lane.number number) → Grows P lane.trace (lane.trace ++ one_if late (late_line tick lane.number number))
late_grows P tick lane number true p = grows_line P lane.trace (late_line tick lane.number number) p
late_grows P tick lane number false p = record { more = []; lines = refl; each = tt }

does_polled : (tick : ℕ) (t : Turn) (task : Started) (tasks : List Started) → On tick (record t { unpolled = task ∷ tasks }) (polled tick task (record t { unpolled = tasks }))
does_polled tick t task tasks =
    let after : Lane = (polled tick task (record t { unpolled = tasks })).lane in
    of_acts tick t.lane after (record { lines = late_grows (OtherAt tick (calls_in_progress t.lane.frames)) tick t.lane task.number (is_late_at tick t.lane.tasks task) (refl, tt); rows = all_same t.lane.contexts })

does_polling : (script : Plan) (tick : ℕ) (t : Turn) (tasks : List Started) (u : Turn) → step_polling script tick (record t { unpolled = tasks }) tasks ≡ Some u → On tick (record t { unpolled = tasks }) u
does_polling script tick t [] u e = does_step script tick t t.lane.frames t.lane.status u e
does_polling script tick t (task ∷ tasks) u e = subst (On tick (record t { unpolled = task ∷ tasks })) (some_same _ _ e) (does_polled tick t task tasks)

pub does : (script : Plan) (tick : ℕ) (t u : Turn) → step script tick t ≡ Some u → Does tick t.lane u.lane
does script tick t u e = does_polling script tick t t.unpolled u e
