-- The sources of a lane stand in trees within the script's levels.
use Rattle.std.proofs.Common.{◌≡◌, ℕ, ℤ, zero, suc, ◌+◌, ◌*◌, ◌^◌, ◌<◌, ◌≤◌, ◌==◌, Bool, true, false, not, ◌&&◌, cond, map, length, Option, Some, None, List, [], ◌∷◌, ◌++◌, slice_set, refl, ap, sym, ◌∙◌, arith, subst, option_map}
use Rattle.std.specs.Prelude.{slice_get, is_none, nat_lt}
use Rattle.std.specs.List.{AllByRecursion, range_with_len}
use Rattle.loop_script.specs.declared.plan.Plan.{Plan}
use Rattle.loop_script.specs.declared.source.SourceSpec.{SourceSpec}
use Rattle.loop_script.specs.declared.source.Kind.{Kind}
use Rattle.loop_script.specs.declared.source.Kind.TheVariants as kinds
use Rattle.loop_script.specs.declared.action.Action.{Action}
use Rattle.loop_script.specs.declared.action.Action.TheVariants as actions
use Rattle.loop_script.specs.declared.body.Body.{Body}
use Rattle.loop_script.specs.Parts.{time_of, home_of, actions_of, stays}
use Rattle.loop_script.specs.References.{sizes}
use Rattle.source_rows.specs.declared.row.Row.{Row}
use Rattle.source_rows.specs.declared.fault.RowsFault.{RowsFault}
use Rattle.source_rows.specs.Rows.{RowSet, row_of as row_with, attached, child_added, child_fault, priority_fault, destroyed, ready_set, reprioritised, counted}
use Rattle.source_rows.specs.TwoLevels.{IsWithinLevels}
use Rattle.source_rows.proofs.AtTwo.{roots, children, destroyed_two, reprioritised_two}
use Rattle.context_core.proofs.AtTwo.{selected_two}
use Rattle.source_rows.proofs.Sound.{sound_none, sound_attached, sound_child, sound_destroyed, sound_reprioritised, sound_ready_set, sound_counted}
use Rattle.context_core.specs.declared.context.Context.{Context}
use Rattle.lane_turn.specs.declared.line.Event.TheVariants as events
use Rattle.lane_turn.specs.declared.lane.Status.{Status}
use Rattle.lane_turn.specs.declared.lane.Status.TheVariants.{GoesOn, Ended, Halted}
use Rattle.lane_turn.specs.declared.layer.Origin.{Origin}
use Rattle.lane_turn.specs.declared.layer.Origin.TheVariants.{Start, Source, Invoke}
use Rattle.lane_turn.specs.declared.layer.Call.{Call}
use Rattle.lane_turn.specs.Frames.{Frame, CallOf, IterOf, LoopOf, calls_in_progress}
use Rattle.lane_turn.specs.Sources.{tree_levels, no_sources, restarted, restarted_row, restarted_kind, due_after}
use Rattle.lane_turn.specs.Lane.{Lane, Turn, present, context_at, with_rows, with_context, edited, popped, taken, row_of, row_in, is_running, written, iterating, is_own}
use Rattle.lane_turn.proofs.Whole.{whole}
use Rattle.lane_turn.proofs.GoingOver.{going_over, ready_over}
use Rattle.lane_turn.specs.Handover.{handed_over}
use Rattle.context_core.specs.Defaults.{acquired, released}
use Rattle.lane_turn.specs.Acted.{acted, sends, born, can_bear_in}
use Rattle.lane_watch.specs.Tasks.{Started}
use Rattle.post_office.specs.declared.letter.Letter.{Letter}
use Rattle.post_office.specs.declared.letter.Body.{Body as Mail}
use Rattle.post_office.specs.declared.letter.Body.TheVariants as mails
use Rattle.lane_turn.specs.Step.{step, step_polling, step_call, step_id, returned, answered, limited_by, with_lane, dispatching}
use Rattle.lane_turn.specs.Turn.{begun, turned, opening, open_context, open_contexts_to}
use Rattle.lane_turn.specs.Deliver.{reply_spec, received_body, received, received_all, delivered}
use Rattle.lane_turn.specs.Tick.{posted_at, lanes_at, lane_within}
use Rattle.lane_turn.specs.Sound.{Bounded, IsSound, IsReady}
use Rattle.lane_turn.specs.Levels.{IsGrown, Grown, IsOfTwoLevels, OfTwoLevels, OfAllLanes}
use Rattle.lane_turn.proofs.Mild.{within_weaker}
use Rattle.lane_turn.proofs.Bounds.{bounded_at}
use Rattle.lane_turn.specs.Sound.{IsTidy}
use Rattle.lane_turn.proofs.Turns.{tidy_on, begun_tidy, kept_finish, kept_finished, Kept}
use Rattle.lane_turn.proofs.Runs.{most_at, ready_at, posted_fits, AllReady}
use Rattle.lane_turn.proofs.Turns.{ready-turned}
use Rattle.lane_turn.proofs.Delivered.{ready_received}
use Rattle.lane_turn.proofs.Moves as moves
use Rattle.lane_turn.proofs.Moves.{PlainMove, plainly, Change, changed_by, MayChange, Move, moved, MayMove, Law, both_right, acted_by}
use Rattle.lane_turn.specs.declared.layer.Asker.{Asker}
use Rattle.lane_turn.specs.declared.layer.Asker.TheVariants as askers

abbrev AllGrown : ℕ → Lane → Type 0
AllGrown levels lane = AllByRecursion (Grown levels) lane.contexts

abbrev AllBounded : Lane → Type 0
AllBounded lane = AllByRecursion (Bounded (2 ^ 62)) lane.contexts

either : (levels : ℕ) (x y : Lane) (b : Bool) → (b ≡ true → AllGrown levels x) → AllGrown levels y → AllGrown levels (cond b x y)
either levels x y true h k = h refl
either levels x y false h k = k

-- ---- an edit of one context

grown_at : (levels : ℕ) (contexts : List (Option Context)) (i : ℕ) → AllByRecursion (Grown levels) contexts → Grown levels (present (slice_get contexts i))
grown_at levels [] i h = tt
grown_at levels (o ∷ contexts) zero h = h.0
grown_at levels (o ∷ contexts) (suc i) h = grown_at levels contexts i h.1

mapped : (levels : ℕ) (edit : RowSet → RowSet) (o : Option Context) → ((c : Context) → o ≡ Some c → IsGrown levels (edit c.rows)) → Grown levels (option_map (with_rows edit) o)
mapped levels edit None h = tt
mapped levels edit (Some c) h = h c refl

set_at : (levels : ℕ) (o : Option Context) (contexts : List (Option Context)) (i : ℕ) → Grown levels o → AllByRecursion (Grown levels) contexts → AllByRecursion (Grown levels) (slice_set contexts i o)
set_at levels o [] i g h = tt
set_at levels o (x ∷ contexts) zero g h = (g, h.1)
set_at levels o (x ∷ contexts) (suc i) g h = (h.0, set_at levels o contexts i g h.1)

grown_edit : (levels : ℕ) (lane : Lane) (context : ℕ) (edit : RowSet → RowSet) → ((c : Context) → context_at context lane ≡ Some c → IsGrown levels (edit c.rows)) → AllGrown levels lane → AllGrown levels (edited context edit lane)
grown_edit levels lane context edit f h = set_at levels (option_map (with_rows edit) (context_at context lane)) lane.contexts context (mapped levels edit (context_at context lane) f) h

-- a change of one context that leaves its sources alone
kept : (levels : ℕ) (change : Context → Context) (o : Option Context) → ((c : Context) → (change c).rows ≡ c.rows) → Grown levels o → Grown levels (option_map change o)
kept levels change None f g = tt
kept levels change (Some c) f g = subst (IsGrown levels) (sym (f c)) g

grown_change : (levels : ℕ) (lane : Lane) (context : ℕ) (change : Context → Context) → ((c : Context) → (change c).rows ≡ c.rows) → AllGrown levels lane → AllGrown levels (with_context context change lane)
grown_change levels lane context change f h = set_at levels (option_map change (context_at context lane)) lane.contexts context (kept levels change (context_at context lane) f (grown_at levels lane.contexts context h)) h

-- the sources of an own context stand so, and have few numbers
pub own_grown : (levels : ℕ) (lane : Lane) (context : ℕ) (c : Context) → context_at context lane ≡ Some c → AllGrown levels lane → IsGrown levels c.rows
own_grown levels lane context c e h = subst (Grown levels) e (grown_at levels lane.contexts context h)

few_numbers : (lane : Lane) (context : ℕ) (c : Context) → context_at context lane ≡ Some c → AllBounded lane → c.rows.next_order < 2 ^ 63
few_numbers lane context c e b = let at = (subst (Bounded (2 ^ 62)) e (bounded_at (2 ^ 62) lane.contexts context b)).sources.order in omega (arith, at)

-- an edit that no sources are refused
grown_free : (levels : ℕ) (lane : Lane) (context : ℕ) (edit : RowSet → RowSet) → ((s : RowSet) → IsGrown levels s → IsGrown levels (edit s)) → AllGrown levels lane → AllGrown levels (edited context edit lane)
grown_free levels lane context edit f h = grown_edit levels lane context edit (λ c e. f c.rows (own_grown levels lane context c e h)) h

grown_destroyed : (levels id : ℕ) (s : RowSet) → IsGrown levels s → IsGrown levels (destroyed id s)
grown_destroyed levels id s g = record { most = g.most; sound = sound_destroyed id s g.sound }

grown_ready_set : (levels id : ℕ) (us : ℤ) (s : RowSet) → IsGrown levels s → IsGrown levels (ready_set id us s)
grown_ready_set levels id us s g = record { most = g.most; sound = sound_ready_set id us s g.sound }

grown_counted : (levels id : ℕ) (s : RowSet) → IsGrown levels s → IsGrown levels (counted id s)
grown_counted levels id s g = record { most = g.most; sound = sound_counted id s g.sound }

grown_kind : (levels now id : ℕ) (k : Kind) (s : RowSet) → IsGrown levels s → IsGrown levels (restarted_kind now id k s)
grown_kind levels now id kinds.Idle s g = g
grown_kind levels now id (kinds.Timeout ms) s g = grown_ready_set levels id (due_after ms now) s g
grown_kind levels now id (kinds.ReadyTime us) s g = g
grown_kind levels now id (kinds.Fd fd bits) s g = g
grown_kind levels now id (kinds.Cancel c) s g = g

grown_row : (levels now id : ℕ) (o : Option Row) (s : RowSet) → IsGrown levels s → IsGrown levels (restarted_row now id o s)
grown_row levels now id None s g = g
grown_row levels now id (Some r) s g = grown_kind levels now id r.kind s g

grown_restarted : (levels now id : ℕ) (s : RowSet) → IsGrown levels s → IsGrown levels (restarted now id s)
grown_restarted levels now id s g = grown_row levels now id (row_with id s.rows) s g

-- ---- the actions

no_fault : (o : Option RowsFault) → is_none o ≡ true → o ≡ None
no_fault None e = refl
no_fault (Some f) e = let no : false ≡ true = e in cc

grown_attach : (levels now context : ℕ) (spec : SourceSpec) (lane : Lane) → AllBounded lane → AllGrown levels lane → AllGrown levels (edited context (attached spec now) lane)
grown_attach levels now context spec lane b h =
    grown_edit levels lane context (attached spec now)
    (λ c e. let g = own_grown levels lane context c e h in record { most = g.most; sound = sound_attached spec now c.rows (few_numbers lane context c e b) g.sound }) h

levels_born : (levels : ℕ) (spec : SourceSpec) (now : ℕ) (s : RowSet) (o : Option Row) → s.levels ≡ levels → (child_added spec now o s).levels ≡ levels
levels_born levels spec now s None e = e
levels_born levels spec now s (Some parent) e = e

own_row : (b : Bool) (o : Option Row) → is_none (priority_fault (cond b o None)) ≡ true → is_none (priority_fault o) ≡ true
own_row true o h = h
own_row false o h = let no : false ≡ true = h in cc

grown_plain : (levels tick : ℕ) (move : PlainMove) (lane : Lane) → AllGrown levels lane → AllGrown levels (plainly tick move lane)
grown_plain levels tick (moves.Destroy place) lane h = grown_free levels lane place.context (destroyed place.id) (grown_destroyed levels place.id) h
grown_plain levels tick (moves.SetReady us place) lane h = grown_free levels lane place.context (ready_set place.id us) (grown_ready_set levels place.id us) h
grown_plain levels tick _ lane h = h

grown_changed : (levels context : ℕ) (it : Change) (lane : Lane) → MayChange context it lane → AllBounded lane → AllGrown levels lane → AllGrown levels (with_context context (changed_by it) lane)
grown_changed levels context (moves.Attach spec now) lane m b h = grown_attach levels now context spec lane b h
grown_changed levels context (moves.Bear spec now id) lane m b h =
    grown_edit levels lane context (born spec now id)
    (λ c e. let g = own_grown levels lane context c e h in
    let free = no_fault (child_fault c.rows.levels (row_with id c.rows.rows)) (sym (ap (can_bear_in id) e) ∙ both_right (is_own context lane) (can_bear_in id (context_at context lane)) m) in
    record { most = levels_born levels spec now c.rows (row_with id c.rows.rows) g.most; sound = sound_child spec now id c.rows (few_numbers lane context c e b) free g.sound }) h
grown_changed levels context (moves.Reprioritise id priority) lane m b h =
    grown_edit levels lane context (reprioritised id priority)
    (λ c e. let g = own_grown levels lane context c e h in
    let free = no_fault (priority_fault (row_with id c.rows.rows)) (sym (ap (λ (o : Option Context). is_none (priority_fault (row_in id o))) e) ∙ own_row (is_own context lane) (row_of context id lane) m) in
    record { most = g.most; sound = sound_reprioritised id priority c.rows (few_numbers lane context c e b) free g.sound }) h
grown_changed levels context moves.Acquire lane m b h = grown_change levels lane context acquired (λ c. refl) h
grown_changed levels context moves.Release lane m b h = grown_change levels lane context released (λ c. refl) h

grown_each : (levels : ℕ) (script : Plan) (tick : ℕ) (move : Move) (lane : Lane) → MayMove script move lane → AllBounded lane → AllGrown levels lane → AllGrown levels (moved script tick move lane)
grown_each levels script tick (moves.Alter context it) lane m b h = grown_changed levels context it lane m b h
grown_each levels script tick _ lane m b h = h

grown_moves : (levels : ℕ) (script : Plan) (tick : ℕ) → Law script tick (λ a b. AllGrown levels a → AllGrown levels b) (λ mail a b. AllBounded a → AllGrown levels a → AllGrown levels b)
grown_moves levels script tick = record {
  plain = record { none = λ lane h. h; next = λ a b c f g h. g (f h); each = λ move lane m. grown_plain levels tick move lane };
  of = λ a b f k. f;
  next = λ mail a b c f g k h. g (f k h);
  each = grown_each levels script tick;
}

grown_acted : (levels : ℕ) (script : Plan) (tick : ℕ) (action : Action) (lane : Lane) → AllBounded lane → AllGrown levels lane → AllGrown levels (acted script tick action lane)
grown_acted levels script tick action lane = acted_by (grown_moves levels script tick) action lane

-- ---- the steps

grown_dispatching : (levels tick context : ℕ) (row : Row) (lane : Lane) → AllGrown levels lane → AllGrown levels (dispatching tick context row lane)
grown_dispatching levels tick context row lane h = either levels _ _ (nat_lt (calls_in_progress lane.frames) 32) (λ _. grown_free levels lane context (counted row.id) (grown_counted levels row.id) h) h

grown_returned : (levels : ℕ) (script : Plan) (tick : ℕ) (body : Body) (origin : Origin) (lane : Lane) → AllGrown levels lane → AllGrown levels (returned script tick body origin lane)
grown_returned levels script tick body Start lane h = h
grown_returned levels script tick body (Invoke acquired) lane h = h
grown_returned levels script tick body (Source caller) lane h =
    either levels _ _ (not caller.once && stays script body caller.number)
    (λ _. grown_free levels lane caller.context (restarted (time_of script tick) caller.id) (grown_restarted levels (time_of script tick) caller.id) h)
    (grown_free levels lane caller.context (destroyed caller.id) (grown_destroyed levels caller.id) h)

grown_answered : (levels tick context : ℕ) (asker : Asker) (lane : Lane) → AllGrown levels lane → AllGrown levels (answered tick context asker lane)
grown_answered levels tick context askers.Loop lane h = h
grown_answered levels tick context (askers.Iterate any) lane h = h

grown_counting : (levels tick : ℕ) (mail : Option Mail) (f : Lane → Lane) (t : Turn) (left : ℕ) → AllGrown levels t.lane → AllGrown levels (f t.lane) → AllGrown levels (limited_by tick mail f t left).lane
grown_counting levels tick mail f t zero h k = h
grown_counting levels tick mail f t (suc left) h k = k

some_same : (t u : Turn) → Some t ≡ Some u → t ≡ u
some_same t u e = cc

abbrev turn : Turn → Lane → ℕ → Bool → Turn
turn rest lane left iterated = record rest { lane = lane; unpolled = []; left = left; iterated = iterated }

abbrev StaysGrown : ℕ → Turn → Turn → Type 0
StaysGrown levels t u = AllBounded t.lane → AllGrown levels t.lane → AllGrown levels u.lane

grown_call : (levels : ℕ) (script : Plan) (tick : ℕ) (t : Turn) (call : Call) (a : Option Action) → StaysGrown levels t (step_call script tick t call a)
grown_call levels script tick t call None b h = grown_returned levels script tick call.body call.origin (popped t.lane) h
grown_call levels script tick t call (Some a) b h = grown_counting levels tick (sends script a (taken t.lane)) (λ lane. acted script tick a (taken lane)) t t.left h (grown_acted levels script tick a (taken t.lane) b h)

grown_id : (levels tick context : ℕ) (t : Turn) (r : Option Row) → StaysGrown levels t (step_id tick t context r)
grown_id levels tick context t None b h = h
grown_id levels tick context t (Some row) b h = grown_counting levels tick None (dispatching tick context row) t t.left h (grown_dispatching levels tick context row t.lane h)

grown_loop : (levels : ℕ) (script : Plan) (tick number context : ℕ) (t : Turn) (runs iterated : Bool) (u : Turn)
    → cond runs (cond iterated None (Some (record t { lane = iterating script tick context askers.Loop t.lane; iterated = true }))) (Some (with_lane (λ lane. written tick (events.LoopEnd number) (popped lane)) t)) ≡ Some u → StaysGrown levels t u
grown_loop levels script tick number context t true true u e b h = cc
grown_loop levels script tick number context t true false u e b h = subst (λ (v : Turn). AllGrown levels v.lane) (some_same _ _ e) h
grown_loop levels script tick number context t false iterated u e b h = subst (λ (v : Turn). AllGrown levels v.lane) (some_same _ _ e) h

grown_step_by : (rest : Turn) (levels : ℕ) (script : Plan) (tick : ℕ) (base : Lane) (frames : List Frame) (status : Status) (left : ℕ) (iterated : Bool) (u : Turn) →
    let t : Turn = turn rest (record base { frames = frames; status = status }) left iterated in
    step script tick t ≡ Some u → StaysGrown levels t u
grown_step_by rest levels script tick base [] GoesOn left iterated u e b h = cc
grown_step_by rest levels script tick base (CallOf call ∷ below) GoesOn left iterated u e b h =
    let t : Turn = turn rest (record base { frames = CallOf call ∷ below; status = GoesOn }) left iterated in
    subst (λ (v : Turn). AllGrown levels v.lane) (some_same _ _ e) (grown_call levels script tick t call (slice_get (actions_of script call.body) call.place) b h)
grown_step_by rest levels script tick base (IterOf context [] asker ∷ below) GoesOn left iterated u e b h =
    let t : Turn = turn rest (record base { frames = IterOf context [] asker ∷ below; status = GoesOn }) left iterated in
    subst (λ (v : Turn). AllGrown levels v.lane) (some_same _ _ e) (grown_answered levels tick context asker (popped t.lane) h)
grown_step_by rest levels script tick base (IterOf context (id ∷ ids) asker ∷ below) GoesOn left iterated u e b h =
    let t : Turn = turn rest (record base { frames = IterOf context (id ∷ ids) asker ∷ below; status = GoesOn }) left iterated in
    subst (λ (v : Turn). AllGrown levels v.lane) (some_same _ _ e) (grown_id levels tick context t (row_of context id t.lane) b h)
grown_step_by rest levels script tick base (LoopOf number context ∷ below) GoesOn left iterated u e b h =
    let t : Turn = turn rest (record base { frames = LoopOf number context ∷ below; status = GoesOn }) left iterated in
    grown_loop levels script tick number context t (is_running number t.lane) iterated u e b h
grown_step_by rest levels script tick base frames Ended left iterated u e b h = cc
grown_step_by rest levels script tick base frames Halted left iterated u e b h = cc

grown_polling : (levels : ℕ) (script : Plan) (tick : ℕ) (t : Turn) (tasks : List Started) (u : Turn) → step_polling script tick (record t { unpolled = tasks }) tasks ≡ Some u → StaysGrown levels t u
grown_polling levels script tick t [] u e b h = grown_step_by t levels script tick t.lane t.lane.frames t.lane.status t.left t.iterated u e b h
grown_polling levels script tick t (task ∷ tasks) u e b h = subst (λ (v : Turn). AllGrown levels v.lane) (some_same _ _ e) h

grown_step : (levels : ℕ) (script : Plan) (tick : ℕ) (t u : Turn) → step script tick t ≡ Some u → StaysGrown levels t u
grown_step levels script tick t u e = grown_polling levels script tick t t.unpolled u e

-- ---- the turns

bounded_now : (t : Turn) → IsSound (2 ^ 62) t → AllBounded t.lane
bounded_now t s = (within_weaker s.bound (2 ^ 62) (omega (arith, s.fits)) t.lane s.within).contexts

-- a turn whose counters stay low, and whose sources stand in trees
record GrownTurn (levels n tick size : ℕ) (t : Turn) : Type 0 where
  pub tidy : IsTidy n (2 ^ 62) tick size t
  pub all : AllGrown levels t.lane

grown_on : (levels n size : ℕ) (script : Plan) (tick : ℕ) → Kept script tick (GrownTurn levels n (tick + 1) size)
grown_on levels n size script tick t u e g =
    record { tidy = tidy_on script n (2 ^ 62) tick size t u e g.tidy; all = grown_step levels script tick t u e (bounded_now t g.tidy.sound) g.all }

grown_begun : (levels m : ℕ) (script : Plan) (tick : ℕ) (lane : Lane) → m + 20001 ≤ 2 ^ 62 → IsReady script tick m lane → AllGrown levels lane → GrownTurn levels (10000 * (tick + 1)) (tick + 1) script.cancellables (begun tick lane)
grown_begun levels m script tick lane h r g =
    let t = begun_tidy script tick m lane r in
    record { tidy = record { sound = record { bound = t.sound.bound; fits = omega (arith, h, t.sound.fits); within = t.sound.within }; paced = t.paced; now = t.now; view = t.view }; all = g }

grown_within : (levels m : ℕ) (script : Plan) (tick steps : ℕ) (lane : Lane) → m + 20001 ≤ 2 ^ 62 → IsReady script tick m lane → AllGrown levels lane → AllGrown levels (lane_within script tick steps lane)
grown_within levels m script tick steps lane h r g =
    (kept_finish script tick steps (GrownTurn levels (10000 * (tick + 1)) (tick + 1) script.cancellables) (grown_on levels (10000 * (tick + 1)) script.cancellables script tick) (begun tick lane) (grown_begun levels m script tick lane h r g)).all

grown_turned : (levels m : ℕ) (script : Plan) (tick : ℕ) (lane : Lane) → m + 20001 ≤ 2 ^ 62 → IsReady script tick m lane → AllGrown levels lane → AllGrown levels (turned script tick lane)
grown_turned levels m script tick lane h r g =
    (kept_finished script tick (GrownTurn levels (10000 * (tick + 1)) (tick + 1) script.cancellables) (grown_on levels (10000 * (tick + 1)) script.cancellables script tick) (begun tick lane) (grown_begun levels m script tick lane h r g)).all

-- ---- the deliveries

grown_received : (levels : ℕ) (script : Plan) (tick sender : ℕ) (body : Mail) (lane : Lane) → AllBounded lane → AllGrown levels lane → AllGrown levels (received_body script tick sender body lane)
grown_received levels script tick sender (mails.Attach context spec) lane b h = either levels _ _ (is_own context lane) (λ _. grown_attach levels (time_of script tick) context spec lane b h) h
grown_received levels script tick sender (mails.Complete reply) lane b h =
    either levels _ _ (is_own reply.ctx lane) (λ _. grown_attach levels (time_of script tick) reply.ctx (reply_spec reply) lane b h) h
grown_received levels script tick sender (mails.Cancelled c) lane b h = grown_acted levels script tick (actions.Cancel c) lane b h
grown_received levels script tick sender (mails.Give context to) lane b h = h

grown_received_all : (levels : ℕ) (script : Plan) (tick next m : ℕ) (letters : List Letter) (lane : Lane) → m + 2 * length letters ≤ 2 ^ 62 → IsReady script next m lane → AllGrown levels lane → AllGrown levels (received_all script tick letters lane)
grown_received_all levels script tick next m [] lane h r g = g
grown_received_all levels script tick next m (letter ∷ letters) lane h r g =
    let b = (within_weaker m (2 ^ 62) (omega (arith, h)) lane r.within).contexts in
    grown_received_all levels script tick next (m + 2) letters (received script tick letter lane) (omega (arith, h)) (ready_received script tick next m letter lane r) (grown_received levels script tick letter.sender letter.body lane b g)

-- ---- the run

some_levels : (script : Plan) → (1 ≤ tree_levels script) × (tree_levels script ≤ 4)
some_levels script = by_version (script.version == 1)
  where
    by_version : (b : Bool) → (1 ≤ cond b 2 4) × (cond b 2 4 ≤ 4)
    by_version true = (omega arith, omega arith)
    by_version false = (omega arith, omega arith)

grown_open : (script : Plan) (b : Bool) → Grown (tree_levels script) (cond b (Some (no_sources script)) None)
grown_open script true = let some = some_levels script in record { most = refl; sound = sound_none (tree_levels script) some.0 some.1 }
grown_open script false = tt

each_pushed : (P : Option Context → Type 0) (os : List (Option Context)) (o : Option Context) → AllByRecursion P os → P o → AllByRecursion P (os ++ o ∷ [])
each_pushed P [] o h p = (p, tt)
each_pushed P (x ∷ os) o h p = (h.0, each_pushed P os o h.1 p)

all_open : (script : Plan) (lane n : ℕ) → AllByRecursion (Grown (tree_levels script)) (open_contexts_to script lane n)
all_open script lane zero = tt
all_open script lane (suc n) = each_pushed (Grown (tree_levels script)) (open_contexts_to script lane n) (open_context script lane n) (all_open script lane n) (grown_open script (home_of script n == lane))

-- the lanes of a run, with their bounds
abbrev EachGrown : Plan → (tick m : ℕ) → List Lane → Type 0
EachGrown script tick m lanes = AllByRecursion (λ lane. IsReady script tick m lane × AllGrown (tree_levels script) lane) lanes

both : (script : Plan) (tick m : ℕ) (lanes : List Lane) → AllReady script tick m lanes → AllByRecursion (AllGrown (tree_levels script)) lanes → EachGrown script tick m lanes
both script tick m [] r g = tt
both script tick m (lane ∷ lanes) r g = ((r.0, g.0), both script tick m lanes r.1 g.1)

grown_openings : (script : Plan) (numbers : List ℕ) → AllByRecursion (AllGrown (tree_levels script)) (map (opening script) numbers)
grown_openings script [] = tt
grown_openings script (n ∷ numbers) = (all_open script n (sizes script).contexts, grown_openings script numbers)

grown_turns : (script : Plan) (tick m : ℕ) (lanes : List Lane) → m + 20001 ≤ 2 ^ 62 → EachGrown script tick m lanes → EachGrown script (tick + 1) (m + 20001) (map (turned script tick) lanes)
grown_turns script tick m [] h g = tt
grown_turns script tick m (lane ∷ lanes) h g = ((ready-turned script tick m lane g.0.0, grown_turned (tree_levels script) m script tick lane h g.0.0 g.0.1), grown_turns script tick m lanes h g.1)

-- ---- what goes over

grown_got : (levels : ℕ) (os : List (Option Context)) (i : ℕ) → AllByRecursion (Grown levels) os → Grown levels (present (slice_get os i))
grown_got levels [] i h = tt
grown_got levels (o ∷ os) zero h = h.0
grown_got levels (o ∷ os) (suc i) h = grown_got levels os i h.1

grown_set : (levels : ℕ) (os : List (Option Context)) (i : ℕ) (o : Option Context) → Grown levels o → AllByRecursion (Grown levels) os → AllByRecursion (Grown levels) (slice_set os i o)
grown_set levels [] i o g h = tt
grown_set levels (x ∷ os) zero o g h = (g, h.1)
grown_set levels (x ∷ os) (suc i) o g h = (h.0, grown_set levels os i o g h.1)

grown_over : (levels tick : ℕ) (letters : List Letter) (lanes : List Lane) → AllByRecursion (AllGrown levels) lanes → AllByRecursion (AllGrown levels) (handed_over tick letters lanes)
grown_over levels tick letters lanes all =
    going_over tick (AllGrown levels) (λ kept. Grown levels (Some kept.context)) (λ lane h context kept e. subst (Grown levels) ((whole context lane kept e).0) (grown_got levels lane.contexts context h))
    (λ lane h kept k. grown_set levels lane.contexts kept.number (Some kept.context) k h) (λ lane h context. grown_set levels lane.contexts context None tt h) letters lanes all

grown_alone : (script : Plan) (tick m : ℕ) (lanes : List Lane) → EachGrown script tick m lanes → AllByRecursion (AllGrown (tree_levels script)) lanes
grown_alone script tick m [] g = tt
grown_alone script tick m (lane ∷ lanes) g = (g.0.1, grown_alone script tick m lanes g.1)

ready_alone : (script : Plan) (tick m : ℕ) (lanes : List Lane) → EachGrown script tick m lanes → AllReady script tick m lanes
ready_alone script tick m [] g = tt
ready_alone script tick m (lane ∷ lanes) g = (g.0.0, ready_alone script tick m lanes g.1)

grown_sent : (script : Plan) (tick m : ℕ) (letters : List Letter) (lanes : List Lane) → m + 2 * length letters ≤ 2 ^ 62 → EachGrown script (tick + 1) m lanes → AllByRecursion (AllGrown (tree_levels script)) (map (received_all script tick letters) lanes)
grown_sent script tick m letters [] h g = tt
grown_sent script tick m letters (lane ∷ lanes) h g = (grown_received_all (tree_levels script) script tick (tick + 1) m letters lane h g.0.0 g.0.1, grown_sent script tick m letters lanes h g.1)

all_sent : (script : Plan) (tick m : ℕ) (letters : List Letter) (lanes : List Lane) → m + 20001 + 2 * length letters ≤ 2 ^ 62 → EachGrown script tick m lanes
    → AllByRecursion (AllGrown (tree_levels script)) (delivered script tick letters (map (turned script tick) lanes))
all_sent script tick m letters lanes h g =
    let after : List Lane = map (turned script tick) lanes in
    let t = grown_turns script tick m lanes (omega (arith, h)) g in
    grown_sent script tick (m + 20001) letters (handed_over tick letters after) h
    (both script (tick + 1) (m + 20001) (handed_over tick letters after) (ready_over script tick (tick + 1) (m + 20001) letters after (ready_alone script (tick + 1) (m + 20001) after t)) (grown_over (tree_levels script) tick letters after (grown_alone script (tick + 1) (m + 20001) after t)))

grown_at_tick : (script : Plan) (tick : ℕ) → length script.lanes ≤ 64 → tick ≤ 4096 → AllByRecursion (AllGrown (tree_levels script)) (lanes_at script tick)
grown_at_tick script zero few h = grown_openings script (range_with_len 0 (length script.lanes))
grown_at_tick script (suc tick) few h =
    let lanes : List Lane = lanes_at script tick in
    let ready = ready_at script tick few (omega (arith, h)) in
    all_sent script tick (most_at tick) (posted_at script tick lanes) lanes (omega (arith, posted_fits script tick few (omega (arith, h)))) (both script tick (most_at tick) lanes ready (grown_at_tick script tick few (omega (arith, h))))

each_within : (script : Plan) (tick steps m : ℕ) (lanes : List Lane) → m + 20001 ≤ 2 ^ 62 → EachGrown script tick m lanes → AllByRecursion (λ lane. AllGrown (tree_levels script) (lane_within script tick steps lane)) lanes
each_within script tick steps m [] h g = tt
each_within script tick steps m (lane ∷ lanes) h g = (grown_within (tree_levels script) m script tick steps lane h g.0.0 g.0.1, each_within script tick steps m lanes h g.1)

pub grown_run : (script : Plan) → length script.lanes ≤ 64 → OfAllLanes script (λ lane. AllByRecursion (Grown (tree_levels script)) lane.contexts)
grown_run script few tick steps h =
    each_within script tick steps (most_at tick) (lanes_at script tick) (omega (arith, h)) (both script tick (most_at tick) (lanes_at script tick) (ready_at script tick few h) (grown_at_tick script tick few h))

-- ---- version 1

of_two : (s : RowSet) → IsGrown 2 s → IsOfTwoLevels s
of_two s g =
    let low : IsWithinLevels 2 s.rows = subst (λ (n : ℕ). IsWithinLevels n s.rows) g.most g.sound.within in
    let forest = g.sound.forest in
    record {
      low = low;
      selected = selected_two s.rows forest low;
      child = λ id. ap (λ (n : ℕ). child_fault n (row_with id s.rows)) g.most ∙ children s.rows forest low id;
      priority = roots s.rows forest;
      destroyed = destroyed_two s forest low;
      reprioritised = reprioritised_two s forest low;
    }

each_of_two : (contexts : List (Option Context)) → AllByRecursion (Grown 2) contexts → AllByRecursion OfTwoLevels contexts
each_of_two [] h = tt
each_of_two (None ∷ contexts) h = (tt, each_of_two contexts h.1)
each_of_two (Some c ∷ contexts) h = (of_two c.rows h.0, each_of_two contexts h.1)

each_lane_of_two : (script : Plan) (tick steps : ℕ) (lanes : List Lane) → AllByRecursion (λ lane. AllGrown 2 (lane_within script tick steps lane)) lanes → AllByRecursion (λ lane. AllByRecursion OfTwoLevels (lane_within script tick steps lane).contexts) lanes
each_lane_of_two script tick steps [] h = tt
each_lane_of_two script tick steps (lane ∷ lanes) h = (each_of_two (lane_within script tick steps lane).contexts h.0, each_lane_of_two script tick steps lanes h.1)

pub version_one : (script : Plan) → length script.lanes ≤ 64 → script.version ≡ 1 → OfAllLanes script (λ lane. AllByRecursion OfTwoLevels lane.contexts)
version_one script few e tick steps h =
    let two : tree_levels script ≡ 2 = ap (λ (v : ℕ). cond (v == 1) 2 4) e in
    each_lane_of_two script tick steps (lanes_at script tick)
    (subst (λ (n : ℕ). AllByRecursion (λ lane. AllGrown n (lane_within script tick steps lane)) (lanes_at script tick)) two (grown_run script few tick steps h))
