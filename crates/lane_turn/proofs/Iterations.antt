-- What each step does to the frames.
use Rattle.std.proofs.Common.{◌≡◌, ◌<◌, length, arith, ltb-true, ℕ, zero, suc, ◌==◌, Bool, true, false, cond, Option, Some, None, List, [], ◌∷◌, ◌++◌, inl, inr, drop, refl, ap, sym, ◌∙◌, subst}
use Rattle.std.specs.Prelude.{slice_get, nat_lt}
use Rattle.std.specs.List.{AllByRecursion, find}
use Rattle.std.proofs.lemmas.Bool.Decides.{eqb_tells}
use Rattle.loop_script.specs.declared.plan.Plan.{Plan}
use Rattle.loop_script.specs.declared.action.Action.{Action}
use Rattle.loop_script.specs.declared.body.Body.{Body}
use Rattle.loop_script.specs.declared.body.Body.TheVariants.{Procedure}
use Rattle.loop_script.specs.Parts.{actions_of}
use Rattle.source_rows.specs.declared.row.Row.{Row}
use Rattle.source_rows.specs.Rows.{has_id}
use Rattle.context_core.specs.declared.context.Context.{Context}
use Rattle.lane_turn.specs.declared.line.Event.TheVariants as events
use Rattle.lane_turn.specs.declared.lane.Status.{Status}
use Rattle.lane_turn.specs.declared.lane.Status.TheVariants.{GoesOn, Ended, Halted}
use Rattle.lane_turn.specs.declared.layer.Call.{Call}
use Rattle.lane_turn.specs.declared.layer.Origin.{Origin}
use Rattle.lane_turn.specs.declared.layer.Origin.TheVariants as origins
use Rattle.lane_turn.specs.Frames.{Frame, CallOf, IterOf, LoopOf, advanced, advanced_one, emptied, emptied_one, calls_in_progress}
use Rattle.lane_turn.specs.Lane.{Lane, Turn, taken, popped, stopped, written, iterating, chosen, is_any, context_at, row_in, row_of, is_running}
use Rattle.lane_watch.specs.Tasks.{Started}
use Rattle.post_office.specs.declared.letter.Body.{Body as Mail}
use Rattle.lane_turn.specs.Acted.{acted, sends}
use Rattle.lane_turn.specs.Step.{step, step_polling, step_call, step_id, returned, answered, limited_by, with_lane, dispatched, dispatching}
use Rattle.lane_turn.proofs.Mild.{Plain, plain_moves}
use Rattle.lane_turn.specs.Depths.{begun_calls}
use Rattle.lane_turn.proofs.Depths.{calls_begun, calls_advanced}
use Rattle.lane_turn.specs.Iterations.{IsRest, Later, EachLater, IsOver, TellsAny, MayBegin, Begun, FramesGoOn}
use Rattle.lane_turn.proofs.Moves as moves
use Rattle.lane_turn.proofs.Moves.{Move, moved, MayMove, Law, acted_by}
use Rattle.lane_turn.specs.declared.layer.Asker.{Asker}
use Rattle.lane_turn.specs.declared.layer.Asker.TheVariants as askers

-- ---- frames later on

later_same : (f : Frame) → Later f f
later_same (CallOf call) = (refl, refl)
later_same (IterOf context ids asker) = (refl, (0, refl), refl)
later_same (LoopOf number context) = (refl, refl)

each_same : (fs : List Frame) → EachLater fs fs
each_same [] = tt
each_same (f ∷ fs) = (later_same f, each_same fs)

later_taken : (f : Frame) → Later f (advanced_one f)
later_taken (CallOf call) = (refl, refl)
later_taken (IterOf context ids asker) = (refl, (1, refl), refl)
later_taken (LoopOf number context) = (refl, refl)

each_taken : (fs : List Frame) → EachLater fs (advanced fs)
each_taken [] = tt
each_taken (f ∷ fs) = (later_taken f, each_same fs)

drop_all : (ids : List ℕ) → (k : ℕ) × ([] ≡ drop k ids)
drop_all [] = (0, refl)
drop_all (id ∷ ids) = let k = drop_all ids in (suc k.0, k.1)

left_or_none : (b : Bool) (ids left : List ℕ) → IsRest left ids → IsRest (cond b [] left) ids
left_or_none true ids left h = drop_all ids
left_or_none false ids left h = h

later_emptied : (c : ℕ) (f g : Frame) → Later f g → Later f (emptied_one c g)
later_emptied c (CallOf call) (CallOf call') h = h
later_emptied c (IterOf context ids asker) (IterOf context' left asker') h = (h.0, left_or_none (context' == c) ids left h.1, h.2)
later_emptied c (LoopOf number context) (LoopOf number' context') h = h
later_emptied c (CallOf call) (IterOf context ids asker) h = absurd h
later_emptied c (CallOf call) (LoopOf number context) h = absurd h
later_emptied c (IterOf context ids asker) (CallOf call) h = absurd h
later_emptied c (IterOf context ids asker) (LoopOf number context') h = absurd h
later_emptied c (LoopOf number context) (CallOf call) h = absurd h
later_emptied c (LoopOf number context) (IterOf context' ids asker) h = absurd h

each_emptied : (c : ℕ) (fs gs : List Frame) → EachLater fs gs → EachLater fs (emptied c gs)
each_emptied c [] [] h = tt
each_emptied c [] (g ∷ gs) h = absurd h
each_emptied c (f ∷ fs) [] h = absurd h
each_emptied c (f ∷ fs) (g ∷ gs) h = (later_emptied c f g h.0, each_emptied c fs gs h.1)

none_if : (b : Bool) (c d : ℕ) (ids : List ℕ) → (d == c) ≡ b → d ≡ c → cond b [] ids ≡ []
none_if true c d ids e h = refl
none_if false c d ids e h = elim (eqb_tells d c) [ inl t ↦ let no = sym e ∙ t.0 in cc | inr f ↦ absurd (f.1 h) ]

over_one : (c : ℕ) (f : Frame) → IsOver c (emptied_one c f)
over_one c (CallOf call) = tt
over_one c (IterOf d ids asker) = λ h. none_if (d == c) c d ids refl h
over_one c (LoopOf number d) = tt

each_over : (c : ℕ) (fs : List Frame) → AllByRecursion (IsOver c) (emptied c fs)
each_over c [] = tt
each_over c (f ∷ fs) = (over_one c f, each_over c fs)

-- ---- what a step does

pub by_either : (ch : ℕ → List ℕ) (fs : List Frame) (x y : Lane) (b : Bool) → FramesGoOn ch fs x.frames → FramesGoOn ch fs y.frames → FramesGoOn ch fs (cond b x y).frames
by_either ch fs x y true h k = h
by_either ch fs x y false h k = k

taken_on : (ch : ℕ → List ℕ) (fs : List Frame) → FramesGoOn ch fs (advanced fs)
taken_on ch fs = inl (each_taken fs)

iterated_on : (ch : ℕ → List ℕ) (fs : List Frame) (c : ℕ) (ids : List ℕ) (asker : Asker) → ids ≡ ch c → TellsAny ids asker → FramesGoOn ch fs (IterOf c ids asker ∷ emptied c (advanced fs))
iterated_on ch fs c ids asker e a = inr (inr (each_emptied c fs (advanced fs) (each_taken fs), (each_over c (advanced fs), e, a)))

tells_any : (ids : List ℕ) → TellsAny ids (askers.Iterate (is_any ids))
tells_any [] = refl
tells_any (id ∷ ids) = λ e. cc

-- a move of a lane whose innermost frame has taken its action, with what was selected then
abbrev Acts : Plan → ℕ → Lane → Lane → Type 0
Acts script tick a b = (ch : ℕ → List ℕ) (fs : List Frame) → a.frames ≡ advanced fs → ((c : ℕ) → chosen script tick c a ≡ ch c) → FramesGoOn ch fs b.frames

-- one that leaves the frames
left_on : (script : Plan) (tick : ℕ) (a b : Lane) → b.frames ≡ a.frames → Acts script tick a b
left_on script tick a b h ch fs e k = subst (FramesGoOn ch fs) (sym (h ∙ e)) (taken_on ch fs)

-- one that begins a frame
begun_on : (ch : ℕ → List ℕ) (fs frames : List Frame) (f : Frame) → frames ≡ advanced fs → MayBegin ch fs (advanced fs) f → FramesGoOn ch fs (f ∷ frames)
begun_on ch fs frames f e m = subst (λ (now : List Frame). FramesGoOn ch fs (f ∷ now)) (sym e) (let begun : Begun ch fs (f ∷ advanced fs) = (each_taken fs, m) in inr (inr begun))

acts_each : (script : Plan) (tick : ℕ) (move : Move) (lane : Lane) → MayMove script move lane → Acts script tick lane (moved script tick move lane)
acts_each script tick (moves.Iterate context) lane m ch fs e k =
    subst (λ (now : List Frame). FramesGoOn ch fs (IterOf context (chosen script tick context lane) (askers.Iterate (is_any (chosen script tick context lane))) ∷ emptied context now)) (sym e)
    (iterated_on ch fs context (chosen script tick context lane) _ (k context) (tells_any (chosen script tick context lane)))
acts_each script tick (moves.Run number context) lane m ch fs e k = begun_on ch fs lane.frames (LoopOf number context) e tt
acts_each script tick (moves.Call context proc acquires) lane m ch fs e k =
    let few : length (begun_calls fs) < 32 = omega (arith, ltb-true (calls_in_progress lane.frames) 32 m.1, ap calls_in_progress e, calls_advanced fs, calls_begun fs) in
    begun_on ch fs lane.frames (CallOf (record { origin = origins.Invoke acquires; body = Procedure proc; place = 0 })) e (few, tt)
acts_each script tick move lane m ch fs e k = left_on script tick lane (moved script tick move lane) refl ch fs e k

acts_moves : (script : Plan) (tick : ℕ) → Law script tick Plain (λ mail. Acts script tick)
acts_moves script tick = record {
  plain = plain_moves tick;
  of = λ a b h. left_on script tick a b h.frames;
  next = λ mail a b c h g ch fs e k. subst (FramesGoOn ch fs) (sym g.frames) (h ch fs e k);
  each = acts_each script tick;
}

acted_on : (ch : ℕ → List ℕ) (script : Plan) (tick : ℕ) (action : Action) (lane : Lane) → ((c : ℕ) → chosen script tick c (taken lane) ≡ ch c) → FramesGoOn ch lane.frames (acted script tick action (taken lane)).frames
acted_on ch script tick action lane k = acted_by (acts_moves script tick) action (taken lane) ch lane.frames refl k

pub some_turn : (t u : Turn) → Some t ≡ Some u → t ≡ u
some_turn t u e = cc

abbrev On : (ℕ → List ℕ) → List Frame → Turn → Type 0
On ch fs u = FramesGoOn ch fs u.lane.frames

counted_on : (ch : ℕ → List ℕ) (tick : ℕ) (mail : Option Mail) (f : Lane → Lane) (t : Turn) (left : ℕ) → FramesGoOn ch t.lane.frames (f t.lane).frames → On ch t.lane.frames (limited_by tick mail f t left)
counted_on ch tick mail f t zero h = inl (each_same t.lane.frames)
counted_on ch tick mail f t (suc n) h = h

returned_on : (ch : ℕ → List ℕ) (script : Plan) (tick : ℕ) (body : Body) (origin : Origin) (lane : Lane) (fs : List Frame) → FramesGoOn ch fs lane.frames → FramesGoOn ch fs (returned script tick body origin lane).frames
returned_on ch script tick body origins.Start lane fs h = h
returned_on ch script tick body (origins.Source caller) lane fs h = by_either ch fs _ _ _ h h
returned_on ch script tick body (origins.Invoke acquired) lane fs h = h

answered_on : (ch : ℕ → List ℕ) (tick context : ℕ) (asker : Asker) (lane : Lane) (fs : List Frame) → FramesGoOn ch fs lane.frames → FramesGoOn ch fs (answered tick context asker lane).frames
answered_on ch tick context askers.Loop lane fs h = h
answered_on ch tick context (askers.Iterate any) lane fs h = h

ended_on : (ch : ℕ → List ℕ) (fs : List Frame) → FramesGoOn ch fs (drop 1 fs)
ended_on ch fs = inr (inl (each_same (drop 1 fs)))

call_on : (ch : ℕ → List ℕ) (script : Plan) (tick : ℕ) (t : Turn) (call : Call) (action : Option Action) → ((c : ℕ) → chosen script tick c (taken t.lane) ≡ ch c) → On ch t.lane.frames (step_call script tick t call action)
call_on ch script tick t call (Some action) k = counted_on ch tick (sends script action (taken t.lane)) (λ lane. acted script tick action (taken lane)) t t.left (acted_on ch script tick action t.lane k)
call_on ch script tick t call None k = returned_on ch script tick call.body call.origin (popped t.lane) t.lane.frames (ended_on ch t.lane.frames)

-- ---- a dispatch is of the next id

row_same : (a b : Row) → Some a ≡ Some b → a ≡ b
row_same a b e = cc

row_by : (id : ℕ) (r : Row) (rows : List Row) (row : Row) (b : Bool) → (r.id == id) ≡ b → (Some row ≡ find (has_id id) rows → row.id ≡ id) → Some row ≡ cond b (Some r) (find (has_id id) rows) → row.id ≡ id
row_by id r rows row true e ih h = elim (eqb_tells r.id id) [ inl t ↦ ap (λ (x : Row). x.id) (row_same row r h) ∙ t.1 | inr f ↦ let no = sym e ∙ f.0 in cc ]
row_by id r rows row false e ih h = ih h

row_found : (id : ℕ) (rows : List Row) (row : Row) → Some row ≡ find (has_id id) rows → row.id ≡ id
row_found id [] row h = let no : Some row ≡ None = h in cc
row_found id (r ∷ rows) row h = row_by id r rows row (r.id == id) refl (row_found id rows row) h

pub row_in_id : (id : ℕ) (o : Option Context) (row : Row) → Some row ≡ row_in id o → row.id ≡ id
row_in_id id None row h = let no : Some row ≡ None = h in cc
row_in_id id (Some c) row h = row_found id c.rows.rows row h

abbrev pub turn : Turn → Lane → ℕ → Bool → Turn
turn rest lane left iterated = record rest { lane = lane; unpolled = []; left = left; iterated = iterated }

abbrev pub going : Lane → List Frame → Lane
going base frames = record base { frames = frames; status = GoesOn }

id_on : (ch : ℕ → List ℕ) (rest : Turn) (tick : ℕ) (base : Lane) (below : List Frame) (left : ℕ) (iterated : Bool) (context id : ℕ) (ids : List ℕ) (asker : Asker) (r : Option Row)
    → let lane : Lane = going base (IterOf context (id ∷ ids) asker ∷ below) in
    r ≡ row_of context id lane → On ch lane.frames (step_id tick (turn rest lane left iterated) context r)
id_on ch rest tick base below left iterated context id ids asker None e = inl (each_taken (IterOf context (id ∷ ids) asker ∷ below))
id_on ch rest tick base below left iterated context id ids asker (Some row) e =
    let lane : Lane = going base (IterOf context (id ∷ ids) asker ∷ below) in
    counted_on ch tick None (dispatching tick context row) (turn rest lane left iterated) left (by (nat_lt (calls_in_progress lane.frames) 32) refl)
  where
    by : let lane : Lane = going base (IterOf context (id ∷ ids) asker ∷ below) in (b : Bool) → nat_lt (calls_in_progress lane.frames) 32 ≡ b → FramesGoOn ch lane.frames (cond b (dispatched tick context row lane) (stopped Halted (written tick events.HaltDepth lane))).frames
    by true k =
        let lane : Lane = going base (IterOf context (id ∷ ids) asker ∷ below) in
        let few : length (begun_calls lane.frames) < 32 = omega (arith, ltb-true (calls_in_progress lane.frames) 32 k, calls_begun lane.frames) in
        let begun : Begun ch lane.frames (dispatched tick context row lane).frames = (each_taken lane.frames, (few, record { ids = ids; asker = asker; below = below; was = ap (λ (i : ℕ). IterOf context (i ∷ ids) asker ∷ below) (sym (row_in_id id (context_at context lane) row e)); is = refl })) in
        inr (inr begun)
    by false k = inl (each_same (IterOf context (id ∷ ids) asker ∷ below))

loop_on : (ch : ℕ → List ℕ) (rest : Turn) (script : Plan) (tick : ℕ) (base : Lane) (below : List Frame) (left : ℕ) (iterated : Bool) (number context : ℕ) (runs : Bool) (u : Turn)
    → let lane : Lane = going base (LoopOf number context ∷ below) in let t : Turn = turn rest lane left iterated in
    ((c : ℕ) → chosen script tick c lane ≡ ch c) → cond runs (cond iterated None (Some (turn rest (iterating script tick context askers.Loop t.lane) left true))) (Some (with_lane (λ lane. written tick (events.LoopEnd number) (popped lane)) t)) ≡ Some u → On ch lane.frames u
loop_on ch rest script tick base below left true number context true u k e = cc
loop_on ch rest script tick base below left false number context true u k e =
    let fs : List Frame = LoopOf number context ∷ below in
    subst (On ch fs) (some_turn _ _ e) (inr (inr (each_emptied context fs fs (each_same fs), (each_over context fs, k context, tt))))
loop_on ch rest script tick base below left iterated number context false u k e =
    subst (On ch (LoopOf number context ∷ below)) (some_turn _ _ e) (ended_on ch (LoopOf number context ∷ below))

step_on : (ch : ℕ → List ℕ) (rest : Turn) (script : Plan) (tick : ℕ) (base : Lane) (frames : List Frame) (status : Status) (left : ℕ) (iterated : Bool) (u : Turn)
    → ((c : ℕ) → chosen script tick c (record base { frames = frames; status = status }) ≡ ch c) → step script tick (turn rest (record base { frames = frames; status = status }) left iterated) ≡ Some u → On ch frames u
step_on ch rest script tick base [] GoesOn left iterated u k e = cc
step_on ch rest script tick base (CallOf call ∷ below) GoesOn left iterated u k e =
    subst (On ch (CallOf call ∷ below)) (some_turn _ _ e) (call_on ch script tick (turn rest (going base (CallOf call ∷ below)) left iterated) call (slice_get (actions_of script call.body) call.place) k)
step_on ch rest script tick base (IterOf context [] asker ∷ below) GoesOn left iterated u k e =
    let fs : List Frame = IterOf context [] asker ∷ below in
    subst (On ch fs) (some_turn _ _ e) (answered_on ch tick context asker (popped (going base fs)) fs (ended_on ch fs))
step_on ch rest script tick base (IterOf context (id ∷ ids) asker ∷ below) GoesOn left iterated u k e =
    let lane : Lane = going base (IterOf context (id ∷ ids) asker ∷ below) in
    subst (On ch lane.frames) (some_turn _ _ e) (id_on ch rest tick base below left iterated context id ids asker (row_of context id lane) refl)
step_on ch rest script tick base (LoopOf number context ∷ below) GoesOn left iterated u k e =
    loop_on ch rest script tick base below left iterated number context (is_running number (going base (LoopOf number context ∷ below))) u k e
step_on ch rest script tick base frames Ended left iterated u k e = cc
step_on ch rest script tick base frames Halted left iterated u k e = cc

polling_on : (ch : ℕ → List ℕ) (script : Plan) (tick : ℕ) (t : Turn) (tasks : List Started) (u : Turn) → ((c : ℕ) → chosen script tick c t.lane ≡ ch c) → step_polling script tick (record t { unpolled = tasks }) tasks ≡ Some u → On ch t.lane.frames u
polling_on ch script tick t [] u k e = step_on ch t script tick t.lane t.lane.frames t.lane.status t.left t.iterated u k e
polling_on ch script tick t (task ∷ tasks) u k e = subst (On ch t.lane.frames) (some_turn _ _ e) (inl (each_same t.lane.frames))

pub goes_on : (script : Plan) (tick : ℕ) (t u : Turn) → step script tick t ≡ Some u → FramesGoOn (λ context. chosen script tick context t.lane) t.lane.frames u.lane.frames
goes_on script tick t u e = polling_on (λ context. chosen script tick context t.lane) script tick t t.unpolled u (λ c. refl) e

-- ---- what an `iterate` is told

told_at : (script : Plan) (tick : ℕ) (rest : Turn) (base : Lane) (below : List Frame) (left : ℕ) (iterated : Bool) (context : ℕ) (any : Bool) (u : Turn)
    → step script tick (turn rest (going base (IterOf context [] (askers.Iterate any) ∷ below)) left iterated) ≡ Some u → (u.lane.frames ≡ below) × (u.lane.trace ≡ base.trace ++ (record { tick = tick; event = events.Iterate context any }) ∷ [])
told_at script tick rest base below left iterated context any u e =
    let same = sym (some_turn _ _ e) in
    (ap (λ (v : Turn). v.lane.frames) same, ap (λ (v : Turn). v.lane.trace) same)

-- a turn that is in the middle of some frames
pub in_the_middle : (script : Plan) (tick : ℕ) (t u : Turn) (frames : List Frame) → t.unpolled ≡ [] → t.lane.status ≡ GoesOn → t.lane.frames ≡ frames → step script tick t ≡ Some u → step script tick (turn t (going t.lane frames) t.left t.iterated) ≡ Some u
in_the_middle script tick t u frames p s f e =
    let at : List Started → Status → List Frame → Turn = λ tasks status fs. record t { unpolled = tasks; lane = record t.lane { frames = fs; status = status } } in
    subst (λ (fs : List Frame). step script tick (at [] GoesOn fs) ≡ Some u) f
    (subst (λ (x : Status). step script tick (at [] x t.lane.frames) ≡ Some u) s (subst (λ (tasks : List Started). step script tick (at tasks t.lane.status t.lane.frames) ≡ Some u) p e))

pub told_answer : (script : Plan) (tick : ℕ) (t u : Turn) (context : ℕ) (any : Bool) (below : List Frame) → t.unpolled ≡ [] → t.lane.status ≡ GoesOn → t.lane.frames ≡ IterOf context [] (askers.Iterate any) ∷ below
    → step script tick t ≡ Some u → (u.lane.frames ≡ below) × (u.lane.trace ≡ t.lane.trace ++ (record { tick = tick; event = events.Iterate context any }) ∷ [])
told_answer script tick t u context any below p s f e = told_at script tick t t.lane below t.left t.iterated context any u (in_the_middle script tick t u (IterOf context [] (askers.Iterate any) ∷ below) p s f e)
