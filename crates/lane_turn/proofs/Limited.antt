-- What a step takes of the actions and dispatches that a turn may take.
use Rattle.std.proofs.Common.{◌≡◌, inl, inr, ℕ, zero, suc, ◌≤◌, Bool, true, false, cond, Option, Some, None, List, [], ◌∷◌, refl, ap, sym, ◌∙◌, arith, subst}
use Rattle.std.specs.Prelude.{slice_get, is_some}
use Rattle.loop_script.specs.declared.plan.Plan.{Plan}
use Rattle.loop_script.specs.declared.action.Action.{Action}
use Rattle.loop_script.specs.Parts.{actions_of}
use Rattle.source_rows.specs.declared.row.Row.{Row}
use Rattle.post_office.specs.declared.letter.Body.{Body as Mail}
use Rattle.lane_watch.specs.Tasks.{Started}
use Rattle.lane_turn.specs.declared.layer.Asker.{Asker}
use Rattle.lane_turn.specs.declared.layer.Asker.TheVariants as askers
use Rattle.lane_turn.specs.declared.layer.Call.{Call}
use Rattle.lane_turn.specs.declared.line.Event.TheVariants as events
use Rattle.lane_turn.specs.declared.lane.Status.{Status}
use Rattle.lane_turn.specs.declared.lane.Status.TheVariants.{GoesOn, Ended, Halted}
use Rattle.lane_turn.specs.Frames.{Frame, CallOf, IterOf, LoopOf}
use Rattle.lane_turn.specs.Lane.{Lane, Turn, taken, popped, written, row_of, is_running, iterating}
use Rattle.lane_turn.specs.Acted.{acted, sends}
use Rattle.lane_turn.specs.Step.{step, step_call, step_id, step_polling, limited_by, dispatching, with_lane}
use Rattle.lane_turn.specs.Limited.{TakesOne, is_counted, is_counted_by}
use Rattle.lane_turn.proofs.Iterations.{some_turn, going, in_the_middle}

takes_one : (tick : ℕ) (mail : Option Mail) (f : Lane → Lane) (t : Turn) (left : ℕ) → t.left ≡ left → TakesOne tick t (limited_by tick mail f t left)
takes_one tick mail f t zero e = inr (e, refl)
takes_one tick mail f t (suc n) e = inl (omega (arith, e))

abbrev middle : Turn → List Frame → Turn
middle t frames = record t { lane = going t.lane frames; unpolled = [] }

-- the same of the turn that is in the middle of these frames
of_middle : (tick : ℕ) (t u : Turn) (frames : List Frame) → t.lane.status ≡ GoesOn → t.lane.frames ≡ frames → TakesOne tick (middle t frames) u → TakesOne tick t u
of_middle tick t u frames s f h =
    subst (λ (lane : Lane). TakesOne tick (record t { lane = lane }) u) (λ i. record t.lane { frames = sym f i; status = sym s i }) h

pub takes_action : (script : Plan) (tick : ℕ) (t u : Turn) (call : Call) (action : Action) (below : List Frame) → t.unpolled ≡ [] → t.lane.status ≡ GoesOn → t.lane.frames ≡ CallOf call ∷ below
    → slice_get (actions_of script call.body) call.place ≡ Some action → step script tick t ≡ Some u → TakesOne tick t u
takes_action script tick t u call action below p s f a e =
    let frames : List Frame = CallOf call ∷ below in
    let now : Turn = middle t frames in
    let at : step script tick now ≡ Some u = in_the_middle script tick t u frames p s f e in
    let so : Some (step_call script tick now call (Some action)) ≡ Some u = ap (λ (o : Option Action). Some (step_call script tick now call o)) (sym a) ∙ at in
    of_middle tick t u frames s f
    (subst (TakesOne tick now) (some_turn _ _ so) (takes_one tick (sends script action (taken now.lane)) (λ lane. acted script tick action (taken lane)) now now.left refl))

pub takes_dispatch : (script : Plan) (tick : ℕ) (t u : Turn) (context id : ℕ) (ids : List ℕ) (asker : Asker) (below : List Frame) (row : Row) → t.unpolled ≡ [] → t.lane.status ≡ GoesOn
    → t.lane.frames ≡ IterOf context (id ∷ ids) asker ∷ below → row_of context id t.lane ≡ Some row → step script tick t ≡ Some u → TakesOne tick t u
takes_dispatch script tick t u context id ids asker below row p s f r e =
    let frames : List Frame = IterOf context (id ∷ ids) asker ∷ below in
    let now : Turn = middle t frames in
    let at : step script tick now ≡ Some u = in_the_middle script tick t u frames p s f e in
    let so : Some (step_id tick now context (Some row)) ≡ Some u = ap (λ (o : Option Row). Some (step_id tick now context o)) (sym r) ∙ at in
    of_middle tick t u frames s f
    (subst (TakesOne tick now) (some_turn _ _ so) (takes_one tick None (dispatching tick context row) now now.left refl))

-- ---- no step gives one back

abbrev Falls : Turn → Turn → Type 0
Falls t u = u.left ≤ t.left

falls_limited : (tick : ℕ) (mail : Option Mail) (f : Lane → Lane) (t : Turn) (left : ℕ) → t.left ≡ left → Falls t (limited_by tick mail f t left)
falls_limited tick mail f t zero e = omega arith
falls_limited tick mail f t (suc n) e = omega (arith, e)

falls_call : (script : Plan) (tick : ℕ) (t : Turn) (call : Call) (a : Option Action) → Falls t (step_call script tick t call a)
falls_call script tick t call (Some a) = falls_limited tick (sends script a (taken t.lane)) (λ lane. acted script tick a (taken lane)) t t.left refl
falls_call script tick t call None = omega arith

falls_id : (tick : ℕ) (t : Turn) (context : ℕ) (r : Option Row) → Falls t (step_id tick t context r)
falls_id tick t context None = omega arith
falls_id tick t context (Some row) = falls_limited tick None (dispatching tick context row) t t.left refl

falls_loop : (script : Plan) (tick : ℕ) (t : Turn) (number context : ℕ) (runs iterated : Bool) (u : Turn)
    → cond runs (cond iterated None (Some (record t { lane = iterating script tick context askers.Loop t.lane; iterated = true }))) (Some (with_lane (λ lane. written tick (events.LoopEnd number) (popped lane)) t)) ≡ Some u → Falls t u
falls_loop script tick t number context true true u e = cc
falls_loop script tick t number context true false u e = subst (Falls t) (some_turn _ _ e) (omega arith)
falls_loop script tick t number context false iterated u e = subst (Falls t) (some_turn _ _ e) (omega arith)

abbrev turn : Turn → List Frame → Status → Turn
turn t frames status = record t { lane = record t.lane { frames = frames; status = status }; unpolled = [] }

falls_going : (script : Plan) (tick : ℕ) (t : Turn) (frames : List Frame) (status : Status) (u : Turn) → step script tick (turn t frames status) ≡ Some u → Falls (turn t frames status) u
falls_going script tick t [] GoesOn u e = cc
falls_going script tick t (CallOf call ∷ below) GoesOn u e =
    let now : Turn = turn t (CallOf call ∷ below) GoesOn in
    subst (Falls now) (some_turn _ _ e) (falls_call script tick now call (slice_get (actions_of script call.body) call.place))
falls_going script tick t (IterOf context [] asker ∷ below) GoesOn u e = subst (Falls (turn t (IterOf context [] asker ∷ below) GoesOn)) (some_turn _ _ e) (omega arith)
falls_going script tick t (IterOf context (id ∷ ids) asker ∷ below) GoesOn u e =
    let now : Turn = turn t (IterOf context (id ∷ ids) asker ∷ below) GoesOn in
    subst (Falls now) (some_turn _ _ e) (falls_id tick now context (row_of context id now.lane))
falls_going script tick t (LoopOf number context ∷ below) GoesOn u e =
    let now : Turn = turn t (LoopOf number context ∷ below) GoesOn in
    falls_loop script tick now number context (is_running number now.lane) now.iterated u e
falls_going script tick t frames Ended u e = cc
falls_going script tick t frames Halted u e = cc

falls_polling : (script : Plan) (tick : ℕ) (t : Turn) (tasks : List Started) (u : Turn) → step_polling script tick (record t { unpolled = tasks }) tasks ≡ Some u → Falls (record t { unpolled = tasks }) u
falls_polling script tick t [] u e = falls_going script tick t t.lane.frames t.lane.status u e
falls_polling script tick t (task ∷ tasks) u e = subst (Falls (record t { unpolled = task ∷ tasks })) (some_turn _ _ e) (omega arith)

pub left_falls : (script : Plan) (tick : ℕ) (t u : Turn) → step script tick t ≡ Some u → u.left ≤ t.left
left_falls script tick t u e = falls_polling script tick t t.unpolled u e

-- ---- what is not counted takes none

abbrev Leaves : Turn → Turn → Type 0
Leaves t u = u.left ≡ t.left

leaves_call : (script : Plan) (tick : ℕ) (t : Turn) (call : Call) (a : Option Action) → is_some a ≡ false → Leaves t (step_call script tick t call a)
leaves_call script tick t call (Some a) h = let no : true ≡ false = h in cc
leaves_call script tick t call None h = refl

leaves_id : (tick : ℕ) (t : Turn) (context : ℕ) (r : Option Row) → is_some r ≡ false → Leaves t (step_id tick t context r)
leaves_id tick t context (Some row) h = let no : true ≡ false = h in cc
leaves_id tick t context None h = refl

leaves_loop : (script : Plan) (tick : ℕ) (t : Turn) (number context : ℕ) (runs iterated : Bool) (u : Turn)
    → cond runs (cond iterated None (Some (record t { lane = iterating script tick context askers.Loop t.lane; iterated = true }))) (Some (with_lane (λ lane. written tick (events.LoopEnd number) (popped lane)) t)) ≡ Some u → Leaves t u
leaves_loop script tick t number context true true u e = cc
leaves_loop script tick t number context true false u e = subst (Leaves t) (some_turn _ _ e) refl
leaves_loop script tick t number context false iterated u e = subst (Leaves t) (some_turn _ _ e) refl

leaves_going : (script : Plan) (tick : ℕ) (t : Turn) (frames : List Frame) (status : Status) (u : Turn) → is_counted script (turn t frames status) ≡ false → step script tick (turn t frames status) ≡ Some u → Leaves (turn t frames status) u
leaves_going script tick t [] GoesOn u h e = cc
leaves_going script tick t (CallOf call ∷ below) GoesOn u h e =
    let now : Turn = turn t (CallOf call ∷ below) GoesOn in
    subst (Leaves now) (some_turn _ _ e) (leaves_call script tick now call (slice_get (actions_of script call.body) call.place) h)
leaves_going script tick t (IterOf context [] asker ∷ below) GoesOn u h e = subst (Leaves (turn t (IterOf context [] asker ∷ below) GoesOn)) (some_turn _ _ e) refl
leaves_going script tick t (IterOf context (id ∷ ids) asker ∷ below) GoesOn u h e =
    let now : Turn = turn t (IterOf context (id ∷ ids) asker ∷ below) GoesOn in
    subst (Leaves now) (some_turn _ _ e) (leaves_id tick now context (row_of context id now.lane) h)
leaves_going script tick t (LoopOf number context ∷ below) GoesOn u h e =
    let now : Turn = turn t (LoopOf number context ∷ below) GoesOn in
    leaves_loop script tick now number context (is_running number now.lane) now.iterated u e
leaves_going script tick t frames Ended u h e = cc
leaves_going script tick t frames Halted u h e = cc

leaves_polling : (script : Plan) (tick : ℕ) (t : Turn) (tasks : List Started) (u : Turn) → is_counted_by script t.lane tasks t.lane.status ≡ false → step_polling script tick (record t { unpolled = tasks }) tasks ≡ Some u → Leaves (record t { unpolled = tasks }) u
leaves_polling script tick t [] u h e = leaves_going script tick t t.lane.frames t.lane.status u h e
leaves_polling script tick t (task ∷ tasks) u h e = subst (Leaves (record t { unpolled = task ∷ tasks })) (some_turn _ _ e) refl

pub others_leave : (script : Plan) (tick : ℕ) (t u : Turn) → is_counted script t ≡ false → step script tick t ≡ Some u → u.left ≡ t.left
others_leave script tick t u h e = leaves_polling script tick t t.unpolled u h e
