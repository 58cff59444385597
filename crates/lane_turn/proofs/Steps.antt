-- Each step leaves less to do and keeps the bounds.
use Rattle.std.proofs.Common.{◌≡◌, ℕ, zero, suc, ◌+◌, ◌<◌, ◌≤◌, Bool, true, false, not, ◌&&◌, cond, Option, Some, None, List, [], ◌∷◌, length, drop, refl, ap, sym, arith, subst}
use Rattle.std.specs.Prelude.{slice_get}
use Rattle.std.specs.List.{AllByRecursion}
use Rattle.loop_script.specs.declared.plan.Plan.{Plan}
use Rattle.loop_script.specs.declared.action.Action.{Action}
use Rattle.loop_script.specs.declared.body.Body.{Body}
use Rattle.loop_script.specs.Parts.{time_of, actions_of, stays}
use Rattle.source_rows.specs.declared.row.Row.{Row}
use Rattle.source_rows.specs.Rows.{RowSet, destroyed}
use Rattle.lane_turn.specs.declared.line.Event.TheVariants as events
use Rattle.lane_turn.specs.declared.lane.Status.{Status}
use Rattle.lane_turn.specs.declared.lane.Status.TheVariants.{GoesOn, Ended, Halted}
use Rattle.lane_turn.specs.declared.layer.Call.{Call}
use Rattle.lane_turn.specs.declared.layer.Origin.{Origin}
use Rattle.lane_turn.specs.declared.layer.Origin.TheVariants.{Start, Source, Invoke}
use Rattle.cancel_view.specs.Seen.{Seen}
use Rattle.lane_turn.specs.Frames.{Frame, CallOf, IterOf, LoopOf}
use Rattle.lane_turn.specs.Sources.{restarted}
use Rattle.lane_turn.specs.Lane.{Lane, Turn, popped, taken, row_of, iterating, is_running, edited, written}
use Rattle.lane_watch.specs.Tasks.{Started}
use Rattle.post_office.specs.declared.letter.Body.{Body as Mail}
use Rattle.lane_turn.specs.Acted.{acted, sends}
use Rattle.lane_turn.specs.Step.{step, step_polling, polled, step_call, step_id, returned, answered, limited_by, with_lane, dispatching}
use Rattle.lane_turn.specs.Turn.{work, work_of, while_going, nest_work, row_count}
use Rattle.lane_turn.specs.Sound.{IsSound, IsWithin, Bounded}
use Rattle.lane_turn.proofs.Measure.{pays, lessens, begins}
use Rattle.lane_turn.proofs.Acts.{mild_acted, mild_taken, mild_dispatching}
use Rattle.lane_turn.proofs.Mild.{Mild, MildEdit, rows_edited, bounded_edited, mild_destroyed, mild_restarted, work_emptied, each_bounded, length_emptied, length-chosen}
use Rattle.lane_turn.specs.declared.layer.Asker.{Asker}
use Rattle.lane_turn.specs.declared.layer.Asker.TheVariants as askers

-- a turn from t to u leaves less to do, and keeps the counters' bound
pub record Goes (n : ℕ) (t u : Turn) : Type 0 where
  pub falls : work u < work t
  pub keeps : IsSound n t → IsSound n u

-- what is not counted: it ends or takes something of the innermost frame, and raises no counter
record Less (lane after : Lane) : Type 0 where
  pub rows : row_count after.contexts ≤ row_count lane.contexts
  pub frames : nest_work after.frames < nest_work lane.frames
  pub within : (m : ℕ) → IsWithin m lane → IsWithin m after

-- a turn that polled all its tasks, with what else it keeps
abbrev turn : Turn → Lane → ℕ → Bool → Turn
turn rest lane left iterated = record rest { lane = lane; unpolled = []; left = left; iterated = iterated }

some_same : (t u : Turn) → Some t ≡ Some u → t ≡ u
some_same t u e = cc

at_most : (s : Status) (n : ℕ) → while_going s n ≤ suc n
at_most GoesOn n = omega arith
at_most Ended n = omega arith
at_most Halted n = omega arith

fall : (s s' : Status) (a b : ℕ) → s ≡ GoesOn → b < a → while_going s' b < while_going s a
fall s s' a b g h = let e : while_going s a ≡ suc a = ap (λ x. while_going x a) g in omega (arith, at_most s' b)

halted : (s : Status) (a : ℕ) → s ≡ GoesOn → 0 < while_going s a
halted s a g = let e : while_going s a ≡ suc a = ap (λ x. while_going x a) g in omega arith

-- the three kinds of step
counted_goes : (rest : Turn) (n tick : ℕ) (mail : Option Mail) (f : Lane → Lane) (lane : Lane) (left : ℕ) (iterated : Bool) → lane.status ≡ GoesOn → Mild lane (f lane)
    → Goes n (turn rest lane left iterated) (limited_by tick mail f (turn rest lane left iterated) left)
counted_goes rest n tick mail f lane zero iterated g h = record {
  falls = omega (arith, halted lane.status (work_of 0 (row_count lane.contexts) (nest_work lane.frames) iterated) g);
  keeps = λ s. record { bound = s.bound; fits = omega (arith, s.fits); within = record { contexts = s.within.contexts; frames = s.within.frames; handlers = s.within.handlers } };
}
counted_goes rest n tick mail f lane (suc left) iterated g h = record {
  falls = omega (arith, fall lane.status (f lane).status _ _ g (pays left (row_count lane.contexts) (row_count (f lane).contexts) (nest_work lane.frames) (nest_work (f lane).frames) iterated h.rows h.frames));
  keeps = λ s. record { bound = s.bound + 2; fits = omega (arith, s.fits); within = h.within s.bound s.within };
}

less_goes : (rest : Turn) (n : ℕ) (lane after : Lane) (left : ℕ) (iterated : Bool) → lane.status ≡ GoesOn → Less lane after → Goes n (turn rest lane left iterated) (turn rest after left iterated)
less_goes rest n lane after left iterated g h = record {
  falls = omega (arith, fall lane.status after.status _ _ g (lessens left (row_count lane.contexts) (row_count after.contexts) (nest_work lane.frames) (nest_work after.frames) iterated h.rows h.frames));
  keeps = λ s. record { bound = s.bound; fits = s.fits; within = h.within s.bound s.within };
}

begun_goes : (rest : Turn) (n : ℕ) (lane : Lane) (script : Plan) (left tick context : ℕ) (asker : Asker) → lane.status ≡ GoesOn → Goes n (turn rest lane left false) (turn rest (iterating script tick context asker lane) left true)
begun_goes rest n lane script left tick context asker g = record {
  falls = omega (arith, fall lane.status lane.status _ _ g (begins left (row_count lane.contexts) (nest_work lane.frames) (nest_work (iterating script tick context asker lane).frames) (omega (arith, work_emptied context lane.frames, length-chosen script tick context lane))));
  keeps = λ s. record {
    bound = s.bound + 1;
    fits = omega (arith, s.fits);
    within = record { contexts = each_bounded s.bound (s.bound + 1) (omega arith) lane.contexts s.within.contexts; frames = omega (arith, s.within.frames, length_emptied context lane.frames); handlers = omega (arith, s.within.handlers) };
  };
}

-- what ends a frame, whatever it writes
ends : (lane after : Lane) → nest_work (drop 1 lane.frames) < nest_work lane.frames → length (drop 1 lane.frames) ≤ length lane.frames → after.contexts ≡ lane.contexts → after.view ≡ lane.view → after.frames ≡ drop 1 lane.frames → Less lane after
ends lane after w l c v f = record {
  rows = omega (arith, ap row_count c);
  frames = omega (arith, ap nest_work f, w);
  within = λ m i. record {
    contexts = subst (AllByRecursion (Bounded m)) (sym c) i.contexts;
    frames = omega (arith, ap (λ (fs : List Frame). length fs) f, l, i.frames);
    handlers = omega (arith, ap (λ (s : Seen). s.next_id) v, i.handlers);
  };
}

-- a lane that goes on
abbrev going : Lane → List Frame → Lane
going base frames = record base { frames = frames; status = GoesOn }

less_either : (lane x y : Lane) (b : Bool) → Less lane x → Less lane y → Less lane (cond b x y)
less_either lane x y true p q = p
less_either lane x y false p q = q

-- a call that ends, with an edit that adds no row and raises no counter
edit_less : (base : Lane) (below : List Frame) (call : Call) (context : ℕ) (edit : RowSet → RowSet) → MildEdit 0 0 edit
    → let lane : Lane = going base (CallOf call ∷ below) in Less lane (edited context edit (popped lane))
edit_less base below call context edit mild = record {
  rows = omega (arith, rows_edited 0 0 edit mild base.contexts context);
  frames = omega arith;
  within = λ m i. record {
    contexts = each_bounded (m + 0) m (omega arith) _ (bounded_edited 0 0 m edit mild base.contexts context i.contexts);
    frames = omega (arith, i.frames);
    handlers = i.handlers;
  };
}

returned_less : (script : Plan) (tick : ℕ) (base : Lane) (below : List Frame) (call : Call) (body : Body) (origin : Origin)
    → let lane : Lane = going base (CallOf call ∷ below) in Less lane (returned script tick body origin (popped lane))
returned_less script tick base below call body Start =
    ends (going base (CallOf call ∷ below)) _ (omega arith) (omega arith) refl refl refl
returned_less script tick base below call body (Invoke acquired) =
    ends (going base (CallOf call ∷ below)) _ (omega arith) (omega arith) refl refl refl
returned_less script tick base below call body (Source caller) =
    less_either (going base (CallOf call ∷ below)) _ _ (not caller.once && stays script body caller.number)
    (edit_less base below call caller.context (restarted (time_of script tick) caller.id) (mild_restarted (time_of script tick) caller.id))
    (edit_less base below call caller.context (destroyed caller.id) (mild_destroyed caller.id))

call_goes : (rest : Turn) (script : Plan) (n tick : ℕ) (base : Lane) (below : List Frame) (left : ℕ) (iterated : Bool) (call : Call) (a : Option Action)
    → let t : Turn = turn rest (going base (CallOf call ∷ below)) left iterated in Goes n t (step_call script tick t call a)
call_goes rest script n tick base below left iterated call (Some a) =
    let lane : Lane = going base (CallOf call ∷ below) in
    counted_goes rest n tick (sends script a (taken lane)) (λ lane. acted script tick a (taken lane)) lane left iterated refl (mild_taken lane _ (mild_acted script tick a (taken lane)))
call_goes rest script n tick base below left iterated call None =
    less_goes rest n (going base (CallOf call ∷ below)) _ left iterated refl (returned_less script tick base below call call.body call.origin)

answered_less : (tick : ℕ) (base : Lane) (below : List Frame) (context : ℕ) (asker asked : Asker)
    → let lane : Lane = going base (IterOf context [] asker ∷ below) in Less lane (answered tick context asked (popped lane))
answered_less tick base below context asker askers.Loop = ends (going base (IterOf context [] asker ∷ below)) _ (omega arith) (omega arith) refl refl refl
answered_less tick base below context asker (askers.Iterate any) = ends (going base (IterOf context [] asker ∷ below)) _ (omega arith) (omega arith) refl refl refl

id_goes : (rest : Turn) (n tick : ℕ) (base : Lane) (below : List Frame) (left : ℕ) (iterated : Bool) (context id : ℕ) (ids : List ℕ) (asker : Asker) (r : Option Row)
    → let t : Turn = turn rest (going base (IterOf context (id ∷ ids) asker ∷ below)) left iterated in Goes n t (step_id tick t context r)
id_goes rest n tick base below left iterated context id ids asker None =
    less_goes rest n (going base (IterOf context (id ∷ ids) asker ∷ below)) _ left iterated refl
    (record { rows = omega arith; frames = omega arith; within = λ m i. record { contexts = i.contexts; frames = omega (arith, i.frames); handlers = i.handlers } })
id_goes rest n tick base below left iterated context id ids asker (Some row) =
    let lane : Lane = going base (IterOf context (id ∷ ids) asker ∷ below) in
    counted_goes rest n tick None (dispatching tick context row) lane left iterated refl (mild_dispatching lane tick context row)

loop_goes : (rest : Turn) (script : Plan) (n tick : ℕ) (base : Lane) (below : List Frame) (left : ℕ) (iterated : Bool) (number context : ℕ) (runs : Bool) (u : Turn)
    → let t : Turn = turn rest (going base (LoopOf number context ∷ below)) left iterated in
    cond runs (cond iterated None (Some (turn rest (iterating script tick context askers.Loop t.lane) left true))) (Some (with_lane (λ lane. written tick (events.LoopEnd number) (popped lane)) t)) ≡ Some u → Goes n t u
loop_goes rest script n tick base below left true number context true u e = cc
loop_goes rest script n tick base below left false number context true u e =
    subst (Goes n _) (some_same _ _ e) (begun_goes rest n (going base (LoopOf number context ∷ below)) script left tick context askers.Loop refl)
loop_goes rest script n tick base below left iterated number context false u e =
    subst (Goes n _) (some_same _ _ e) (less_goes rest n (going base (LoopOf number context ∷ below)) _ left iterated refl (ends (going base (LoopOf number context ∷ below)) _ (omega arith) (omega arith) refl refl refl))

step_goes : (rest : Turn) (script : Plan) (n tick : ℕ) (base : Lane) (frames : List Frame) (status : Status) (left : ℕ) (iterated : Bool) (u : Turn) →
    let t : Turn = turn rest (record base { frames = frames; status = status }) left iterated in
    step script tick t ≡ Some u → Goes n t u
step_goes rest script n tick base [] GoesOn left iterated u e = cc
step_goes rest script n tick base (CallOf call ∷ below) GoesOn left iterated u e =
    subst (Goes n _) (some_same _ _ e) (call_goes rest script n tick base below left iterated call (slice_get (actions_of script call.body) call.place))
step_goes rest script n tick base (IterOf context [] asker ∷ below) GoesOn left iterated u e =
    subst (Goes n _) (some_same _ _ e) (less_goes rest n (going base (IterOf context [] asker ∷ below)) _ left iterated refl (answered_less tick base below context asker asker))
step_goes rest script n tick base (IterOf context (id ∷ ids) asker ∷ below) GoesOn left iterated u e =
    let lane : Lane = going base (IterOf context (id ∷ ids) asker ∷ below) in
    subst (Goes n _) (some_same _ _ e) (id_goes rest n tick base below left iterated context id ids asker (row_of context id lane))
step_goes rest script n tick base (LoopOf number context ∷ below) GoesOn left iterated u e =
    let lane : Lane = going base (LoopOf number context ∷ below) in
    loop_goes rest script n tick base below left iterated number context (is_running number lane) u e
step_goes rest script n tick base frames Ended left iterated u e = cc
step_goes rest script n tick base frames Halted left iterated u e = cc

polled_goes : (n tick : ℕ) (t : Turn) (task : Started) (tasks : List Started) → Goes n (record t { unpolled = task ∷ tasks }) (polled tick task (record t { unpolled = tasks }))
polled_goes n tick t task tasks = record {
  falls = omega arith;
  keeps = λ s. record { bound = s.bound; fits = s.fits; within = record { contexts = s.within.contexts; frames = s.within.frames; handlers = s.within.handlers } };
}

polling_goes : (script : Plan) (n tick : ℕ) (t : Turn) (tasks : List Started) (u : Turn) → step_polling script tick (record t { unpolled = tasks }) tasks ≡ Some u → Goes n (record t { unpolled = tasks }) u
polling_goes script n tick t [] u e = step_goes t script n tick t.lane t.lane.frames t.lane.status t.left t.iterated u e
polling_goes script n tick t (task ∷ tasks) u e = subst (Goes n _) (some_same _ _ e) (polled_goes n tick t task tasks)

pub goes : (script : Plan) (n tick : ℕ) (t u : Turn) → step script tick t ≡ Some u → Goes n t u
goes script n tick t u e = polling_goes script n tick t t.unpolled u e
