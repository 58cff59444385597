-- What actions write, and what they leave of the sources: lines of the tick that are no dispatch.
use Rattle.std.proofs.Common.{◌≡◌, ℕ, ◌≤◌, Bool, true, false, cond, List, [], ◌∷◌, ◌++◌, refl, ap, sym, ◌∙◌, subst, append-nil, append_assoc, arith, ltb-false}
use Rattle.std.specs.Prelude.{not, ◌&&◌}
use Rattle.std.specs.List.{AllByRecursion}
use Rattle.loop_script.specs.declared.plan.Plan.{Plan}
use Rattle.loop_script.specs.declared.action.Action.{Action}
use Rattle.loop_script.specs.declared.body.Body.{Body}
use Rattle.loop_script.specs.Parts.{time_of, stays}
use Rattle.source_rows.specs.Rows.{RowSet, destroyed, ready_set, row_of as row_with}
use Rattle.context_core.specs.declared.context.Context.{Context}
use Rattle.lane_turn.specs.declared.line.Line.{Line}
use Rattle.lane_turn.specs.declared.line.Event.{Event}
use Rattle.lane_turn.specs.declared.line.Event.TheVariants as events
use Rattle.lane_turn.specs.declared.line.Invoked.TheVariants.{Direct}
use Rattle.lane_turn.specs.declared.layer.Origin.{Origin}
use Rattle.lane_turn.specs.declared.layer.Origin.TheVariants.{Start, Source, Invoke as Invoked}
use Rattle.lane_turn.specs.Frames.{calls_in_progress}
use Rattle.lane_turn.specs.Sources.{restarted}
use Rattle.lane_turn.specs.Lane.{Lane, with_rows, with_context, edited, written}
use Rattle.lane_turn.specs.Acted.{acted, cancel}
use Rattle.lane_turn.specs.Step.{returned, answered}
use Rattle.lane_turn.specs.Traces.{Grows}
use Rattle.lane_turn.specs.Rest.{IsBrought}
use Rattle.lane_turn.proofs.Counts.{Edits, AllEdit, edits_attached, edits_child, edits_destroyed, edits_ready_set, edits_reprioritised, edits_restarted, edits_same, all_same, all_trans, all_changed}
use Rattle.lane_turn.proofs.Moves as moves
use Rattle.lane_turn.proofs.Moves.{PlainMove, plainly, IsSaid, IsPlain, PlainLaw, Change, changed_by, Move, noticed, moved, MayMove, Law, cancel_by, acted_by}
use Rattle.lane_turn.specs.declared.layer.Asker.{Asker}
use Rattle.lane_turn.specs.declared.layer.Asker.TheVariants as askers

-- ---- lines

pub grows_none : (P : Line → Type 0) (xs : List Line) → Grows P xs xs
grows_none P xs = record { more = []; lines = sym (append-nil xs); each = tt }

pub grows_line : (P : Line → Type 0) (xs : List Line) (l : Line) → P l → Grows P xs (xs ++ l ∷ [])
grows_line P xs l p = record { more = l ∷ []; lines = refl; each = (p, tt) }

pub each_joined : {A : Type 0} (P : A → Type 0) (xs ys : List A) → AllByRecursion P xs → AllByRecursion P ys → AllByRecursion P (xs ++ ys)
each_joined P [] ys h g = g
each_joined P (x ∷ xs) ys h g = (h.0, each_joined P xs ys h.1 g)

pub each_as : {A : Type 0} (P Q : A → Type 0) → ((x : A) → P x → Q x) → (xs : List A) → AllByRecursion P xs → AllByRecursion Q xs
each_as P Q f [] h = tt
each_as P Q f (x ∷ xs) h = (f x h.0, each_as P Q f xs h.1)

pub grows_trans : (P : Line → Type 0) (xs ys zs : List Line) → Grows P xs ys → Grows P ys zs → Grows P xs zs
grows_trans P xs ys zs h g = record {
  more = h.more ++ g.more;
  lines = g.lines ∙ (ap (λ (l : List Line). l ++ g.more) h.lines ∙ append_assoc xs h.more g.more);
  each = each_joined P h.more g.more h.each g.each;
}

pub grows_as : (P Q : Line → Type 0) → ((l : Line) → P l → Q l) → (xs ys : List Line) → Grows P xs ys → Grows Q xs ys
grows_as P Q f xs ys h = record { more = h.more; lines = h.lines; each = each_as P Q f h.more h.each }

pub grows_same : (P : Line → Type 0) (xs ys : List Line) → ys ≡ xs → Grows P xs ys
grows_same P xs ys e = record { more = []; lines = e ∙ sym (append-nil xs); each = tt }

-- ---- what is done to a lane

-- lines that are so, and sources that stand as they stood
pub record Adds (P : Line → Type 0) (lane after : Lane) : Type 0 where
  pub lines : Grows P lane.trace after.trace
  pub rows : AllEdit lane.contexts after.contexts

pub same : (P : Line → Type 0) (lane after : Lane) → after.trace ≡ lane.trace → after.contexts ≡ lane.contexts → Adds P lane after
same P lane after t c = record { lines = grows_same P lane.trace after.trace t; rows = subst (AllEdit lane.contexts) (sym c) (all_same lane.contexts) }

pub line : (P : Line → Type 0) (lane : Lane) (tick : ℕ) (event : Event) → P (record { tick = tick; event = event }) → Adds P lane (written tick event lane)
line P lane tick event p = record { lines = grows_line P lane.trace (record { tick = tick; event = event }) p; rows = all_same lane.contexts }

pub change : (P : Line → Type 0) (lane : Lane) (context : ℕ) (f : Context → Context) → ((c : Context) → Edits c.rows (f c).rows) → Adds P lane (with_context context f lane)
change P lane context f e = record { lines = grows_none P lane.trace; rows = all_changed f e lane.contexts context }

pub edit : (P : Line → Type 0) (lane : Lane) (context : ℕ) (f : RowSet → RowSet) → ((s : RowSet) → Edits s (f s)) → Adds P lane (edited context f lane)
edit P lane context f e = change P lane context (with_rows f) (λ c. e c.rows)

pub trans : (P : Line → Type 0) (a b c : Lane) → Adds P a b → Adds P b c → Adds P a c
trans P a b c h g = record { lines = grows_trans P a.trace b.trace c.trace h.lines g.lines; rows = all_trans a.contexts b.contexts c.contexts h.rows g.rows }

pub adds_as : (P Q : Line → Type 0) → ((l : Line) → P l → Q l) → (a b : Lane) → Adds P a b → Adds Q a b
adds_as P Q f a b h = record { lines = grows_as P Q f a.trace b.trace h.lines; rows = h.rows }

pub either : (P : Line → Type 0) (lane x y : Lane) (b : Bool) → Adds P lane x → Adds P lane y → Adds P lane (cond b x y)
either P lane x y true p q = p
either P lane x y false p q = q

-- ---- handlers

-- a line of a tick that a delivery may bring
abbrev pub BroughtAt : ℕ → Line → Type 0
BroughtAt tick l = (l.tick ≡ tick) × IsBrought l.event

-- such lines, by no step
pub record Brings (tick : ℕ) (lane after : Lane) : Type 0 where
  pub adds : Adds (BroughtAt tick) lane after
  pub status : after.status ≡ lane.status
  pub frames : after.frames ≡ lane.frames

b_same : (tick : ℕ) (lane after : Lane) → after.trace ≡ lane.trace → after.contexts ≡ lane.contexts → after.status ≡ lane.status → after.frames ≡ lane.frames → Brings tick lane after
b_same tick lane after t c s f = record { adds = same (BroughtAt tick) lane after t c; status = s; frames = f }

pub b_line : (tick : ℕ) (lane : Lane) (event : Event) → IsBrought event → Brings tick lane (written tick event lane)
b_line tick lane event p = record { adds = line (BroughtAt tick) lane tick event (refl, p); status = refl; frames = refl }

pub b_edit : (tick : ℕ) (lane : Lane) (context : ℕ) (f : RowSet → RowSet) → ((s : RowSet) → Edits s (f s)) → Brings tick lane (edited context f lane)
b_edit tick lane context f e = record { adds = edit (BroughtAt tick) lane context f e; status = refl; frames = refl }

pub b_trans : (tick : ℕ) (a b c : Lane) → Brings tick a b → Brings tick b c → Brings tick a c
b_trans tick a b c h g = record { adds = trans (BroughtAt tick) a b c h.adds g.adds; status = g.status ∙ h.status; frames = g.frames ∙ h.frames }

pub b_either : (tick : ℕ) (lane x y : Lane) (b : Bool) → Brings tick lane x → Brings tick lane y → Brings tick lane (cond b x y)
b_either tick lane x y true p q = p
b_either tick lane x y false p q = q

pub b_none : (tick : ℕ) (lane : Lane) → Brings tick lane lane
b_none tick lane = b_same tick lane lane refl refl refl refl

brought_said : (event : Event) → IsSaid false event → IsBrought event
brought_said (events.Log n) h = tt
brought_said (events.Miss word) h = tt
brought_said (events.Handler id) h = tt
brought_said (events.Cancel c) h = tt
brought_said _ h = absurd h

b_each : (tick : ℕ) (move : PlainMove) (lane : Lane) → IsPlain false move lane → Brings tick lane (plainly tick move lane)
b_each tick (moves.Write event) lane m = b_line tick lane event (brought_said event m)
b_each tick (moves.Name slot thing) lane m = absurd m.0
b_each tick (moves.Stop number) lane m = b_same tick lane _ refl refl refl refl
b_each tick (moves.Destroy place) lane m = b_edit tick lane place.context (destroyed place.id) (edits_destroyed place.id)
b_each tick (moves.SetReady us place) lane m = b_edit tick lane place.context (ready_set place.id us) (edits_ready_set place.id us)

b_moves : (tick : ℕ) → PlainLaw false tick (Brings tick)
b_moves tick = record { none = b_none tick; next = b_trans tick; each = b_each tick }

pub b_cancel : (script : Plan) (tick c : ℕ) (lane : Lane) → Brings tick lane (cancel script tick c lane)
b_cancel script tick c lane =
    let seen : Lane = noticed tick c lane in
    cancel_by (b_moves tick) script (Brings tick lane) c lane (λ e. b_none tick lane) (λ after e h. b_trans tick lane seen after (b_same tick lane seen refl refl refl refl) h)

-- ---- actions

-- what is no line of a dispatch, and of a halt at a depth only over 32 calls
abbrev pub IsOther : ℕ → Event → Type 0
IsOther n (events.Dispatch context id priority depth) = ⊥
IsOther n events.HaltDepth = 32 ≤ n
IsOther n _ = Unit {0}

abbrev pub OtherAt : (tick n : ℕ) → Line → Type 0
OtherAt tick n l = (l.tick ≡ tick) × IsOther n l.event

brought_other : (n : ℕ) (event : Event) → IsBrought event → IsOther n event
brought_other n (events.Dispatch context id priority depth) h = absurd h
brought_other n events.HaltDepth h = absurd h
brought_other n _ h = tt

-- an action adds such lines
abbrev pub Acts : (tick n : ℕ) → Lane → Lane → Type 0
Acts tick n lane after = Adds (OtherAt tick n) lane after

pub of_brought : (tick n : ℕ) (lane after : Lane) → Brings tick lane after → Acts tick n lane after
of_brought tick n lane after h = adds_as (BroughtAt tick) (OtherAt tick n) (λ l p. (p.0, brought_other n l.event p.1)) lane after h.adds

a_same : (tick n : ℕ) (lane after : Lane) → after.trace ≡ lane.trace → after.contexts ≡ lane.contexts → Acts tick n lane after
a_same tick n lane after t c = same (OtherAt tick n) lane after t c

a_line : (tick n : ℕ) (lane : Lane) (event : Event) → IsOther n event → Acts tick n lane (written tick event lane)
a_line tick n lane event p = line (OtherAt tick n) lane tick event (refl, p)

a_either : (tick n : ℕ) (lane x y : Lane) (b : Bool) → Acts tick n lane x → Acts tick n lane y → Acts tick n lane (cond b x y)
a_either tick n lane x y b p q = either (OtherAt tick n) lane x y b p q

a_trans : (tick n : ℕ) (a b c : Lane) → Acts tick n a b → Acts tick n b c → Acts tick n a c
a_trans tick n a b c h g = trans (OtherAt tick n) a b c h g

a_edit : (tick n : ℕ) (lane : Lane) (context : ℕ) (f : RowSet → RowSet) → ((s : RowSet) → Edits s (f s)) → Acts tick n lane (edited context f lane)
a_edit tick n lane context f e = edit (OtherAt tick n) lane context f e

other_said : (n : ℕ) (event : Event) → IsSaid true event → IsOther n event
other_said n (events.Dispatch context id priority depth) h = absurd h
other_said n events.HaltDepth h = absurd h
other_said n _ h = tt

a_plain : (tick n : ℕ) (move : PlainMove) (lane : Lane) → IsPlain true move lane → Acts tick n lane (plainly tick move lane)
a_plain tick n (moves.Write event) lane m = a_line tick n lane event (other_said n event m)
a_plain tick n (moves.Destroy place) lane m = a_edit tick n lane place.context (destroyed place.id) (edits_destroyed place.id)
a_plain tick n (moves.SetReady us place) lane m = a_edit tick n lane place.context (ready_set place.id us) (edits_ready_set place.id us)
a_plain tick n _ lane m = a_same tick n lane _ refl refl

-- a change leaves what sources stood
pub edits_by : (it : Change) (c : Context) → Edits c.rows (changed_by it c).rows
edits_by (moves.Attach spec now) c = edits_attached spec now c.rows
edits_by (moves.Bear spec now id) c = edits_child spec now (row_with id c.rows.rows) c.rows
edits_by (moves.Reprioritise id priority) c = edits_reprioritised id priority c.rows
edits_by moves.Acquire c = edits_same c.rows
edits_by moves.Release c = edits_same c.rows

a_each : (script : Plan) (tick n : ℕ) (move : Move) (lane : Lane) → MayMove script move lane → n ≡ calls_in_progress lane.frames → Acts tick n lane (moved script tick move lane)
a_each script tick n (moves.Alter context it) lane m e = change (OtherAt tick n) lane context (changed_by it) (edits_by it)
a_each script tick n (moves.Call context proc acquires) lane m e =
    let told : Lane = written tick (events.Invoke context Direct) lane in
    a_trans tick n lane told _ (a_line tick n lane (events.Invoke context Direct) tt) (a_same tick n told _ refl refl)
a_each script tick n moves.Halt lane m e =
    let halted : Lane = written tick events.HaltDepth lane in
    a_trans tick n lane halted _ (a_line tick n lane events.HaltDepth (omega (arith, e, ltb-false (calls_in_progress lane.frames) 32 m))) (a_same tick n halted _ refl refl)
a_each script tick n _ lane m e = a_same tick n lane _ refl refl

a_moves : (script : Plan) (tick n : ℕ) → Law script tick (Acts tick n) (λ mail a b. n ≡ calls_in_progress a.frames → Acts tick n a b)
a_moves script tick n = record {
  plain = record { none = λ lane. a_same tick n lane lane refl refl; next = a_trans tick n; each = a_plain tick n };
  of = λ a b h e. h;
  next = λ mail a b c h g e. a_trans tick n a b c (h e) g;
  each = a_each script tick n;
}

pub adds_acted : (script : Plan) (tick n : ℕ) (action : Action) (lane : Lane) → n ≡ calls_in_progress lane.frames → Acts tick n lane (acted script tick action lane)
adds_acted script tick n action lane e = acted_by (a_moves script tick n) action lane e

-- ---- what ends

pub adds_returned : (script : Plan) (tick n : ℕ) (body : Body) (origin : Origin) (lane : Lane) → Acts tick n lane (returned script tick body origin lane)
adds_returned script tick n body Start lane =
    let told : Lane = written tick events.End lane in
    a_trans tick n lane told _ (a_line tick n lane events.End tt) (a_same tick n told _ refl refl)
adds_returned script tick n body (Invoked acquired) lane = a_same tick n lane lane refl refl
adds_returned script tick n body (Source caller) lane =
    a_either tick n lane _ _ (not caller.once && stays script body caller.number)
    (a_edit tick n lane caller.context (restarted (time_of script tick) caller.id) (edits_restarted (time_of script tick) caller.id))
    (a_edit tick n lane caller.context (destroyed caller.id) (edits_destroyed caller.id))

pub adds_answered : (tick n context : ℕ) (asker : Asker) (lane : Lane) → Acts tick n lane (answered tick context asker lane)
adds_answered tick n context askers.Loop lane = a_same tick n lane lane refl refl
adds_answered tick n context (askers.Iterate any) lane = a_line tick n lane (events.Iterate context any) tt
