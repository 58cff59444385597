-- What tells no result, leaves the replies that are held, and lowers no next id of as many contexts.
use Rattle.std.proofs.Common.{◌≡◌, ℕ, zero, suc, ◌+◌, ◌-◌, ◌<◌, ◌≤◌, Bool, true, false, cond, Option, Some, None, List, [], ◌∷◌, ◌++◌, slice_set, length, take, refl, ap, sym, ◌∙◌, arith, subst}
use Rattle.std.specs.Prelude.{is_some, not, ◌&&◌, slice_get, option_map, unwrap_or}
use Rattle.std.specs.List.{AllByRecursion}
use Rattle.std.proofs.lemmas.List.{length-set}
use Rattle.std.proofs.lemmas.List.Sums.{sum_by_push}
use Rattle.loop_script.specs.declared.plan.Plan.{Plan}
use Rattle.loop_script.specs.declared.source.SourceSpec.{SourceSpec}
use Rattle.loop_script.specs.declared.source.Kind.{Kind}
use Rattle.loop_script.specs.declared.source.Kind.TheVariants as kinds
use Rattle.loop_script.specs.declared.task.TaskSpec.{TaskSpec}
use Rattle.loop_script.specs.declared.action.Action.{Action}
use Rattle.loop_script.specs.declared.action.Action.TheVariants as actions
use Rattle.loop_script.specs.declared.body.Body.{Body}
use Rattle.loop_script.specs.Parts.{time_of, stays}
use Rattle.source_rows.specs.declared.row.Row.{Row}
use Rattle.source_rows.specs.Rows.{RowSet, child_added, destroyed, ready_set, row_of as row_with}
use Rattle.context_core.specs.declared.context.Context.{Context}
use Rattle.context_core.specs.Defaults.{pushed, popped, is_on_top}
use Rattle.lane_watch.specs.Tasks.{Started}
use Rattle.lane_turn.specs.declared.line.Line.{Line}
use Rattle.lane_turn.specs.declared.line.Event.{Event}
use Rattle.lane_turn.specs.declared.line.Event.TheVariants as events
use Rattle.lane_turn.specs.declared.line.Invoked.TheVariants.{Direct}
use Rattle.lane_turn.specs.declared.layer.Origin.{Origin}
use Rattle.lane_turn.specs.declared.layer.Origin.TheVariants.{Start, Source, Invoke as Invoked}
use Rattle.lane_turn.specs.Sources.{restarted, restarted_row, restarted_kind}
use Rattle.lane_turn.specs.Lane.{Lane, present, context_at, next_id, with_rows, with_context, edited, written, is_own}
use Rattle.lane_turn.specs.Owned.{default_context}
use Rattle.lane_turn.specs.Acted.{acted, start_task, cancel}
use Rattle.lane_turn.specs.Step.{returned, answered}
use Rattle.lane_turn.specs.Owed.{one_for}
use Rattle.lane_turn.specs.Taken.{is_result, results}
use Rattle.lane_turn.proofs.Lists.{each-push}
use Rattle.lane_turn.proofs.Moves as moves
use Rattle.lane_turn.proofs.Moves.{PlainMove, plainly, IsSaid, IsPlain, Change, changed_by, Move, moved, MayMove, Law, has_own, acted_by}
use Rattle.lane_turn.specs.declared.layer.Asker.{Asker}
use Rattle.lane_turn.specs.declared.layer.Asker.TheVariants as askers

-- no context's next id falls
abbrev pub Rises : (before after : List (Option Context)) → Type 0
Rises before after = (i : ℕ) → next_id (present (slice_get before i)) ≤ next_id (present (slice_get after i))

-- of m contexts are those that were pushed, and those to which tasks reply
abbrev pub ArePlaced : ℕ → List Started → Type 0
ArePlaced m tasks = AllByRecursion (λ t. t.ctx < m) tasks

pub record IsPlaced (m : ℕ) (lane : Lane) : Type 0 where
  pub all : length lane.contexts ≡ m
  pub defaults : AllByRecursion (λ c. c < m) lane.defaults
  pub tasks : ArePlaced m lane.tasks.started

pub record Leaves (s n : ℕ) (lane after : Lane) : Type 0 where
  pub told : results s n after.trace ≡ results s n lane.trace
  pub replies : after.replies ≡ lane.replies
  pub size : length after.contexts ≡ length lane.contexts
  pub rise : Rises lane.contexts after.contexts
  pub place : (m : ℕ) → 0 < m → IsPlaced m lane → IsPlaced m after

-- ---- lines

pub results_push : (s n tick : ℕ) (event : Event) (lines : List Line) → results s n (lines ++ (record { tick = tick; event = event }) ∷ []) ≡ results s n lines + one_for (is_result s n event)
results_push s n tick event lines = sum_by_push (λ (line : Line). cond (is_result s n line.event) 1 0) lines (record { tick = tick; event = event })

pub results_other : (s n tick : ℕ) (event : Event) (lines : List Line) → is_result s n event ≡ false → results s n (lines ++ (record { tick = tick; event = event }) ∷ []) ≡ results s n lines
results_other s n tick event lines e = results_push s n tick event lines ∙ (ap (λ b. results s n lines + one_for b) e ∙ omega arith)

-- ---- contexts

rises_changed : (f : Context → Context) → ((c : Context) → c.rows.next_id ≤ (f c).rows.next_id) → (contexts : List (Option Context)) (i j : ℕ) → next_id (present (slice_get contexts j)) ≤ next_id (present (slice_get (slice_set contexts i (option_map f (present (slice_get contexts i)))) j))
rises_changed f e [] i j = omega arith
rises_changed f e (None ∷ contexts) zero zero = omega arith
rises_changed f e (Some c ∷ contexts) zero zero = e c
rises_changed f e (o ∷ contexts) zero (suc j) = omega arith
rises_changed f e (o ∷ contexts) (suc i) zero = omega arith
rises_changed f e (o ∷ contexts) (suc i) (suc j) = rises_changed f e contexts i j

-- ---- forms

pub place_same : (m : ℕ) (lane after : Lane) → length after.contexts ≡ length lane.contexts → after.defaults ≡ lane.defaults → after.tasks.started ≡ lane.tasks.started → IsPlaced m lane → IsPlaced m after
place_same m lane after c d t p = record { all = c ∙ p.all; defaults = subst (AllByRecursion (λ c. c < m)) (sym d) p.defaults; tasks = subst (ArePlaced m) (sym t) p.tasks }

pub same : (s n : ℕ) (lane after : Lane) → after.trace ≡ lane.trace → after.replies ≡ lane.replies → after.contexts ≡ lane.contexts → after.defaults ≡ lane.defaults → after.tasks.started ≡ lane.tasks.started → Leaves s n lane after
same s n lane after t r c d ts = record {
  told = ap (results s n) t;
  replies = r;
  size = ap (λ (cs : List (Option Context)). length cs) c;
  rise = subst (Rises lane.contexts) (sym c) (λ i. omega arith);
  place = λ m z p. place_same m lane after (ap (λ (cs : List (Option Context)). length cs) c) d ts p;
}

pub line : (s n : ℕ) (lane : Lane) (tick : ℕ) (event : Event) → is_result s n event ≡ false → Leaves s n lane (written tick event lane)
line s n lane tick event e = record { told = results_other s n tick event lane.trace e; replies = refl; size = refl; rise = λ i. omega arith; place = λ m z p. place_same m lane (written tick event lane) refl refl refl p }

change : (s n : ℕ) (lane : Lane) (context : ℕ) (f : Context → Context) → ((c : Context) → c.rows.next_id ≤ (f c).rows.next_id) → Leaves s n lane (with_context context f lane)
change s n lane context f e = record {
  told = refl;
  replies = refl;
  size = same_size;
  rise = rises_changed f e lane.contexts context;
  place = λ m z p. place_same m lane (with_context context f lane) same_size refl refl p;
}
  where
    same_size : length (slice_set lane.contexts context (option_map f (context_at context lane))) ≡ length lane.contexts
    same_size = simp length-set

pub edit : (s n : ℕ) (lane : Lane) (context : ℕ) (f : RowSet → RowSet) → ((rows : RowSet) → rows.next_id ≤ (f rows).next_id) → Leaves s n lane (edited context f lane)
edit s n lane context f e = change s n lane context (with_rows f) (λ c. e c.rows)

pub leaves_trans : (s n : ℕ) (a b c : Lane) → Leaves s n a b → Leaves s n b c → Leaves s n a c
leaves_trans s n a b c h g = record { told = g.told ∙ h.told; replies = g.replies ∙ h.replies; size = g.size ∙ h.size; rise = λ i. omega (arith, h.rise i, g.rise i); place = λ m z p. g.place m z (h.place m z p) }

pub either : (s n : ℕ) (lane x y : Lane) (b : Bool) → Leaves s n lane x → Leaves s n lane y → Leaves s n lane (cond b x y)
either s n lane x y true p q = p
either s n lane x y false p q = q

-- ---- moves

said_none : (s n : ℕ) (event : Event) → IsSaid true event → is_result s n event ≡ false
said_none s n (events.Task lane task outcome) h = absurd h
said_none s n _ h = refl

leaves_plain : (s n tick : ℕ) (move : PlainMove) (lane : Lane) → IsPlain true move lane → Leaves s n lane (plainly tick move lane)
leaves_plain s n tick (moves.Write event) lane m = line s n lane tick event (said_none s n event m)
leaves_plain s n tick (moves.Destroy place) lane m = edit s n lane place.context (destroyed place.id) (λ rows. omega arith)
leaves_plain s n tick (moves.SetReady us place) lane m = edit s n lane place.context (ready_set place.id us) (λ rows. omega arith)
leaves_plain s n tick _ lane m = same s n lane _ refl refl refl refl refl

child_rises : (spec : SourceSpec) (now : ℕ) (o : Option Row) (rows : RowSet) → rows.next_id ≤ (child_added spec now o rows).next_id
child_rises spec now None rows = omega arith
child_rises spec now (Some parent) rows = omega arith

rises_by : (it : Change) (c : Context) → c.rows.next_id ≤ (changed_by it c).rows.next_id
rises_by (moves.Bear spec now id) c = child_rises spec now (row_with id c.rows.rows) c.rows
rises_by _ c = omega arith

pub own_within : (contexts : List (Option Context)) (c : ℕ) → is_some (present (slice_get contexts c)) ≡ true → c < length contexts
own_within [] c e = let no : false ≡ true = e in cc
own_within (o ∷ contexts) zero e = omega arith
own_within (o ∷ contexts) (suc c) e = omega (arith, own_within contexts c e)

each_front : {A : Type 0} (P : A → Type 0) (k : ℕ) (xs : List A) → AllByRecursion P xs → AllByRecursion P (take k xs)
each_front P zero [] h = tt
each_front P zero (x ∷ xs) h = tt
each_front P (suc k) [] h = tt
each_front P (suc k) (x ∷ xs) h = (h.0, each_front P k xs h.1)

leaves_push : (s n context : ℕ) (lane : Lane) → is_own context lane ≡ true → Leaves s n lane (record lane { defaults = pushed context lane.defaults })
leaves_push s n context lane e = record {
  told = refl;
  replies = refl;
  size = refl;
  rise = λ i. omega arith;
  place = λ m z p. record { all = p.all; defaults = each-push (λ c. c < m) lane.defaults context p.defaults (omega (arith, own_within lane.contexts context (has_own context lane e), p.all)); tasks = p.tasks };
}

leaves_popped : (s n context : ℕ) (lane : Lane) → Leaves s n lane (record lane { defaults = popped context lane.defaults })
leaves_popped s n context lane = record { told = refl; replies = refl; size = refl; rise = λ i. omega arith; place = λ m z p. record { all = p.all; defaults = by m (is_on_top context lane.defaults) p.defaults; tasks = p.tasks } }
  where
    by : (m : ℕ) (b : Bool) → AllByRecursion (λ c. c < m) lane.defaults → AllByRecursion (λ c. c < m) (cond b (take (length lane.defaults - 1) lane.defaults) lane.defaults)
    by m true h = each_front (λ c. c < m) (length lane.defaults - 1) lane.defaults h
    by m false h = h

-- the thread-default context is one that was pushed, or the first
at_place : (m : ℕ) (cs : List ℕ) (i : ℕ) → 0 < m → AllByRecursion (λ c. c < m) cs → unwrap_or (slice_get cs i) 0 < m
at_place m [] i z h = z
at_place m (c ∷ cs) zero z h = h.0
at_place m (c ∷ cs) (suc i) z h = at_place m cs i z h.1

leaves_task : (s n tick : ℕ) (spec : TaskSpec) (lane : Lane) → Leaves s n lane (start_task tick spec lane)
leaves_task s n tick spec lane = record {
  told = refl;
  replies = refl;
  size = refl;
  rise = λ i. omega arith;
  place = λ m z p. record {
    all = p.all;
    defaults = p.defaults;
    tasks = each-push (λ (t : Started). t.ctx < m) lane.tasks.started (record { number = lane.tasks.next; spec = spec; ctx = default_context lane; first = tick + 1 }) p.tasks (at_place m lane.defaults (length lane.defaults - 1) z p.defaults);
  };
}

leaves_each : (s n : ℕ) (script : Plan) (tick : ℕ) (move : Move) (lane : Lane) → MayMove script move lane → Leaves s n lane (moved script tick move lane)
leaves_each s n script tick (moves.Alter context it) lane m = change s n lane context (changed_by it) (rises_by it)
leaves_each s n script tick (moves.Call context proc acquires) lane m =
    let told : Lane = written tick (events.Invoke context Direct) lane in
    leaves_trans s n lane told _ (line s n lane tick (events.Invoke context Direct) refl) (same s n told _ refl refl refl refl refl)
leaves_each s n script tick moves.Halt lane m =
    let halted : Lane = written tick events.HaltDepth lane in
    leaves_trans s n lane halted _ (line s n lane tick events.HaltDepth refl) (same s n halted _ refl refl refl refl refl)
leaves_each s n script tick (moves.Start spec) lane m = leaves_task s n tick spec lane
leaves_each s n script tick (moves.Push context) lane m = leaves_push s n context lane m
leaves_each s n script tick (moves.Pop context) lane m = leaves_popped s n context lane
leaves_each s n script tick _ lane m = same s n lane _ refl refl refl refl refl

leaves_moves : (s n : ℕ) (script : Plan) (tick : ℕ) → Law script tick (Leaves s n) (λ mail. Leaves s n)
leaves_moves s n script tick = record {
  plain = record { none = λ lane. same s n lane lane refl refl refl refl refl; next = leaves_trans s n; each = leaves_plain s n tick };
  of = λ a b h. h;
  next = λ mail. leaves_trans s n;
  each = leaves_each s n script tick;
}

pub leaves_acted : (s n : ℕ) (script : Plan) (tick : ℕ) (action : Action) (lane : Lane) → Leaves s n lane (acted script tick action lane)
leaves_acted s n script tick action lane = acted_by (leaves_moves s n script tick) action lane

pub leaves_cancel : (s n : ℕ) (script : Plan) (tick c : ℕ) (lane : Lane) → Leaves s n lane (cancel script tick c lane)
leaves_cancel s n script tick c lane = leaves_acted s n script tick (actions.Cancel c) lane

-- ---- what ends

kind_rises : (now id : ℕ) (kind : Kind) (rows : RowSet) → rows.next_id ≤ (restarted_kind now id kind rows).next_id
kind_rises now id kinds.Idle rows = omega arith
kind_rises now id (kinds.Timeout ms) rows = omega arith
kind_rises now id (kinds.ReadyTime us) rows = omega arith
kind_rises now id (kinds.Fd fd bits) rows = omega arith
kind_rises now id (kinds.Cancel c) rows = omega arith

row_rises : (now id : ℕ) (o : Option Row) (rows : RowSet) → rows.next_id ≤ (restarted_row now id o rows).next_id
row_rises now id None rows = omega arith
row_rises now id (Some row) rows = kind_rises now id row.kind rows

pub leaves_returned : (s n : ℕ) (script : Plan) (tick : ℕ) (body : Body) (origin : Origin) (lane : Lane) → Leaves s n lane (returned script tick body origin lane)
leaves_returned s n script tick body Start lane =
    let told : Lane = written tick events.End lane in
    leaves_trans s n lane told _ (line s n lane tick events.End refl) (same s n told _ refl refl refl refl refl)
leaves_returned s n script tick body (Invoked acquired) lane = same s n lane lane refl refl refl refl refl
leaves_returned s n script tick body (Source caller) lane =
    let now : ℕ = time_of script tick in
    either s n lane _ _ (not caller.once && stays script body caller.number)
    (edit s n lane caller.context (restarted now caller.id) (λ rows. row_rises now caller.id (row_with caller.id rows.rows) rows))
    (edit s n lane caller.context (destroyed caller.id) (λ rows. omega arith))

pub leaves_answered : (s n tick context : ℕ) (asker : Asker) (lane : Lane) → Leaves s n lane (answered tick context asker lane)
leaves_answered s n tick context askers.Loop lane = same s n lane lane refl refl refl refl refl
leaves_answered s n tick context (askers.Iterate any) lane = line s n lane tick (events.Iterate context any) refl
