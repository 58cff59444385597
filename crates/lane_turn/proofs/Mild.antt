-- What an action or dispatch that is counted may add to a lane at most: to its rows, its frames and its counters.
use Rattle.std.proofs.Common.{◌≡◌, ℕ, ℤ, zero, suc, ◌+◌, ◌≤◌, Bool, true, false, not, cond, Option, Some, None, List, [], ◌∷◌, map, length, slice_set, refl, ap, sym, ◌∙◌, arith, subst, ◌==◌, length-append, option_map}
use Rattle.std.specs.Prelude.{slice_get}
use Rattle.std.proofs.lemmas.List.{length-map}
use Rattle.std.proofs.lemmas.List.Sums.{length-filter, count_by-le-length}
use Rattle.std.specs.List.{AllByRecursion}
use Rattle.loop_script.specs.declared.plan.Plan.{Plan}
use Rattle.loop_script.specs.declared.source.SourceSpec.{SourceSpec}
use Rattle.source_rows.specs.declared.row.Row.{Row}
use Rattle.source_rows.specs.Row.{root_row, child_row}
use Rattle.source_rows.specs.Rows.{RowSet, attached, child_added, destroyed, counted, ready_set, reprioritised, moved, changed, has_id, is_under, row_of as row_with}
use Rattle.context_core.specs.declared.context.Context.{Context}
use Rattle.cancel_view.specs.Seen.{Seen, has, cancelled}
use Rattle.lane_turn.specs.declared.line.Event.{Event}
use Rattle.lane_turn.specs.Frames.{Frame, CallOf, IterOf, LoopOf, emptied, busy}
use Rattle.lane_turn.specs.Sources.{restarted, restarted_row, restarted_kind, due_after, own_ready_at, chosen_in}
use Rattle.loop_script.specs.declared.source.Kind.{Kind}
use Rattle.loop_script.specs.declared.source.Kind.TheVariants as kinds
use Rattle.lane_turn.specs.Lane.{Lane, present, context_at, with_rows, with_context, edited, iterating, written, chosen}
use Rattle.lane_turn.specs.Acted.{born, cancel}
use Rattle.lane_turn.specs.Turn.{nest_work, rows_in, row_count}
use Rattle.lane_turn.specs.Sound.{IsBounded, IsBoundedContext, Bounded, IsWithin}
use Rattle.lane_turn.proofs.Lists.{each-push, each-filter, each_weaker, length-selected}
use Rattle.lane_turn.proofs.Moves as moves
use Rattle.lane_turn.proofs.Moves.{PlainMove, plainly, PlainLaw, noticed, cancel_by}
use Rattle.lane_turn.specs.declared.layer.Asker.{Asker}

-- it adds a row, as many ids as there were rows and two frames, and 2 to each counter.
pub record Mild (lane after : Lane) : Type 0 where
  pub rows : row_count after.contexts ≤ row_count lane.contexts + 1
  pub frames : nest_work after.frames ≤ nest_work lane.frames + row_count lane.contexts + 2
  pub within : (m : ℕ) → IsWithin m lane → IsWithin (m + 2) after

-- a larger bound
bounded_weaker : (m n : ℕ) → m ≤ n → (o : Option Context) → Bounded m o → Bounded n o
bounded_weaker m n h None b = tt
bounded_weaker m n h (Some c) b =
    let s = b.sources in
    record { sources = record { id = omega (arith, s.id); order = omega (arith, s.order); counts = each_weaker _ _ (λ r k. omega arith) c.rows.rows s.counts }; acquires = omega (arith, b.acquires) }

pub each_bounded : (m n : ℕ) → m ≤ n → (contexts : List (Option Context)) → AllByRecursion (Bounded m) contexts → AllByRecursion (Bounded n) contexts
each_bounded m n h [] b = tt
each_bounded m n h (o ∷ contexts) b = (bounded_weaker m n h o b.0, each_bounded m n h contexts b.1)

pub within_weaker : (m n : ℕ) → m ≤ n → (lane : Lane) → IsWithin m lane → IsWithin n lane
within_weaker m n h lane w = record { contexts = each_bounded m n h lane.contexts w.contexts; frames = omega (arith, w.frames); handlers = omega (arith, w.handlers) }

-- what leaves contexts and frames alone, and connects at most two handlers
pub quiet : (lane after : Lane) → after.contexts ≡ lane.contexts → after.frames ≡ lane.frames → after.view.next_id ≤ lane.view.next_id + 2 → Mild lane after
quiet lane after c f v = record {
  rows = omega (arith, ap row_count c);
  frames = omega (arith, ap nest_work f);
  within = λ m w. record {
    contexts = subst (AllByRecursion (Bounded (m + 2))) (sym c) (each_bounded m (m + 2) (omega arith) lane.contexts w.contexts);
    frames = omega (arith, ap (λ (fs : List Frame). length fs) f, w.frames);
    handlers = omega (arith, v, w.handlers);
  };
}

pub mild_line : (lane : Lane) (tick : ℕ) (event : Event) → Mild lane (written tick event lane)
mild_line lane tick event = quiet lane (written tick event lane) refl refl (omega arith)

pub either : (lane x y : Lane) (b : Bool) → Mild lane x → Mild lane y → Mild lane (cond b x y)
either lane x y true p q = p
either lane x y false p q = q

-- what leaves the contexts alone and begins a frame
pub begins_frame : (lane after : Lane) → after.contexts ≡ lane.contexts → after.view ≡ lane.view → nest_work after.frames ≤ nest_work lane.frames + row_count lane.contexts + 2 → length after.frames ≤ length lane.frames + 1 → Mild lane after
begins_frame lane after c v f l = record {
  rows = omega (arith, ap row_count c);
  frames = f;
  within = λ m w. record {
    contexts = subst (AllByRecursion (Bounded (m + 2))) (sym c) (each_bounded m (m + 2) (omega arith) lane.contexts w.contexts);
    frames = omega (arith, w.frames);
    handlers = omega (arith, ap (λ (s : Seen). s.next_id) v, w.handlers);
  };
}

-- A change of one context: k more rows, and j more on each counter.
pub record MildChange (k j : ℕ) (change : Context → Context) : Type 0 where
  pub rows : (c : Context) → length (change c).rows.rows ≤ length c.rows.rows + k
  pub bounded : (m : ℕ) (c : Context) → IsBoundedContext m c → IsBoundedContext (m + j) (change c)

rows_mapped : (k j : ℕ) (change : Context → Context) → MildChange k j change → (o : Option Context) → rows_in (option_map change o) ≤ rows_in o + k
rows_mapped k j change e None = omega arith
rows_mapped k j change e (Some c) = e.rows c

bounded_mapped : (k j m : ℕ) (change : Context → Context) → MildChange k j change → (o : Option Context) → Bounded m o → Bounded (m + j) (option_map change o)
bounded_mapped k j m change e None b = tt
bounded_mapped k j m change e (Some c) b = e.bounded m c b

rows_changed : (k j : ℕ) (change : Context → Context) → MildChange k j change → (contexts : List (Option Context)) (i : ℕ) → row_count (slice_set contexts i (option_map change (present (slice_get contexts i)))) ≤ row_count contexts + k
rows_changed k j change e [] i = omega arith
rows_changed k j change e (o ∷ contexts) zero = omega (arith, rows_mapped k j change e o)
rows_changed k j change e (o ∷ contexts) (suc i) = omega (arith, rows_changed k j change e contexts i)

bounded_changed : (k j m : ℕ) (change : Context → Context) → MildChange k j change → (contexts : List (Option Context)) (i : ℕ) → AllByRecursion (Bounded m) contexts → AllByRecursion (Bounded (m + j)) (slice_set contexts i (option_map change (present (slice_get contexts i))))
bounded_changed k j m change e [] i b = tt
bounded_changed k j m change e (o ∷ contexts) zero b = (bounded_mapped k j m change e o b.0, each_bounded m (m + j) (omega arith) contexts b.1)
bounded_changed k j m change e (o ∷ contexts) (suc i) b = (bounded_weaker m (m + j) (omega arith) o b.0, bounded_changed k j m change e contexts i b.1)

-- An edit of one context's sources.
pub record MildEdit (k j : ℕ) (edit : RowSet → RowSet) : Type 0 where
  pub rows : (s : RowSet) → length (edit s).rows ≤ length s.rows + k
  pub bounded : (m : ℕ) (s : RowSet) → IsBounded m s → IsBounded (m + j) (edit s)

of_edit : (k j : ℕ) (edit : RowSet → RowSet) → MildEdit k j edit → MildChange k j (with_rows edit)
of_edit k j edit e = record { rows = λ c. e.rows c.rows; bounded = λ m c b. record { sources = e.bounded m c.rows b.sources; acquires = omega (arith, b.acquires) } }

pub rows_edited : (k j : ℕ) (edit : RowSet → RowSet) → MildEdit k j edit → (contexts : List (Option Context)) (i : ℕ) → row_count (slice_set contexts i (option_map (with_rows edit) (present (slice_get contexts i)))) ≤ row_count contexts + k
rows_edited k j edit e contexts i = rows_changed k j (with_rows edit) (of_edit k j edit e) contexts i

pub bounded_edited : (k j m : ℕ) (edit : RowSet → RowSet) → MildEdit k j edit → (contexts : List (Option Context)) (i : ℕ) → AllByRecursion (Bounded m) contexts → AllByRecursion (Bounded (m + j)) (slice_set contexts i (option_map (with_rows edit) (present (slice_get contexts i))))
bounded_edited k j m edit e contexts i b = bounded_changed k j m (with_rows edit) (of_edit k j edit e) contexts i b

-- the edits
pub mild_attached : (spec : SourceSpec) (now : ℕ) → MildEdit 1 2 (attached spec now)
mild_attached spec now = record {
  rows = λ s. omega (arith, length-append s.rows (root_row spec now s.next_id s.next_order ∷ []));
  bounded = λ m s b. record {
    id = omega (arith, b.id);
    order = omega (arith, b.order);
    counts = each-push _ s.rows _ (each_weaker _ _ (λ r k. omega arith) s.rows b.counts) (omega arith);
  };
}

born_rows : (spec : SourceSpec) (now : ℕ) (s : RowSet) (o : Option Row) → length (child_added spec now o s).rows ≤ length s.rows + 1
born_rows spec now s None = omega arith
born_rows spec now s (Some parent) = omega (arith, length-append s.rows (child_row parent spec now s.next_id s.next_order ∷ []))

born_bounded : (spec : SourceSpec) (now m : ℕ) (s : RowSet) (o : Option Row) → IsBounded m s → IsBounded (m + 2) (child_added spec now o s)
born_bounded spec now m s None b = record { id = omega (arith, b.id); order = omega (arith, b.order); counts = each_weaker _ _ (λ r k. omega arith) s.rows b.counts }
born_bounded spec now m s (Some parent) b = record {
  id = omega (arith, b.id);
  order = omega (arith, b.order);
  counts = each-push _ s.rows _ (each_weaker _ _ (λ r k. omega arith) s.rows b.counts) (omega arith);
}

pub mild_born : (spec : SourceSpec) (now id : ℕ) → MildEdit 1 2 (born spec now id)
mild_born spec now id = record {
  rows = λ s. born_rows spec now s (row_with id s.rows);
  bounded = λ m s b. born_bounded spec now m s (row_with id s.rows) b;
}

pub mild_destroyed : (id : ℕ) → MildEdit 0 0 (destroyed id)
mild_destroyed id = record {
  rows = λ s. let other : Row → Bool = λ r. not (is_under id r) in omega (arith, length-filter other s.rows, count_by-le-length other s.rows);
  bounded = λ m s b. record {
    id = omega (arith, b.id);
    order = omega (arith, b.order);
    counts = each-filter _ (λ r. not (is_under id r)) s.rows (each_weaker _ _ (λ r k. omega arith) s.rows b.counts);
  };
}

-- an edit of each row that raises its count by at most j
each_raised : (f : Row → Row) (j m : ℕ) → ((r : Row) → (f r).count ≤ r.count + j) → (rows : List Row) → AllByRecursion (λ r. r.count ≤ m) rows → AllByRecursion (λ r. r.count ≤ m + j) (map f rows)
each_raised f j m e [] h = tt
each_raised f j m e (r ∷ rows) h = (omega (arith, e r, h.0), each_raised f j m e rows h.1)

count_by : (f : Row → Row) (r : Row) (j : ℕ) (b : Bool) → (f r).count ≤ r.count + j → (cond b (f r) r).count ≤ r.count + j
count_by f r j true h = h
count_by f r j false h = omega arith

changed_rows : (id : ℕ) (f : Row → Row) (rows : List Row) → length (changed id f rows) ≡ length rows
changed_rows id f rows = simp length-map

each_changed : (id : ℕ) (f : Row → Row) (j m : ℕ) → ((r : Row) → (f r).count ≤ r.count + j) → (rows : List Row) → AllByRecursion (λ r. r.count ≤ m) rows → AllByRecursion (λ r. r.count ≤ m + j) (changed id f rows)
each_changed id f j m e rows h = each_raised (λ r. cond (has_id id r) (f r) r) j m (λ r. count_by f r j (has_id id r) (e r)) rows h

pub mild_counted : (id : ℕ) → MildEdit 0 1 (counted id)
mild_counted id = record {
  rows = λ s. omega (arith, changed_rows id (λ r. record r { count = r.count + 1 }) s.rows);
  bounded = λ m s b. record {
    id = omega (arith, b.id);
    order = omega (arith, b.order);
    counts = each_changed id (λ r. record r { count = r.count + 1 }) 1 m (λ r. omega arith) s.rows b.counts;
  };
}

pub mild_ready_set : (id : ℕ) (ready : ℤ) → MildEdit 0 0 (ready_set id ready)
mild_ready_set id ready = record {
  rows = λ s. omega (arith, changed_rows id (λ r. record r { ready = ready }) s.rows);
  bounded = λ m s b. record {
    id = omega (arith, b.id);
    order = omega (arith, b.order);
    counts = each_changed id (λ r. record r { ready = ready }) 0 m (λ r. omega arith) s.rows b.counts;
  };
}

moved_count : (id : ℕ) (priority : ℤ) (order : ℕ) (r : Row) (b : Bool) → (cond b (record r { priority = priority; order = cond (r.id == id) order r.order; path = slice_set r.path 0 order }) r).count ≤ r.count + 0
moved_count id priority order r true = omega arith
moved_count id priority order r false = omega arith

pub mild_reprioritised : (id : ℕ) (priority : ℤ) → MildEdit 0 1 (reprioritised id priority)
mild_reprioritised id priority = record {
  rows = λ s. let e : length (map (moved id priority s.next_order) s.rows) ≡ length s.rows = simp length-map in omega (arith, e);
  bounded = λ m s b. record {
    id = omega (arith, b.id);
    order = omega (arith, b.order);
    counts = each_weaker _ _ (λ r k. omega arith) (reprioritised id priority s).rows
        (each_raised (moved id priority s.next_order) 0 m (λ r. moved_count id priority s.next_order r (is_under id r)) s.rows b.counts);
  };
}

-- what leaves the sources as they are
mild_same : (s : RowSet) → length s.rows ≤ length s.rows + 0
mild_same s = omega arith

same_bounded : (m : ℕ) (s : RowSet) → IsBounded m s → IsBounded (m + 0) s
same_bounded m s b = record { id = omega (arith, b.id); order = omega (arith, b.order); counts = each_weaker _ _ (λ r k. omega arith) s.rows b.counts }

kind_rows : (now id : ℕ) (k : Kind) (s : RowSet) → length (restarted_kind now id k s).rows ≤ length s.rows + 0
kind_rows now id kinds.Idle s = mild_same s
kind_rows now id (kinds.Timeout ms) s = (mild_ready_set id (due_after ms now)).rows s
kind_rows now id (kinds.ReadyTime us) s = mild_same s
kind_rows now id (kinds.Fd fd bits) s = mild_same s
kind_rows now id (kinds.Cancel c) s = mild_same s

kind_bounded : (now id : ℕ) (k : Kind) (m : ℕ) (s : RowSet) → IsBounded m s → IsBounded (m + 0) (restarted_kind now id k s)
kind_bounded now id kinds.Idle m s b = same_bounded m s b
kind_bounded now id (kinds.Timeout ms) m s b = (mild_ready_set id (due_after ms now)).bounded m s b
kind_bounded now id (kinds.ReadyTime us) m s b = same_bounded m s b
kind_bounded now id (kinds.Fd fd bits) m s b = same_bounded m s b
kind_bounded now id (kinds.Cancel c) m s b = same_bounded m s b

restarted_rows : (now id : ℕ) (o : Option Row) (s : RowSet) → length (restarted_row now id o s).rows ≤ length s.rows + 0
restarted_rows now id None s = mild_same s
restarted_rows now id (Some r) s = kind_rows now id r.kind s

restarted_bounded : (now id : ℕ) (o : Option Row) (m : ℕ) (s : RowSet) → IsBounded m s → IsBounded (m + 0) (restarted_row now id o s)
restarted_bounded now id None m s b = same_bounded m s b
restarted_bounded now id (Some r) m s b = kind_bounded now id r.kind m s b

pub mild_restarted : (now id : ℕ) → MildEdit 0 0 (restarted now id)
mild_restarted now id = record {
  rows = λ s. restarted_rows now id (row_with id s.rows) s;
  bounded = λ m s b. restarted_bounded now id (row_with id s.rows) m s b;
}

-- what frames hold
emptied_by : (b : Bool) (ids : List ℕ) (n m : ℕ) → n ≤ m → 1 + length (cond b [] ids) + n ≤ 1 + length ids + m
emptied_by true ids n m h = omega arith
emptied_by false ids n m h = omega arith

pub work_emptied : (c : ℕ) (frames : List Frame) → nest_work (emptied c frames) ≤ nest_work frames
work_emptied c [] = omega arith
work_emptied c (CallOf call ∷ frames) = omega (arith, work_emptied c frames)
work_emptied c (IterOf d ids asker ∷ frames) = emptied_by (d == c) ids (nest_work (emptied c frames)) (nest_work frames) (work_emptied c frames)
work_emptied c (LoopOf number context ∷ frames) = omega (arith, work_emptied c frames)

pub length_emptied : (c : ℕ) (frames : List Frame) → length (emptied c frames) ≡ length frames
length_emptied c frames = simp length-map

rows_own : (contexts : List (Option Context)) (i : ℕ) → rows_in (present (slice_get contexts i)) ≤ row_count contexts
rows_own [] i = omega arith
rows_own (o ∷ contexts) zero = omega arith
rows_own (o ∷ contexts) (suc i) = omega (arith, rows_own contexts i)

chosen_rows : (script : Plan) (tick : ℕ) (view : Seen) (busy : List ℕ) (o : Option Context) → length (chosen_in script tick view busy o) ≤ rows_in o
chosen_rows script tick view busy None = omega arith
chosen_rows script tick view busy (Some c) = length-selected (own_ready_at script tick view) busy c.rows.rows

pub length-chosen : (script : Plan) (tick context : ℕ) (lane : Lane) → length (chosen script tick context lane) ≤ row_count lane.contexts
length-chosen script tick context lane = omega (arith, chosen_rows script tick lane.view (busy context lane.frames) (context_at context lane), rows_own lane.contexts context)

pub mild_iterating : (lane : Lane) (script : Plan) (tick context : ℕ) (asker : Asker) → Mild lane (iterating script tick context asker lane)
mild_iterating lane script tick context asker =
    begins_frame lane _ refl refl (omega (arith, work_emptied context lane.frames, length-chosen script tick context lane)) (omega (arith, length_emptied context lane.frames))

pub mild_change : (lane : Lane) (context : ℕ) (change : Context → Context) (k j : ℕ) → k ≤ 1 → j ≤ 2 → MildChange k j change → Mild lane (with_context context change lane)
mild_change lane context change k j a b e = record {
  rows = omega (arith, rows_changed k j change e lane.contexts context);
  frames = omega arith;
  within = λ m w. record {
    contexts = each_bounded (m + j) (m + 2) (omega arith) _ (bounded_changed k j m change e lane.contexts context w.contexts);
    frames = omega (arith, w.frames);
    handlers = omega (arith, w.handlers);
  };
}

pub mild_edit : (lane : Lane) (context : ℕ) (edit : RowSet → RowSet) (k j : ℕ) → k ≤ 1 → j ≤ 2 → MildEdit k j edit → Mild lane (edited context edit lane)
mild_edit lane context edit k j a b e = mild_change lane context (with_rows edit) k j a b (of_edit k j edit e)

-- What a handler does: it adds no row, leaves the frames, and raises no counter.
pub record Plain (lane after : Lane) : Type 0 where
  pub rows : row_count after.contexts ≤ row_count lane.contexts
  pub frames : after.frames ≡ lane.frames
  pub handlers : after.view.next_id ≡ lane.view.next_id
  pub bounded : (m : ℕ) → AllByRecursion (Bounded m) lane.contexts → AllByRecursion (Bounded m) after.contexts

plain_line : (lane after : Lane) → after.contexts ≡ lane.contexts → after.frames ≡ lane.frames → after.view.next_id ≡ lane.view.next_id → Plain lane after
plain_line lane after c f v = record { rows = omega (arith, ap row_count c); frames = f; handlers = v; bounded = λ m b. subst (AllByRecursion (Bounded m)) (sym c) b }

plain_trans : (a b c : Lane) → Plain a b → Plain b c → Plain a c
plain_trans a b c h k = record { rows = omega (arith, h.rows, k.rows); frames = k.frames ∙ h.frames; handlers = k.handlers ∙ h.handlers; bounded = λ m w. k.bounded m (h.bounded m w) }

plain_edit : (lane : Lane) (context : ℕ) (edit : RowSet → RowSet) → MildEdit 0 0 edit → Plain lane (edited context edit lane)
plain_edit lane context edit e = record {
  rows = omega (arith, rows_edited 0 0 edit e lane.contexts context);
  frames = refl;
  handlers = refl;
  bounded = λ m b. each_bounded (m + 0) m (omega arith) _ (bounded_edited 0 0 m edit e lane.contexts context b);
}

plain_each : (tick : ℕ) (move : PlainMove) (lane : Lane) → Plain lane (plainly tick move lane)
plain_each tick (moves.Destroy place) lane = plain_edit lane place.context (destroyed place.id) (mild_destroyed place.id)
plain_each tick (moves.SetReady us place) lane = plain_edit lane place.context (ready_set place.id us) (mild_ready_set place.id us)
plain_each tick _ lane = plain_line lane _ refl refl refl

pub plain_moves : (tick : ℕ) → PlainLaw true tick Plain
plain_moves tick = record { none = λ lane. plain_line lane lane refl refl refl; next = plain_trans; each = λ move lane m. plain_each tick move lane }

pub cancelled_id : (view : Seen) (c : ℕ) → (cancelled c view).next_id ≡ view.next_id
cancelled_id view c = id_by (has c view)
  where
    id_by : (b : Bool) → (cond b view (record view { members = slice_set view.members c true })).next_id ≡ view.next_id
    id_by true = refl
    id_by false = refl

pub plain_cancel : (script : Plan) (tick c : ℕ) (lane : Lane) → Plain lane (cancel script tick c lane)
plain_cancel script tick c lane =
    let seen : Lane = noticed tick c lane in
    cancel_by (plain_moves tick) script (Plain lane) c lane (λ e. plain_line lane lane refl refl refl) (λ after e h. plain_trans lane seen after (plain_line lane seen refl refl (cancelled_id lane.view c)) h)

pub mild_plain : (lane after : Lane) → Plain lane after → Mild lane after
mild_plain lane after h = record {
  rows = omega (arith, h.rows);
  frames = omega (arith, ap nest_work h.frames);
  within = λ m w. record {
    contexts = each_bounded m (m + 2) (omega arith) after.contexts (h.bounded m w.contexts);
    frames = omega (arith, ap (λ (fs : List Frame). length fs) h.frames, w.frames);
    handlers = omega (arith, h.handlers, w.handlers);
  };
}

pub mild_then : (a b c : Lane) → Mild a b → Plain b c → Mild a c
mild_then a b c h g = record {
  rows = omega (arith, h.rows, g.rows);
  frames = omega (arith, h.frames, ap nest_work g.frames);
  within = λ m w. let i = h.within m w in record {
    contexts = g.bounded (m + 2) i.contexts;
    frames = omega (arith, ap (λ (fs : List Frame). length fs) g.frames, i.frames);
    handlers = omega (arith, g.handlers, i.handlers);
  };
}
