-- An edit of the sources of one context.
use Rattle.std.proofs.Common.{◌≡◌, ◌==◌, ◌||◌, ℕ, zero, suc, ◌<◌, Bool, true, false, not, cond, Option, Some, None, is_some, is_none, ℤ, List, [], ◌∷◌, length, filter, get_or, option_map, slice_set, refl, ap, sym, ◌∙◌, arith}
use Rattle.std.specs.List.{list_any}
use Rattle.cancel_view.specs.declared.handler.Handler.{Handler}
use Rattle.cancel_view.specs.Seen.{Seen, has_id, has_other_id, may_disconnect, without}
use Rattle.std.specs.Prelude.{slice_get}
use Rattle.loop_script.specs.declared.source.Kind.{Kind}
use Rattle.loop_script.specs.declared.source.Kind.TheVariants.{Timeout}
use Rattle.source_rows.specs.declared.row.Row.{Row}
use Rattle.source_rows.specs.declared.fault.RowsFault.{RowsFault}
use Rattle.source_rows.specs.Rows.{RowSet, row_of, ready_set, child_fault, priority_fault}
use Rattle.source_rows.proofs.Kept.{none_changed}
use Rattle.context_core.specs.declared.context.Context.{Context}
use Rattle.lane_turn.specs.Sources.{due_after, restarted, restarted_row, restarted_kind}
use Rattle.lane_turn.specs.declared.line.Word.TheVariants as words
use Rattle.lane_turn.specs.declared.slot.Place.{Place}
use Rattle.lane_turn.specs.Lane.{Lane, present, context_at, with_context, with_rows, edited, row_in, handler_at, viewing}
use Rattle.lane_watch.specs.Watch.{Watched}
use Rattle.lane_turn.specs.Acted.{missed, can_bear_in, disconnect, disconnect_of}

-- ---- a context that is lent

not_there : (o : Option Row) → is_some o ≡ false → o ≡ None
not_there None e = refl
not_there (Some r) e = let no : true ≡ false = e in cc

set_none : (xs : List (Option Context)) (i : ℕ) → None ≡ present (slice_get xs i) → xs ≡ slice_set xs i None
set_none [] i e = refl
set_none (x ∷ xs) zero e = ap (λ (o : Option Context). o ∷ xs) (sym e)
set_none (x ∷ xs) (suc i) e = ap (λ (l : List (Option Context)). x ∷ l) (set_none xs i e)

set_same : (xs : List (Option Context)) (i : ℕ) (c : Context) → Some c ≡ present (slice_get xs i) → slice_set xs i (Some c) ≡ xs
set_same [] i c e = refl
set_same (x ∷ xs) zero c e = ap (λ (o : Option Context). o ∷ xs) e
set_same (x ∷ xs) (suc i) c e = ap (λ (l : List (Option Context)). x ∷ l) (set_same xs i c e)

-- another lane's context is not changed
pub unchanged : (change : Context → Context) (context : ℕ) (lane : Lane) → None ≡ context_at context lane → lane ≡ with_context context change lane
unchanged change context lane e =
    ap (λ (l : List (Option Context)). record lane { contexts = l }) (set_none lane.contexts context e)
    ∙ ap (λ (o : Option Context). record lane { contexts = slice_set lane.contexts context (option_map change o) }) e

-- one that is given back changed
pub changed : (change : Context → Context) (context : ℕ) (lane : Lane) (c new : Context) → Some c ≡ context_at context lane → new ≡ change c
    → record lane { contexts = slice_set lane.contexts context (Some new) } ≡ with_context context change lane
changed change context lane c new e n =
    ap (λ (x : Context). record lane { contexts = slice_set lane.contexts context (Some x) }) n
    ∙ ap (λ (o : Option Context). record lane { contexts = slice_set lane.contexts context (option_map change o) }) e

-- one that is given back with its sources edited
pub edited_by : (edit : RowSet → RowSet) (context : ℕ) (lane : Lane) (c : Context) (now new : RowSet) → Some c ≡ context_at context lane → now ≡ c.rows → new ≡ edit now
    → record lane { contexts = slice_set lane.contexts context (Some (record c { rows = new })) } ≡ edited context edit lane
edited_by edit context lane c now new e k n = changed (with_rows edit) context lane c (record c { rows = new }) e (ap (λ (s : RowSet). record c { rows = s }) (n ∙ ap edit k))

-- one that is given back as it was
pub same : (context : ℕ) (lane : Lane) (c new : Context) → Some c ≡ context_at context lane → new ≡ c → record lane { contexts = slice_set lane.contexts context (Some new) } ≡ lane
same context lane c new e n =
    ap (λ (x : Context). record lane { contexts = slice_set lane.contexts context (Some x) }) n
    ∙ ap (λ (l : List (Option Context)). record lane { contexts = l }) (set_same lane.contexts context c e)

pub same_rows : (context : ℕ) (lane : Lane) (c : Context) (now new : RowSet) → Some c ≡ context_at context lane → now ≡ c.rows → new ≡ now
    → record lane { contexts = slice_set lane.contexts context (Some (record c { rows = new })) } ≡ lane
same_rows context lane c now new e k n = same context lane c (record c { rows = new }) e (ap (λ (s : RowSet). record c { rows = s }) (n ∙ k))

-- a source that is not there gets no ready time
pub none_set : (id : ℕ) (ready : ℤ) (s : RowSet) → is_some (row_of id s.rows) ≡ false → ready_set id ready s ≡ s
none_set id ready s e = ap (λ (rows : List Row). record s { rows = rows }) (none_changed id (λ r. record r { ready = ready }) s.rows (not_there (row_of id s.rows) e))

-- a source that can have no child, or gets no priority
pub bears_none : (place : Place) (lane : Lane) (c : Context) (now : RowSet) (e : RowsFault) → Some c ≡ context_at place.context lane → now ≡ c.rows → child_fault now.levels (row_of place.id now.rows) ≡ Some e → false ≡ can_bear_in place.id (context_at place.context lane)
bears_none place lane c now e h k f =
    ap is_none (sym f ∙ ap (λ (s : RowSet). child_fault s.levels (row_of place.id s.rows)) k) ∙ ap (can_bear_in place.id) h

pub moves_none : (place : Place) (lane : Lane) (c : Context) (now : RowSet) (e : RowsFault) → Some c ≡ context_at place.context lane → now ≡ c.rows → priority_fault (row_of place.id now.rows) ≡ Some e → false ≡ is_none (priority_fault (row_in place.id (context_at place.context lane)))
moves_none place lane c now e h k f =
    ap is_none (sym f ∙ ap (λ (s : RowSet). priority_fault (row_of place.id s.rows)) k) ∙ ap (λ (o : Option Context). is_none (priority_fault (row_in place.id o))) h

-- a timeout that begins anew
pub restarted_timeout : (now id ms : ℕ) (s : RowSet) (row : Row) → Some row ≡ row_of id s.rows → row.kind ≡ Timeout ms → ready_set id (due_after ms now) s ≡ restarted now id s
restarted_timeout now id ms s row e k =
    ap (λ (kind : Kind). restarted_kind now id kind s) (sym k) ∙ ap (λ (o : Option Row). restarted_row now id o s) e

-- an item that is there
pub get_some : (xs : List (Option Context)) (i : ℕ) (x : Option Context) → i < length xs → x ≡ get_or xs i x → slice_get xs i ≡ Some x
get_some [] i x h e = absurd (omega arith)
get_some (y ∷ xs) zero x h e = ap (λ (z : Option Context). Some z) (sym e)
get_some (y ∷ xs) (suc i) x h e = get_some xs i x (omega arith) e

-- ---- a handler that is not there

other_by : (id : ℕ) (x : Handler) (hs : List Handler) (b : Bool) → (list_any (has_id id) hs ≡ false → filter (has_other_id id) hs ≡ hs) → (b || list_any (has_id id) hs) ≡ false → cond (not b) (x ∷ filter (has_other_id id) hs) (filter (has_other_id id) hs) ≡ x ∷ hs
other_by id x hs true ih k = let no : true ≡ false = k in cc
other_by id x hs false ih k = ap (λ (l : List Handler). x ∷ l) (ih k)

each_other : (id : ℕ) (hs : List Handler) → list_any (has_id id) hs ≡ false → filter (has_other_id id) hs ≡ hs
each_other id [] h = refl
each_other id (x ∷ hs) h = other_by id x hs (x.id == id) (each_other id hs) h

pub without_none : (id : ℕ) (view : Seen) → may_disconnect id view ≡ false → without id view ≡ view
without_none id view h = none_by (id == 0) h
  where
    none_by : (b : Bool) → (b || list_any (has_id id) view.handlers) ≡ false → cond b view (record view { handlers = filter (has_other_id id) view.handlers }) ≡ view
    none_by true k = refl
    none_by false k = ap (λ (l : List Handler). record view { handlers = l }) (each_other id view.handlers k)

pub missed_else : (tick slot id : ℕ) (lane : Lane) (watch : Watched) → Some id ≡ handler_at slot lane → may_disconnect id lane.view ≡ false → watch ≡ (record { view = lane.view; tasks = lane.tasks })
    → missed tick words.Disconnect (record lane { view = watch.view; tasks = watch.tasks }) ≡ disconnect tick slot lane
missed_else tick slot id lane watch e none v =
    ap (λ (w : Watched). missed tick words.Disconnect (record lane { view = w.view; tasks = w.tasks })) v
    ∙ (ap (λ (b : Bool). cond b (viewing (without id lane.view) lane) (missed tick words.Disconnect lane)) (sym none)
    ∙ ap (λ (o : Option ℕ). disconnect_of tick o lane) e)
