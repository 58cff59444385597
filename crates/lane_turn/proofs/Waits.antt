-- What an iteration has left waits for no call in progress: an invariant of the lanes of a run.
use Rattle.std.proofs.Common.{◌≡◌, ◌≢◌, ℕ, zero, suc, ◌<◌, ◌≤◌, ◌==◌, ◌||◌, ◌&&◌, Bool, true, false, not, cond, Option, Some, None, List, [], ◌∷◌, inl, inr, map, filter, drop, reverse, refl, ap, sym, ◌∙◌, arith, subst}
use Rattle.std.specs.Prelude.{slice_get}
use Rattle.std.specs.List.{AllByRecursion, list_any, filter_map, cons_option}
use Rattle.source_rows.specs.declared.row.Row.{Row}
use Rattle.source_rows.specs.Rows.{RowSet, row_of as row_with, in_order}
use Rattle.source_rows.specs.Tree.{IdsRise}
use Rattle.source_rows.specs.Lists.{Pairs}
use Rattle.source_rows.proofs.Compared.{are_same, not_same}
use Rattle.source_rows.proofs.Lists.{all_of, all_map, all_passed, all_filter, pairs_map, pairs_filter, pairs_with, all_true}
use Rattle.source_rows.proofs.Order.{all_in_order, pairs_in_order}
use Rattle.source_rows.proofs.Forest.{all_found}
use Rattle.context_core.specs.declared.context.Context.{Context}
use Rattle.context_core.specs.Ready.{Own, is_ready, is_most_urgent, ready_rows, selected}
use Rattle.loop_script.specs.declared.plan.Plan.{Plan}
use Rattle.cancel_view.specs.Seen.{Seen}
use Rattle.lane_turn.specs.Frames.{Frame, CallOf, IterOf, LoopOf, blocked_by, blocked_in, busy}
use Rattle.lane_turn.specs.Lane.{Lane, present, chosen}
use Rattle.lane_turn.specs.Sources.{own_ready_at, chosen_in}
use Rattle.lane_turn.specs.Iterations.{IsRest, Later, EachLater, Begun, MayBegin, FramesGoOn}
use Rattle.lane_turn.proofs.Follows.{IsNumbered, Follows, FollowsIn, AllFollow}

-- ---- of an id that is left, the source is not blocked

abbrev pub is_in : ℕ → List ℕ → Bool
is_in id ids = list_any (λ i. i == id) ids

abbrev pub is_held : List ℕ → List ℕ → Bool
is_held blocked line = list_any (λ i. list_any (λ b. b == i) blocked) line

abbrev pub may_go : (ids blocked : List ℕ) → ℕ → List ℕ → Bool
may_go ids blocked id line = cond (is_in id ids) (not (is_held blocked line)) true

-- what is left of an iteration: no id twice, each that of a source that was given, and none of a source that is blocked
pub record Waits (ids blocked : List ℕ) (s : RowSet) : Type 0 where
  pub given : AllByRecursion (λ id. id < s.next_id) ids
  pub free : AllByRecursion (λ r. may_go ids blocked r.id r.lineage ≡ true) s.rows

abbrev pub WaitsIn : (ids blocked : List ℕ) → Option Context → Type 0
WaitsIn ids blocked None = Unit {0}
WaitsIn ids blocked (Some context) = Waits ids blocked context.rows

abbrev pub Differ : List ℕ → Type 0
Differ ids = Pairs (λ i j. i ≢ j) ids

abbrev pub AllWait : List (Option Context) → List Frame → Type 0
AllWait contexts [] = Unit {0}
AllWait contexts (CallOf call ∷ below) = AllWait contexts below
AllWait contexts (IterOf c ids asker ∷ below) = Differ ids × WaitsIn ids (busy c below) (present (slice_get contexts c)) × AllWait contexts below
AllWait contexts (LoopOf number c ∷ below) = AllWait contexts below

-- ---- an edit of the sources

not_in : (id : ℕ) (ids : List ℕ) (n : ℕ) → n ≤ id → AllByRecursion (λ i. i < n) ids → is_in id ids ≡ false
not_in id [] n l h = refl
not_in id (i ∷ ids) n l h =
    let apart : (i == id) ≡ false = not_same i id (λ e. absurd (omega (arith, e, l, h.0))) in
    ap (λ b. b || is_in id ids) apart ∙ not_in id ids n l h.1

new_may : (ids blocked line : List ℕ) (id n : ℕ) → n ≤ id → AllByRecursion (λ i. i < n) ids → may_go ids blocked id line ≡ true
new_may ids blocked line id n l h = ap (λ b. cond b (not (is_held blocked line)) true) (not_in id ids n l h)

waits_follow : (ids blocked : List ℕ) (s u : RowSet) → Follows s u → Waits ids blocked s → Waits ids blocked u
waits_follow ids blocked s u f h = record {
  given = all_of (λ id. id < s.next_id) (λ id. id < u.next_id) (λ id l. omega (arith, l, f.next)) ids h.given;
  free = f.kept (may_go ids blocked) (λ id line l. new_may ids blocked line id s.next_id l h.given) h.free;
}

waits_in : (ids blocked : List ℕ) (o p : Option Context) → FollowsIn o p → WaitsIn ids blocked o → WaitsIn ids blocked p
waits_in ids blocked None None f h = tt
waits_in ids blocked None (Some d) f h = absurd f
waits_in ids blocked (Some c) None f h = absurd f
waits_in ids blocked (Some c) (Some d) f h = waits_follow ids blocked c.rows d.rows f h

pub wait_on : (before now : List (Option Context)) → AllFollow before now → (fs : List Frame) → AllWait before fs → AllWait now fs
wait_on before now f [] h = tt
wait_on before now f (CallOf call ∷ below) h = wait_on before now f below h
wait_on before now f (IterOf c ids asker ∷ below) h = (h.0, waits_in ids (busy c below) (present (slice_get before c)) (present (slice_get now c)) (f c) h.1, wait_on before now f below h.2)
wait_on before now f (LoopOf number c ∷ below) h = wait_on before now f below h

-- ---- frames later on

blocked_later : (c : ℕ) (f g : Frame) → Later f g → blocked_in c g ≡ blocked_in c f
blocked_later c (CallOf call) (CallOf call') h = ap (blocked_by c) h.0
blocked_later c (IterOf d ids asker) (IterOf d' left asker') h = refl
blocked_later c (LoopOf number d) (LoopOf number' d') h = refl
blocked_later c (CallOf call) (IterOf d ids asker) h = absurd h
blocked_later c (CallOf call) (LoopOf number d) h = absurd h
blocked_later c (IterOf d ids asker) (CallOf call) h = absurd h
blocked_later c (IterOf d ids asker) (LoopOf number d') h = absurd h
blocked_later c (LoopOf number d) (CallOf call) h = absurd h
blocked_later c (LoopOf number d) (IterOf d' ids asker) h = absurd h

blocked_each : (c : ℕ) (fs gs : List Frame) → EachLater fs gs → filter_map (blocked_in c) gs ≡ filter_map (blocked_in c) fs
blocked_each c [] [] h = refl
blocked_each c [] (g ∷ gs) h = absurd h
blocked_each c (f ∷ fs) [] h = absurd h
blocked_each c (f ∷ fs) (g ∷ gs) h =
    ap (λ (o : Option ℕ). cons_option o (filter_map (blocked_in c) gs)) (blocked_later c f g h.0) ∙ ap (λ (xs : List ℕ). cons_option (blocked_in c f) xs) (blocked_each c fs gs h.1)

busy_each : (c : ℕ) (fs gs : List Frame) → EachLater fs gs → busy c gs ≡ busy c fs
busy_each c fs gs h = ap (λ (xs : List ℕ). reverse xs) (blocked_each c fs gs h)

in_more : (id i : ℕ) (ids : List ℕ) → is_in id ids ≡ true → is_in id (i ∷ ids) ≡ true
in_more id i ids e = by (i == id)
  where
    by : (b : Bool) → (b || is_in id ids) ≡ true
    by true = refl
    by false = e

fewer_may : (b c x : Bool) → (b ≡ true → c ≡ true) → cond c x true ≡ true → cond b x true ≡ true
fewer_may true true x f h = h
fewer_may true false x f h = let no : false ≡ true = f refl in cc
fewer_may false c x f h = refl

waits_fewer : (i : ℕ) (ids blocked : List ℕ) (s : RowSet) → Waits (i ∷ ids) blocked s → Waits ids blocked s
waits_fewer i ids blocked s h = record {
  given = h.given.1;
  free = all_of (λ (r : Row). may_go (i ∷ ids) blocked r.id r.lineage ≡ true) (λ (r : Row). may_go ids blocked r.id r.lineage ≡ true) (λ r e. fewer_may (is_in r.id ids) (is_in r.id (i ∷ ids)) (not (is_held blocked r.lineage)) (in_more r.id i ids) e) s.rows h.free;
}

waits_in_fewer : (i : ℕ) (ids blocked : List ℕ) (o : Option Context) → WaitsIn (i ∷ ids) blocked o → WaitsIn ids blocked o
waits_in_fewer i ids blocked None h = tt
waits_in_fewer i ids blocked (Some c) h = waits_fewer i ids blocked c.rows h

waits_rest : (k : ℕ) (ids blocked : List ℕ) (o : Option Context) → Differ ids → WaitsIn ids blocked o → Differ (drop k ids) × WaitsIn (drop k ids) blocked o
waits_rest zero ids blocked o d h = (d, h)
waits_rest (suc k) [] blocked o d h = (d, h)
waits_rest (suc k) (i ∷ ids) blocked o d h = waits_rest k ids blocked o d.1 (waits_in_fewer i ids blocked o h)

iter_later : (contexts : List (Option Context)) (c c' : ℕ) (ids left : List ℕ) (was is : List ℕ) → c ≡ c' → IsRest left ids → is ≡ was → Differ ids → WaitsIn ids was (present (slice_get contexts c)) → Differ left × WaitsIn left is (present (slice_get contexts c'))
iter_later contexts c c' ids left was is e r b d h =
    let k : ℕ = r.0 in
    let both = waits_rest k ids was (present (slice_get contexts c)) d h in
    subst (λ (n : ℕ). Differ left × WaitsIn left is (present (slice_get contexts n))) e
    (subst (λ (xs : List ℕ). Differ left × WaitsIn left xs (present (slice_get contexts c))) (sym b) (subst (λ (xs : List ℕ). Differ xs × WaitsIn xs was (present (slice_get contexts c))) (sym r.1) both))

busy_of : (c c' : ℕ) (fs gs : List Frame) → c ≡ c' → EachLater fs gs → busy c' gs ≡ busy c fs
busy_of c c' fs gs e h = ap (λ (n : ℕ). busy n gs) (sym e) ∙ busy_each c fs gs h

pub wait_later : (contexts : List (Option Context)) (fs gs : List Frame) → EachLater fs gs → AllWait contexts fs → AllWait contexts gs
wait_later contexts [] [] l h = tt
wait_later contexts [] (g ∷ gs) l h = absurd l
wait_later contexts (f ∷ fs) [] l h = absurd l
wait_later contexts (CallOf call ∷ fs) (CallOf call' ∷ gs) l h = wait_later contexts fs gs l.1 h
wait_later contexts (IterOf c ids asker ∷ fs) (IterOf c' left asker' ∷ gs) l h =
    let e = l.0 in
    let both = iter_later contexts c c' ids left (busy c fs) (busy c' gs) e.0 e.1 (busy_of c c' fs gs e.0 l.1) h.0 h.1 in
    (both.0, both.1, wait_later contexts fs gs l.1 h.2)
wait_later contexts (LoopOf number c ∷ fs) (LoopOf number' c' ∷ gs) l h = wait_later contexts fs gs l.1 h
wait_later contexts (CallOf call ∷ fs) (IterOf c ids asker ∷ gs) l h = absurd l.0
wait_later contexts (CallOf call ∷ fs) (LoopOf number c ∷ gs) l h = absurd l.0
wait_later contexts (IterOf c ids asker ∷ fs) (CallOf call ∷ gs) l h = absurd l.0
wait_later contexts (IterOf c ids asker ∷ fs) (LoopOf number c' ∷ gs) l h = absurd l.0
wait_later contexts (LoopOf number c ∷ fs) (CallOf call ∷ gs) l h = absurd l.0
wait_later contexts (LoopOf number c ∷ fs) (IterOf c' ids asker ∷ gs) l h = absurd l.0

wait_below : (contexts : List (Option Context)) (fs : List Frame) → AllWait contexts fs → AllWait contexts (drop 1 fs)
wait_below contexts [] h = tt
wait_below contexts (CallOf call ∷ below) h = h
wait_below contexts (IterOf c ids asker ∷ below) h = h.2
wait_below contexts (LoopOf number c ∷ below) h = h

-- ---- what is selected

-- a row that is found by its id, and is not blocked
abbrev IsFound : List Row → List ℕ → Row → Type 0
IsFound rows blocked q = (row_with q.id rows ≡ Some q) × (is_held blocked q.lineage ≡ false)

and_left : (a b : Bool) → (a && b) ≡ true → a ≡ true
and_left true b e = refl
and_left false b e = e

pub not_true : (a : Bool) → not a ≡ true → a ≡ false
not_true true e = let no : false ≡ true = e in cc
not_true false e = refl

row_same : (a b : Row) → Some a ≡ Some b → a ≡ b
row_same a b e = cc

free_if : (rows : List Row) (blocked : List ℕ) (q r : Row) (ids : List ℕ) (b : Bool) → (q.id == r.id) ≡ b → IsFound rows blocked q → row_with r.id rows ≡ Some r → may_go ids blocked r.id r.lineage ≡ true → cond (b || is_in r.id ids) (not (is_held blocked r.lineage)) true ≡ true
free_if rows blocked q r ids true e f g h =
    let same : q ≡ r = row_same q r (sym f.0 ∙ (ap (λ (n : ℕ). row_with n rows) (are_same q.id r.id e) ∙ g)) in
    ap not (ap (λ (x : Row). is_held blocked x.lineage) (sym same) ∙ f.1)
free_if rows blocked q r ids false e f g h = h

free_among : (rows : List Row) (blocked : List ℕ) (qs : List Row) → AllByRecursion (IsFound rows blocked) qs → (r : Row) → row_with r.id rows ≡ Some r → may_go (map (λ q. q.id) qs) blocked r.id r.lineage ≡ true
free_among rows blocked [] h r e = refl
free_among rows blocked (q ∷ qs) h r e = free_if rows blocked q r (map (λ q. q.id) qs) (q.id == r.id) refl h.0 e (free_among rows blocked qs h.1 r e)

found_ready : (own : Own) (blocked : List ℕ) (rows : List Row) → IdsRise rows → AllByRecursion (IsFound rows blocked) (in_order (filter (is_most_urgent (ready_rows own blocked rows)) (ready_rows own blocked rows)))
found_ready own blocked rows n =
    let ready = all_passed (λ (q : Row). row_with q.id rows ≡ Some q) (IsFound rows blocked) (is_ready own blocked rows) (λ q f e. (f, not_true (is_held blocked q.lineage) (and_left (not (is_held blocked q.lineage)) _ e))) rows (all_found rows n) in
    all_in_order (IsFound rows blocked) (filter (is_most_urgent (ready_rows own blocked rows)) (ready_rows own blocked rows)) (all_filter (IsFound rows blocked) (is_most_urgent (ready_rows own blocked rows)) (ready_rows own blocked rows) ready)

pub selected_differ : (own : Own) (blocked : List ℕ) (rows : List Row) → IdsRise rows → Differ (selected own blocked rows)
selected_differ own blocked rows n =
    let apart : Pairs (λ (r : Row) (q : Row). r.id ≢ q.id) rows = pairs_with (λ (r : Row) (q : Row). r.id < q.id) (λ (r : Row) (q : Row). r.id ≢ q.id) (λ (r : Row). Unit {0}) (λ r q a b l e. absurd (omega (arith, l, e))) rows (all_true (λ (r : Row). Unit {0}) (λ r. tt) rows) n in
    let ready = pairs_filter (λ (r : Row) (q : Row). r.id ≢ q.id) (is_ready own blocked rows) rows apart in
    let urgent = pairs_filter (λ (r : Row) (q : Row). r.id ≢ q.id) (is_most_urgent (ready_rows own blocked rows)) (ready_rows own blocked rows) ready in
    pairs_map (λ (r : Row) (q : Row). r.id ≢ q.id) (λ i j. i ≢ j) (λ r. r.id) (λ r q e. e) (in_order (filter (is_most_urgent (ready_rows own blocked rows)) (ready_rows own blocked rows)))
    (pairs_in_order (λ (r : Row) (q : Row). r.id ≢ q.id) (λ r q e k. e (sym k)) (filter (is_most_urgent (ready_rows own blocked rows)) (ready_rows own blocked rows)) urgent)

selected_given : (own : Own) (blocked : List ℕ) (s : RowSet) → AllByRecursion (λ r. r.id < s.next_id) s.rows → AllByRecursion (λ id. id < s.next_id) (selected own blocked s.rows)
selected_given own blocked s g =
    let P : Row → Type 0 = λ r. r.id < s.next_id in
    all_map P (λ id. id < s.next_id) (λ r. r.id) (λ r l. l) (in_order (filter (is_most_urgent (ready_rows own blocked s.rows)) (ready_rows own blocked s.rows)))
    (all_in_order P (filter (is_most_urgent (ready_rows own blocked s.rows)) (ready_rows own blocked s.rows)) (all_filter P (is_most_urgent (ready_rows own blocked s.rows)) (ready_rows own blocked s.rows) (all_filter P (is_ready own blocked s.rows) s.rows g)))

selected_waits : (own : Own) (blocked : List ℕ) (s : RowSet) → IsNumbered s → Waits (selected own blocked s.rows) blocked s
selected_waits own blocked s n = record {
  given = selected_given own blocked s n.given;
  free = all_of (λ (r : Row). row_with r.id s.rows ≡ Some r) (λ (r : Row). may_go (selected own blocked s.rows) blocked r.id r.lineage ≡ true) (λ r e. free_among s.rows blocked _ (found_ready own blocked s.rows n.rising) r e) s.rows (all_found s.rows n.rising);
}

abbrev pub NumberedIn : Option Context → Type 0
NumberedIn None = Unit {0}
NumberedIn (Some c) = IsNumbered c.rows

chosen_waits : (script : Plan) (tick : ℕ) (view : Seen) (blocked : List ℕ) (o : Option Context) → NumberedIn o → Differ (chosen_in script tick view blocked o) × WaitsIn (chosen_in script tick view blocked o) blocked o
chosen_waits script tick view blocked None n = (tt, tt)
chosen_waits script tick view blocked (Some c) n = (selected_differ (own_ready_at script tick view) blocked c.rows.rows n.rising, selected_waits (own_ready_at script tick view) blocked c.rows n)

-- ---- frames that go on

begun_wait : (script : Plan) (tick : ℕ) (lane : Lane) (f : Frame) (now : List Frame) → ((i : ℕ) → NumberedIn (present (slice_get lane.contexts i))) → EachLater lane.frames now → MayBegin (λ c. chosen script tick c lane) lane.frames now f → AllWait lane.contexts now → AllWait lane.contexts (f ∷ now)
begun_wait script tick lane (CallOf call) now n l b h = h
begun_wait script tick lane (IterOf c ids asker) now n l b h =
    let both = chosen_waits script tick lane.view (busy c lane.frames) (present (slice_get lane.contexts c)) (n c) in
    let same : busy c now ≡ busy c lane.frames = busy_each c lane.frames now l in
    let here : Differ ids × WaitsIn ids (busy c lane.frames) (present (slice_get lane.contexts c)) = subst (λ (xs : List ℕ). Differ xs × WaitsIn xs (busy c lane.frames) (present (slice_get lane.contexts c))) (sym b.1) both in
    (here.0, subst (λ (xs : List ℕ). WaitsIn ids xs (present (slice_get lane.contexts c))) (sym same) here.1, h)
begun_wait script tick lane (LoopOf number c) now n l b h = h

begins_wait : (script : Plan) (tick : ℕ) (lane : Lane) (now : List Frame) → ((i : ℕ) → NumberedIn (present (slice_get lane.contexts i))) → Begun (λ c. chosen script tick c lane) lane.frames now → AllWait lane.contexts lane.frames → AllWait lane.contexts now
begins_wait script tick lane [] n b h = absurd b
begins_wait script tick lane (f ∷ now) n b h = begun_wait script tick lane f now n b.0 b.1 (wait_later lane.contexts lane.frames now b.0 h)

pub frames_wait : (script : Plan) (tick : ℕ) (lane : Lane) (now : List Frame) → ((i : ℕ) → NumberedIn (present (slice_get lane.contexts i))) → FramesGoOn (λ c. chosen script tick c lane) lane.frames now → AllWait lane.contexts lane.frames → AllWait lane.contexts now
frames_wait script tick lane now n (inl l) h = wait_later lane.contexts lane.frames now l h
frames_wait script tick lane now n (inr (inl l)) h = wait_later lane.contexts (drop 1 lane.frames) now l (wait_below lane.contexts lane.frames h)
frames_wait script tick lane now n (inr (inr b)) h = begins_wait script tick lane now n b h
