-- In a run each dispatch begins a call that knows which dispatch of its source it is.
use Rattle.std.proofs.Common.{◌≡◌, ◌≢◌, ◌⊎◌, inl, inr, ℕ, zero, suc, ◌+◌, ◌<◌, ◌≤◌, ◌==◌, ◌&&◌, Bool, true, false, cond, Option, Some, None, List, [], ◌∷◌, ◌++◌, map, length, get_or, slice_set, option_map, refl, ap, sym, ◌∙◌, subst, arith, sum_by, eqb-true}
use Rattle.std.specs.Prelude.{slice_get, slice_index_or, is_some}
use Rattle.std.specs.List.{AllByRecursion, range_with_len}
use Rattle.std.proofs.lemmas.Bool.{eq-eqb, ne_eqb}
use Rattle.std.proofs.lemmas.Bool.Decides.{eqb_tells}
use Rattle.std.proofs.lemmas.List.{length-map}
use Rattle.std.proofs.lemmas.List.Sums.{sum_by-cons}
use Rattle.source_rows.specs.declared.row.Row.{Row}
use Rattle.source_rows.specs.Rows.{RowSet}
use Rattle.source_rows.proofs.Lists.{all_of}
use Rattle.lane_turn.specs.declared.line.Line.{Line}
use Rattle.loop_script.specs.declared.plan.Plan.{Plan}
use Rattle.loop_script.specs.Parts.{home_of}
use Rattle.loop_script.specs.References.{sizes}
use Rattle.context_core.specs.declared.context.Context.{Context}
use Rattle.post_office.specs.declared.letter.Letter.{Letter}
use Rattle.lane_turn.specs.declared.line.Event.{Event}
use Rattle.lane_turn.specs.declared.line.Event.TheVariants as events
use Rattle.lane_turn.specs.Replies.{reply_held}
use Rattle.lane_turn.specs.Frames.{advanced}
use Rattle.lane_turn.specs.Sources.{no_sources}
use Rattle.lane_turn.specs.Lane.{Lane, Kept, Turn, present, context_at, is_given, row_in, row_of}
use Rattle.lane_turn.specs.Handover.{Handing, kept_of, handed_of, all_handed, handings, handed_over}
use Rattle.lane_turn.specs.Holding.{holder_at}
use Rattle.lane_turn.specs.Step.{step, body_of}
use Rattle.lane_turn.specs.Turn.{opening, begun, turned, open_context, open_contexts_to}
use Rattle.lane_turn.specs.Deliver.{received_all}
use Rattle.lane_turn.specs.Tick.{posted_at, opened, lanes_at}
use Rattle.lane_turn.specs.Traces.{Grows}
use Rattle.lane_turn.specs.Blocked.{turn_within}
use Rattle.lane_turn.specs.Stays.{is_dispatch_of, dispatches, Calls, IsBegun, Begins, lines_but}
use Rattle.lane_turn.proofs.Adds.{OtherAt, grows_as, grows_line, of_brought}
use Rattle.lane_turn.proofs.Counted.{CountedIn, Counted, dispatches_joined, same_others, count_of}
use Rattle.lane_turn.proofs.Added.{IsDispatched, TellsNext, Told, does}
use Rattle.lane_turn.proofs.Traced.{brings_all}
use Rattle.lane_turn.proofs.Counts.{EditsIn}
use Rattle.lane_turn.proofs.Leaves.{own_within}
use Rattle.lane_turn.proofs.Sends.{step_tells}
use Rattle.lane_turn.proofs.Arrivals.{own_held, held_turned}
use Rattle.lane_turn.proofs.Whole.{whole}
use Rattle.lane_turn.proofs.GoingOver.{going_over, handed_part}
use Rattle.lane_turn.proofs.Places.{Counted as InPlaces, counted_step, number_at, each_at}
use Rattle.lane_turn.proofs.Holds.{Stands, AreHeld, held_at_tick, all_from, mapped}
use Rattle.lane_turn.proofs.Freed.{Sits, sits_step, rests_run, Rests}
use Rattle.lane_turn.proofs.Turns.{kept_finish, kept_finished, turned_number}

-- ---- the invariant, by how often each source was dispatched

-- the sources of a context were dispatched as often as f says, and none of those that are not there yet
pub record AreCounted (f : ℕ → ℕ) (s : RowSet) : Type 0 where
  pub rows : AllByRecursion (λ r. (r.count == f r.id) ≡ true) s.rows
  pub new : (id : ℕ) → s.next_id ≤ id → f id ≡ 0

abbrev AreCountedIn : (ℕ → ℕ) → Option Context → Type 0
AreCountedIn f None = Unit {0}
AreCountedIn f (Some c) = AreCounted f c.rows

by_lines : (i : ℕ) (lines : List Line) (f : ℕ → ℕ) (o : Option Context) → ((id : ℕ) → f id ≡ dispatches i id lines) → AreCountedIn f o → CountedIn i lines o
by_lines i lines f None e h = tt
by_lines i lines f (Some c) e h = record {
  rows = all_of (λ (r : Row). (r.count == f r.id) ≡ true) (λ (r : Row). (r.count == dispatches i r.id lines) ≡ true) (λ r k. ap (λ (n : ℕ). r.count == n) (sym (e r.id)) ∙ k) c.rows.rows h.rows;
  new = λ id l. sym (e id) ∙ h.new id l;
}

by_count : (i : ℕ) (lines : List Line) (f : ℕ → ℕ) (o : Option Context) → ((id : ℕ) → f id ≡ dispatches i id lines) → CountedIn i lines o → AreCountedIn f o
by_count i lines f None e h = tt
by_count i lines f (Some c) e h = record {
  rows = all_of (λ (r : Row). (r.count == dispatches i r.id lines) ≡ true) (λ (r : Row). (r.count == f r.id) ≡ true) (λ r k. ap (λ (n : ℕ). r.count == n) (e r.id) ∙ k) c.rows.rows h.rows;
  new = λ id l. e id ∙ h.new id l;
}

edited_in : (f g : ℕ → ℕ) (o p : Option Context) → EditsIn o p → ((id : ℕ) → g id ≡ f id) → AreCountedIn f o → AreCountedIn g p
edited_in f g None None e same h = tt
edited_in f g None (Some d) e same h = absurd e
edited_in f g (Some c) None e same h = absurd e
edited_in f g (Some c) (Some d) e same h = record {
  rows = e.counts (λ id n. n == g id) (λ id l. zero_is (g id) (same id ∙ h.new id l)) (all_of (λ (r : Row). (r.count == f r.id) ≡ true) (λ (r : Row). (r.count == g r.id) ≡ true) (λ r k. ap (λ (n : ℕ). r.count == n) (same r.id) ∙ k) c.rows.rows h.rows);
  new = λ id l. same id ∙ h.new id (omega (arith, l, (e.follows).next));
}
  where
    zero_is : (n : ℕ) → n ≡ 0 → (0 == n) ≡ true
    zero_is n z = eq-eqb 0 n (sym z)

-- of all lanes, how often a source was dispatched
abbrev told_in_all : List Lane → (c i : ℕ) → ℕ
told_in_all lanes c i = sum_by (λ (lane : Lane). dispatches c i lane.trace) lanes

-- the contexts of a lane, by such counts
abbrev Counts : (ℕ → ℕ → ℕ) → Lane → Type 0
Counts f lane = (c : ℕ) → AreCountedIn (f c) (present (slice_get lane.contexts c))

-- ---- the lines of one lane and of the others are those of all

but_none : (n a c i : ℕ) (lanes : List Lane) → InPlaces a lanes → n < a → dispatches c i (lines_but n lanes) ≡ told_in_all lanes c i
but_none n a c i [] k l = refl
but_none n a c i (lane ∷ lanes) k l =
    let other : (lane.number == n) ≡ false = ne_eqb lane.number n (λ e. absurd (omega (arith, e, k.0, l))) in
    ap (λ b. dispatches c i (cond b [] lane.trace ++ lines_but n lanes)) other
    ∙ omega (arith, dispatches_joined c i lane.trace (lines_but n lanes), sum_by-cons (λ (l : Lane). dispatches c i l.trace) lane lanes, but_none n (a + 1) c i lanes k.1 (omega (arith, l)))

but_one : (n a i : ℕ) (c id : ℕ) (lanes : List Lane) (d : Lane) → InPlaces a lanes → n ≡ a + i → i < length lanes → dispatches c id (lines_but n lanes) + dispatches c id (get_or lanes i d).trace ≡ told_in_all lanes c id
but_one n a i c id [] d k e l = absurd (omega (arith, l))
but_one n a zero c id (lane ∷ lanes) d k e l =
    let here : (lane.number == n) ≡ true = eq-eqb lane.number n (omega (arith, k.0, e)) in
    let same : dispatches c id (lines_but n (lane ∷ lanes)) ≡ dispatches c id (lines_but n lanes) = ap (λ b. dispatches c id (cond b [] lane.trace ++ lines_but n lanes)) here in
    omega (arith, same, sum_by-cons (λ (l : Lane). dispatches c id l.trace) lane lanes, but_none n (a + 1) c id lanes k.1 (omega (arith, e)))
but_one n a (suc i) c id (lane ∷ lanes) d k e l =
    let other : (lane.number == n) ≡ false = ne_eqb lane.number n (λ q. absurd (omega (arith, q, k.0, e))) in
    let same : dispatches c id (lines_but n (lane ∷ lanes)) ≡ dispatches c id (lane.trace ++ lines_but n lanes) = ap (λ b. dispatches c id (cond b [] lane.trace ++ lines_but n lanes)) other in
    omega (arith, same, dispatches_joined c id lane.trace (lines_but n lanes), sum_by-cons (λ (l : Lane). dispatches c id l.trace) lane lanes, but_one n (a + 1) i c id lanes d k.1 (omega (arith, e)) (omega (arith, l)))

-- ---- a turn

some_row : (id : ℕ) (o : Option Context) (row : Row) → row_in id o ≡ Some row → is_some o ≡ true
some_row id None row e = let no : false ≡ true = ap (λ (x : Option Row). is_some x) e in cc
some_row id (Some c) row e = refl

untold_one : (c id : ℕ) (lane after : Lane) (event : Event) → is_some (context_at c lane) ≡ false → TellsNext lane after event → is_dispatch_of c id event ≡ false
untold_one c id lane after (events.Dispatch context i priority depth) q t = by (eqb_tells context c)
  where
    by : ((context == c) ≡ true × context ≡ c) ⊎ ((context == c) ≡ false × context ≢ c) → ((context == c) && (i == id)) ≡ false
    by (inl p) = let no : false ≡ true = sym q ∙ (ap (λ (n : ℕ). is_some (context_at n lane)) (sym p.1) ∙ some_row (t.row).id (context_at context lane) t.row (t.next).there) in cc
    by (inr p) = ap (λ b. b && (i == id)) p.0
untold_one c id lane after _ q t = refl

-- a lane that has not a context dispatches none of its sources
untold : (c id tick : ℕ) (lane after : Lane) (ls : List Line) → is_some (context_at c lane) ≡ false → AllByRecursion (Told tick lane after) ls → dispatches c id ls ≡ 0
untold c id tick lane after [] q h = refl
untold c id tick lane after (l ∷ ls) q h =
    sum_by-cons (λ (l : Line). cond (is_dispatch_of c id l.event) 1 0) l ls ∙ (ap (λ b. cond b 1 0 + dispatches c id ls) (untold_one c id lane after l.event q (h.0).3) ∙ omega (arith, untold c id tick lane after ls q h.1))

abbrev IsWithout : (c id : ℕ) → Lane → Turn → Type 0
IsWithout c id lane t = (is_some (context_at c t.lane) ≡ false) × (dispatches c id t.lane.trace ≡ dispatches c id lane.trace)

without_step : (script : Plan) (tick c id : ℕ) (lane : Lane) (t u : Turn) → step script tick t ≡ Some u → IsWithout c id lane t → IsWithout c id lane u
without_step script tick c id lane t u e q =
    let s = step_tells script tick t u e in
    let g = (does script tick t u e).lines in (
      own_held u.lane.contexts c ∙ (ap (λ bs. slice_index_or bs c false) s.holds ∙ (sym (own_held t.lane.contexts c) ∙ q.0)),
      ap (dispatches c id) g.lines ∙ omega (arith, dispatches_joined c id t.lane.trace g.more, untold c id tick t.lane u.lane g.more q.0 g.each, q.1),
    )

quiet_of : (script : Plan) (tick c id : ℕ) (lane : Lane) → is_some (context_at c lane) ≡ false → dispatches c id (turned script tick lane).trace ≡ dispatches c id lane.trace
quiet_of script tick c id lane none = (kept_finished script tick (IsWithout c id lane) (λ t u e q. without_step script tick c id lane t u e q) (begun tick lane) (none, refl)).1

-- so of the others' lines of a context that a lane has, a tick's turns leave as many
quiet_but : (script : Plan) (tick c id n : ℕ) (h : ℕ → ℕ) (lanes : List Lane) → AllByRecursion (Stands script h) lanes → c < (sizes script).contexts → n ≡ h c → dispatches c id (lines_but n (map (turned script tick) lanes)) ≡ dispatches c id (lines_but n lanes)
quiet_but script tick c id n h [] s k e = refl
quiet_but script tick c id n h (lane ∷ lanes) s k e = by (lane.number == n) refl (quiet_but script tick c id n h lanes s.1 k e)
  where
    mine : (b : Bool) → (turned script tick lane).number ≡ lane.number → (lane.number == n) ≡ b → ((turned script tick lane).number == n) ≡ b
    mine b q r = ap (λ (x : ℕ). x == n) q ∙ r

    by : (b : Bool) → (lane.number == n) ≡ b → dispatches c id (lines_but n (map (turned script tick) lanes)) ≡ dispatches c id (lines_but n lanes)
        → dispatches c id (lines_but n (turned script tick lane ∷ map (turned script tick) lanes)) ≡ dispatches c id (lines_but n (lane ∷ lanes))
    by true q r =
        ap (λ b. dispatches c id (cond b [] (turned script tick lane).trace ++ lines_but n (map (turned script tick) lanes))) (mine true (turned_number script tick lane) q)
        ∙ (r ∙ sym (ap (λ b. dispatches c id (cond b [] lane.trace ++ lines_but n lanes)) q))
    by false q r =
        let none : is_some (context_at c lane) ≡ false = ((s.0).fits).has c k ∙ (ap (λ (x : ℕ). lane.number == x) (sym e) ∙ q) in
        let now : dispatches c id (lines_but n (turned script tick lane ∷ map (turned script tick) lanes)) ≡ dispatches c id ((turned script tick lane).trace ++ lines_but n (map (turned script tick) lanes)) =
        ap (λ b. dispatches c id (cond b [] (turned script tick lane).trace ++ lines_but n (map (turned script tick) lanes))) (mine false (turned_number script tick lane) q) in
        let was : dispatches c id (lines_but n (lane ∷ lanes)) ≡ dispatches c id (lane.trace ++ lines_but n lanes) = ap (λ b. dispatches c id (cond b [] lane.trace ++ lines_but n lanes)) q in
        omega (arith, now, was, dispatches_joined c id (turned script tick lane).trace (lines_but n (map (turned script tick) lanes)), dispatches_joined c id lane.trace (lines_but n lanes), quiet_of script tick c id lane none, r)

-- a lane's turn, behind the lines of the others
record Behind (front : List Line) (lane : Lane) : Type 0 where
  sits : Sits lane
  counted : Counted front lane

behind_step : (script : Plan) (tick : ℕ) (front : List Line) (t u : Turn) → step script tick t ≡ Some u → Behind front t.lane → Behind front u.lane
behind_step script tick front t u e b = record { sits = sits_step script tick t u e b.sits; counted = (does script tick t u e).counted front (b.sits).numbered b.counted }

behind_within : (script : Plan) (tick steps : ℕ) (front : List Line) (lane : Lane) → Behind front lane → Behind front (turn_within script tick steps lane).lane
behind_within script tick steps front lane b =
    kept_finish script tick steps (λ t. Behind front t.lane) (behind_step script tick front) (begun tick lane) (record { sits = record { numbered = (b.sits).numbered; waits = (b.sits).waits }; counted = b.counted })

behind_turned : (script : Plan) (tick : ℕ) (front : List Line) (lane : Lane) → Behind front lane → Behind front (turned script tick lane)
behind_turned script tick front lane b =
    kept_finished script tick (λ t. Behind front t.lane) (behind_step script tick front) (begun tick lane) (record { sits = record { numbered = (b.sits).numbered; waits = (b.sits).waits }; counted = b.counted })

-- the one in a place, behind the others
behind_at : (lanes : List Lane) (i : ℕ) (d : Lane) → InPlaces 0 lanes → i < length lanes → Sits (get_or lanes i d) → Counts (told_in_all lanes) (get_or lanes i d) → Behind (lines_but i lanes) (get_or lanes i d)
behind_at lanes i d k l s c = record {
  sits = s;
  counted = λ x. by_lines x (lines_but i lanes ++ (get_or lanes i d).trace) (told_in_all lanes x) (present (slice_get (get_or lanes i d).contexts x))
      (λ id. omega (arith, but_one i 0 i x id lanes d k (omega arith) l, dispatches_joined x id (lines_but i lanes) (get_or lanes i d).trace)) (c x);
}

map_at : (f : Lane → Lane) (lanes : List Lane) (i : ℕ) (d : Lane) → i < length lanes → get_or (map f lanes) i (f d) ≡ f (get_or lanes i d)
map_at f [] i d l = absurd (omega (arith, l))
map_at f (lane ∷ lanes) zero d l = refl
map_at f (lane ∷ lanes) (suc i) d l = map_at f lanes i d (omega (arith, l))

turn_counts : (script : Plan) (tick : ℕ) (h : ℕ → ℕ) (lanes : List Lane) (i : ℕ) (d : Lane) → AreHeld script h lanes → i < length lanes → Sits (get_or lanes i d) → Counts (told_in_all lanes) (get_or lanes i d)
    → Counts (told_in_all (map (turned script tick) lanes)) (turned script tick (get_or lanes i d))
turn_counts script tick h lanes i d a l s counts c = by (context_at c now) refl
  where
    lane : Lane
    lane = get_or lanes i d

    now : Lane
    now = turned script tick lane

    stands : Stands script h lane
    stands = each_at (Stands script h) i lanes d a.each l

    after : Behind (lines_but i lanes) now
    after = behind_turned script tick (lines_but i lanes) lane (behind_at lanes i d a.counted l s counts)

    has : is_some (context_at c now) ≡ is_some (context_at c lane)
    has = own_held now.contexts c ∙ (ap (λ bs. slice_index_or bs c false) (held_turned script tick lane) ∙ sym (own_held lane.contexts c))

    -- the lane has the context, so no other dispatched its sources
    sum : is_some (context_at c lane) ≡ true → (id : ℕ) → told_in_all (map (turned script tick) lanes) c id ≡ dispatches c id (lines_but i lanes ++ now.trace)
    sum e id =
        let within : c < (sizes script).contexts = omega (arith, own_within lane.contexts c e, (stands.fits).size) in
        let place : lane.number ≡ 0 + i = number_at 0 i lanes d a.counted l in
        let mine : i ≡ h c = omega (arith, place) ∙ eqb-true lane.number (h c) (sym ((stands.fits).has c within) ∙ e) in
        let same : length (map (turned script tick) lanes) ≡ length lanes = simp length-map in
        let all = but_one i 0 i c id (map (turned script tick) lanes) (turned script tick d) (counted_step (turned script tick) (turned_number script tick) 0 lanes a.counted) (omega arith) (omega (arith, l, same)) in
        let here : dispatches c id (get_or (map (turned script tick) lanes) i (turned script tick d)).trace ≡ dispatches c id now.trace = ap (λ (x : Lane). dispatches c id x.trace) (map_at (turned script tick) lanes i d l) in
        omega (arith, all, here, quiet_but script tick c id i h lanes a.each within mine, dispatches_joined c id (lines_but i lanes) now.trace)

    by : (o : Option Context) → context_at c now ≡ o → AreCountedIn (told_in_all (map (turned script tick) lanes) c) (present (slice_get now.contexts c))
    by None e = subst (AreCountedIn (told_in_all (map (turned script tick) lanes) c)) (sym e) tt
    by (Some x) e = by_count c (lines_but i lanes ++ now.trace) (told_in_all (map (turned script tick) lanes) c) (present (slice_get now.contexts c)) (sum (sym has ∙ ap (λ (o : Option Context). is_some o) e)) (after.counted c)

-- ---- what goes over

counts_set : (f : ℕ → ℕ → ℕ) (contexts : List (Option Context)) (d : ℕ) (o : Option Context) → ((c : ℕ) → AreCountedIn (f c) (present (slice_get contexts c))) → AreCountedIn (f d) o → (c : ℕ) → AreCountedIn (f c) (present (slice_get (slice_set contexts d o) c))
counts_set f [] d o n p c = n c
counts_set f (x ∷ contexts) zero o n p zero = p
counts_set f (x ∷ contexts) zero o n p (suc c) = n (suc c)
counts_set f (x ∷ contexts) (suc d) o n p zero = n zero
counts_set f (x ∷ contexts) (suc d) o n p (suc c) = counts_set (λ k. f (suc k)) contexts d o (λ k. n (suc k)) p c

abbrev CountsKept : (ℕ → ℕ → ℕ) → Kept → Type 0
CountsKept f kept = AreCountedIn (f kept.number) (Some kept.context)

abbrev number_or : ℕ → Option Kept → ℕ
number_or n None = n
number_or n (Some k) = k.number

handed_number_is : (c : ℕ) (lane : Lane) (kept : Kept) → handed_of c lane ≡ Some kept → kept.number ≡ c
handed_number_is c lane kept e = by (is_given c lane) (context_at c lane) e
  where
    by : (b : Bool) (o : Option Context) → cond b (option_map (kept_of c lane) o) None ≡ Some kept → kept.number ≡ c
    by true None p = let no : false ≡ true = ap (λ (x : Option Kept). is_some x) p in cc
    by true (Some x) p = sym (ap (λ (o : Option Kept). number_or c o) p)
    by false o p = let no : false ≡ true = ap (λ (x : Option Kept). is_some x) p in cc

-- the same counts whichever lane has it
counts_over : (f : ℕ → ℕ → ℕ) (tick : ℕ) (letters : List Letter) (lanes : List Lane) → AllByRecursion (Counts f) lanes → AllByRecursion (Counts f) (handed_over tick letters lanes)
counts_over f tick letters lanes all =
    going_over tick (Counts f) (CountsKept f)
    (λ lane c context kept e. subst (λ (n : ℕ). AreCountedIn (f n) (Some kept.context)) (sym (handed_number_is context lane kept e)) (subst (AreCountedIn (f context)) ((whole context lane kept e).0) (c context)))
    (λ lane c kept k. counts_set f lane.contexts kept.number (Some kept.context) c k) (λ lane c context. counts_set f lane.contexts context None c tt) letters lanes all

told_over : (tick c id : ℕ) (hs : List Handing) (lanes : List Lane) → told_in_all (map (all_handed tick hs) lanes) c id ≡ told_in_all lanes c id
told_over tick c id hs [] = refl
told_over tick c id hs (lane ∷ lanes) =
    omega (
      arith,
      sum_by-cons (λ (l : Lane). dispatches c id l.trace) (all_handed tick hs lane) (map (all_handed tick hs) lanes),
      sum_by-cons (λ (l : Lane). dispatches c id l.trace) lane lanes,
      handed_part (λ (l : Lane). dispatches c id l.trace) tick (λ kept l. same_others tick 0 c id l.trace (l.trace ++ (record { tick = tick; event = events.Hold kept.number }) ∷ []) (grows_line (OtherAt tick 0) l.trace _ (refl, tt))) (λ c l. refl) hs lane,
      told_over tick c id hs lanes,
    )

-- ---- a delivery

received_counts : (f : ℕ → ℕ → ℕ) (script : Plan) (tick : ℕ) (letters : List Letter) (lane : Lane) → Counts f lane → Counts f (received_all script tick letters lane)
received_counts f script tick letters lane c x =
    let after : Lane = received_all script tick letters lane in
    let acts = of_brought tick 0 lane after (brings_all script tick letters lane) in
    edited_in (f x) (f x) (present (slice_get lane.contexts x)) (present (slice_get after.contexts x)) (acts.rows x) (λ id. refl) (c x)

told_received : (script : Plan) (tick c id : ℕ) (letters : List Letter) (lanes : List Lane) → told_in_all (map (received_all script tick letters) lanes) c id ≡ told_in_all lanes c id
told_received script tick c id letters [] = refl
told_received script tick c id letters (lane ∷ lanes) =
    let after : Lane = received_all script tick letters lane in
    let acts = of_brought tick 0 lane after (brings_all script tick letters lane) in
    omega (arith, sum_by-cons (λ (l : Lane). dispatches c id l.trace) after (map (received_all script tick letters) lanes), sum_by-cons (λ (l : Lane). dispatches c id l.trace) lane lanes, same_others tick 0 c id lane.trace after.trace acts.lines, told_received script tick c id letters lanes)

-- ---- a run

pushed_in : (f : ℕ → ℕ → ℕ) (os : List (Option Context)) (o : Option Context) → ((c : ℕ) → AreCountedIn (f c) (present (slice_get os c))) → ((c : ℕ) → AreCountedIn (f c) o) → (c : ℕ) → AreCountedIn (f c) (present (slice_get (os ++ o ∷ []) c))
pushed_in f [] o n p zero = p zero
pushed_in f [] o n p (suc c) = tt
pushed_in f (x ∷ os) o n p zero = n zero
pushed_in f (x ∷ os) o n p (suc c) = pushed_in (λ k. f (suc k)) os o (λ k. n (suc k)) (λ k. p (suc k)) c

counts_open : (script : Plan) (f : ℕ → ℕ → ℕ) → ((c id : ℕ) → f c id ≡ 0) → (lane n : ℕ) → (c : ℕ) → AreCountedIn (f c) (present (slice_get (open_contexts_to script lane n) c))
counts_open script f z lane zero c = tt
counts_open script f z lane (suc n) c = pushed_in f (open_contexts_to script lane n) (open_context script lane n) (λ k. counts_open script f z lane n k) (λ k. by k (home_of script n == lane)) c
  where
    by : (k : ℕ) (b : Bool) → AreCountedIn (f k) (cond b (Some (no_sources script)) None)
    by k true = record { rows = tt; new = λ id l. z k id }
    by k false = tt

open_told : (script : Plan) (ns : List ℕ) (c id : ℕ) → told_in_all (map (opening script) ns) c id ≡ 0
open_told script [] c id = refl
open_told script (n ∷ ns) c id = omega (arith, sum_by-cons (λ (l : Lane). dispatches c id l.trace) (opening script n) (map (opening script) ns), open_told script ns c id)

counts_opened : (script : Plan) (f : ℕ → ℕ → ℕ) → ((c id : ℕ) → f c id ≡ 0) → (ns : List ℕ) → AllByRecursion (Counts f) (map (opening script) ns)
counts_opened script f z [] = tt
counts_opened script f z (n ∷ ns) = ((λ c. counts_open script f z n (sizes script).contexts c), counts_opened script f z ns)

same_counts : (f g : ℕ → ℕ → ℕ) → ((c id : ℕ) → g c id ≡ f c id) → (lanes : List Lane) → AllByRecursion (Counts f) lanes → AllByRecursion (Counts g) lanes
same_counts f g e [] a = tt
same_counts f g e (lane ∷ lanes) a = ((λ c. by c (present (slice_get lane.contexts c)) (a.0 c)), same_counts f g e lanes a.1)
  where
    by : (c : ℕ) (o : Option Context) → AreCountedIn (f c) o → AreCountedIn (g c) o
    by c None h = tt
    by c (Some x) h = record { rows = all_of (λ (r : Row). (r.count == f c r.id) ≡ true) (λ (r : Row). (r.count == g c r.id) ≡ true) (λ r k. ap (λ (n : ℕ). r.count == n) (e c r.id) ∙ k) x.rows.rows h.rows; new = λ id l. e c id ∙ h.new id l }

received_each : (f : ℕ → ℕ → ℕ) (script : Plan) (tick : ℕ) (letters : List Letter) (lanes : List Lane) → AllByRecursion (Counts f) lanes → AllByRecursion (Counts f) (map (received_all script tick letters) lanes)
received_each f script tick letters [] a = tt
received_each f script tick letters (lane ∷ lanes) a = (received_counts f script tick letters lane a.0, received_each f script tick letters lanes a.1)

pub counts_run : (script : Plan) (tick : ℕ) → AllByRecursion (Counts (told_in_all (lanes_at script tick))) (lanes_at script tick)
counts_run script zero = counts_opened script (told_in_all (opened script)) (open_told script (range_with_len 0 (length script.lanes))) (range_with_len 0 (length script.lanes))
counts_run script (suc tick) = next (counts_run script tick)
  where
    next : AllByRecursion (Counts (told_in_all (lanes_at script tick))) (lanes_at script tick) → AllByRecursion (Counts (told_in_all (lanes_at script (suc tick)))) (lanes_at script (suc tick))
    next a =
        let lanes : List Lane = lanes_at script tick in
        let letters : List Letter = posted_at script tick lanes in
        let turns : List Lane = map (turned script tick) lanes in
        let over : List Lane = handed_over tick letters turns in
        let rests = rests_run script tick in
        let held = held_at_tick script tick in
        let turned_all : AllByRecursion (Counts (told_in_all turns)) turns =
        mapped (λ lane. Counts (told_in_all turns) (turned script tick lane)) (Counts (told_in_all turns)) (turned script tick) (λ lane c. c) lanes
        (all_from (λ lane. Counts (told_in_all turns) (turned script tick lane)) lanes
        (λ d i l. turn_counts script tick (λ c. holder_at script c tick) lanes i d held l (each_at Rests i lanes d rests l).sits (each_at (Counts (told_in_all lanes)) i lanes d a l))) in
        let went : AllByRecursion (Counts (told_in_all turns)) over = counts_over (told_in_all turns) tick letters turns turned_all in
        same_counts (told_in_all turns) (told_in_all (lanes_at script (suc tick))) (λ c id. told_received script tick c id letters over ∙ told_over tick c id (handings tick letters turns) turns) (lanes_at script (suc tick))
        (received_each (told_in_all turns) script tick letters over went)

-- ---- a dispatch

calls_so : (o : Option ℕ) → Calls o (body_of o)
calls_so None = refl
calls_so (Some proc) = refl

begun_so : (front : List Line) (before now : Lane) (context id : ℕ) → Counted front before → IsDispatched before now context id → IsBegun context id front before now
begun_so front before now context id h d =
    let count = count_of front before context (d.row).id d.row h (d.next).there in
    let here : (d.row).count + 1 ≡ dispatches context (d.row).id (front ++ now.trace) =
    omega (arith, count, d.number, dispatches_joined context (d.row).id front before.trace, dispatches_joined context (d.row).id front now.trace) in
    record {
      row = d.row;
      there = ap (λ (i : ℕ). row_of context i before) (sym d.same) ∙ (d.next).there;
      caller = record { context = context; id = (d.row).id; recurse = (d.row).recurse; number = (d.row).count + 1; once = is_some (reply_held context (d.row).id before.replies) };
      body = body_of (d.row).call;
      below = advanced before.frames;
      frames = d.frames;
      same_context = refl;
      same_id = d.same;
      calls = calls_so (d.row).call;
      number = here ∙ ap (λ (i : ℕ). dispatches context i (front ++ now.trace)) d.same;
      line = sym (ap (λ (i : ℕ). dispatches context i now.trace) d.same) ∙ (d.number ∙ ap (λ (i : ℕ). dispatches context i before.trace + 1) d.same);
      recurse = refl;
      once = ap (λ (i : ℕ). is_some (reply_held context i before.replies)) d.same;
    }

begins_told : (front : List Line) (before now : Lane) (event : Event) → Counted front before → TellsNext before now event → Begins front before now event
begins_told front before now (events.Dispatch context id priority depth) h d = begun_so front before now context id h d
begins_told front before now _ h d = tt

begins_step : (front : List Line) (script : Plan) (tick : ℕ) (t u : Turn) → step script tick t ≡ Some u → Counted front t.lane → Grows (λ line. Begins front t.lane u.lane line.event) t.lane.trace u.lane.trace
begins_step front script tick t u e h = grows_as (Told tick t.lane u.lane) (λ l. Begins front t.lane u.lane l.event) (λ l p. begins_told front t.lane u.lane l.event h p.3) t.lane.trace u.lane.trace (does script tick t u e).lines

pub dispatches_begin : (script : Plan) (tick steps : ℕ) → AllByRecursion (λ lane. (u : Turn) → step script tick (turn_within script tick steps lane) ≡ Some u
    → Grows (λ line. Begins (lines_but lane.number (lanes_at script tick)) (turn_within script tick steps lane).lane u.lane line.event) (turn_within script tick steps lane).lane.trace u.lane.trace) (lanes_at script tick)
dispatches_begin script tick steps = all_from (λ lane. (u : Turn) → step script tick (turn_within script tick steps lane) ≡ Some u → Grows (λ line. Begins (lines_but lane.number lanes) (turn_within script tick steps lane).lane u.lane line.event) (turn_within script tick steps lane).lane.trace u.lane.trace) lanes each
  where
    lanes : List Lane
    lanes = lanes_at script tick

    each : (d : Lane) (i : ℕ) → i < length lanes → (u : Turn) → step script tick (turn_within script tick steps (get_or lanes i d)) ≡ Some u
        → Grows (λ line. Begins (lines_but (get_or lanes i d).number lanes) (turn_within script tick steps (get_or lanes i d)).lane u.lane line.event) (turn_within script tick steps (get_or lanes i d)).lane.trace u.lane.trace
    each d i l u e =
        let held = held_at_tick script tick in
        let place : (get_or lanes i d).number ≡ i = number_at 0 i lanes d held.counted l ∙ omega arith in
        let behind = behind_at lanes i d held.counted l (each_at Rests i lanes d (rests_run script tick) l).sits (each_at (Counts (told_in_all lanes)) i lanes d (counts_run script tick) l) in
        subst (λ (n : ℕ). Grows (λ line. Begins (lines_but n lanes) (turn_within script tick steps (get_or lanes i d)).lane u.lane line.event) (turn_within script tick steps (get_or lanes i d)).lane.trace u.lane.trace) (sym place)
        (begins_step (lines_but i lanes) script tick (turn_within script tick steps (get_or lanes i d)) u e (behind_within script tick steps (lines_but i lanes) (get_or lanes i d) behind).counted)
