-- The count of a source is the number of the lines of its dispatches: an invariant of the lanes of a run.
use Rattle.std.proofs.Common.{◌≡◌, ◌≢◌, ℕ, zero, suc, ◌+◌, ◌<◌, ◌≤◌, ◌==◌, ◌&&◌, Bool, true, false, cond, Option, Some, None, List, [], ◌∷◌, ◌++◌, ◌⊎◌, inl, inr, slice_set, option_map, refl, ap, sym, ◌∙◌, arith, subst}
use Rattle.std.specs.Prelude.{slice_get}
use Rattle.std.specs.List.{AllByRecursion}
use Rattle.std.proofs.lemmas.Bool.Decides.{eqb_tells}
use Rattle.std.proofs.lemmas.List.Sums.{sum_by-cons, sum_by-append, sum_by_push}
use Rattle.source_rows.specs.declared.row.Row.{Row}
use Rattle.source_rows.specs.Rows.{RowSet, counted as counted_once, has_id}
use Rattle.source_rows.proofs.Compared.{same_self, are_same, not_same}
use Rattle.source_rows.proofs.Lists.{all_of, all_map}
use Rattle.source_rows.proofs.Forest.{found}
use Rattle.context_core.specs.declared.context.Context.{Context}
use Rattle.cancel_view.specs.Seen.{Seen}
use Rattle.lane_turn.specs.declared.line.Line.{Line}
use Rattle.lane_turn.specs.declared.line.Event.{Event}
use Rattle.lane_turn.specs.declared.line.Event.TheVariants as events
use Rattle.lane_turn.specs.declared.replies.Awaited.{Awaited}
use Rattle.lane_turn.specs.Lane.{Lane, present, context_at, with_rows, row_in, row_of}
use Rattle.lane_turn.specs.Step.{result_lines}
use Rattle.lane_turn.specs.Stays.{is_dispatch_of, dispatches}
use Rattle.lane_turn.specs.Traces.{Grows}
use Rattle.lane_turn.proofs.Counts.{Edits, EditsIn, AllEdit}
use Rattle.lane_turn.proofs.Adds.{IsOther, OtherAt}
use Rattle.lane_turn.proofs.Waits.{NumberedIn}

-- ---- lines

weight : (c i : ℕ) → Line → ℕ
weight c i l = cond (is_dispatch_of c i l.event) 1 0

other_none : (n c i : ℕ) (event : Event) → IsOther n event → is_dispatch_of c i event ≡ false
other_none n c i (events.Dispatch context id priority depth) h = absurd h
other_none n c i _ h = refl

none_more : (tick n c i : ℕ) (ls : List Line) → AllByRecursion (OtherAt tick n) ls → dispatches c i ls ≡ 0
none_more tick n c i [] h = refl
none_more tick n c i (l ∷ ls) h = sum_by-cons (λ (l : Line). cond (is_dispatch_of c i l.event) 1 0) l ls ∙ (ap (λ b. cond b 1 0 + dispatches c i ls) (other_none n c i l.event (h.0).1) ∙ omega (arith, none_more tick n c i ls h.1))

pub dispatches_joined : (c i : ℕ) (xs ys : List Line) → dispatches c i (xs ++ ys) ≡ dispatches c i xs + dispatches c i ys
dispatches_joined c i xs ys = sum_by-append (λ (l : Line). cond (is_dispatch_of c i l.event) 1 0) xs ys

pub same_others : (tick n c i : ℕ) (xs ys : List Line) → Grows (OtherAt tick n) xs ys → dispatches c i ys ≡ dispatches c i xs
same_others tick n c i xs ys g = ap (dispatches c i) g.lines ∙ omega (arith, dispatches_joined c i xs g.more, none_more tick n c i g.more g.each)

result_none : (tick c i : ℕ) (o : Option Awaited) (view : Seen) → dispatches c i (result_lines tick o view) ≡ 0
result_none tick c i None view = refl
result_none tick c i (Some a) view = none_more tick 0 c i (result_lines tick (Some a) view) ((refl, tt), tt)

pub one_more : (tick c i context : ℕ) (row : Row) (depth : ℕ) (o : Option Awaited) (view : Seen) (xs : List Line)
    → dispatches c i ((xs ++ (record { tick = tick; event = events.Dispatch context row.id row.priority depth }) ∷ []) ++ result_lines tick o view) ≡ dispatches c i xs + cond ((context == c) && (row.id == i)) 1 0
one_more tick c i context row depth o view xs =
    let first : Line = record { tick = tick; event = events.Dispatch context row.id row.priority depth } in
    let all = dispatches_joined c i (xs ++ first ∷ []) (result_lines tick o view) in
    let one : dispatches c i (xs ++ first ∷ []) ≡ dispatches c i xs + cond ((context == c) && (row.id == i)) 1 0 = sum_by_push (λ (l : Line). cond (is_dispatch_of c i l.event) 1 0) xs first in
    omega (arith, all, one, result_none tick c i o view)

-- ---- counts

pub record IsCounted (i : ℕ) (lines : List Line) (s : RowSet) : Type 0 where
  pub rows : AllByRecursion (λ r. (r.count == dispatches i r.id lines) ≡ true) s.rows
  pub new : (id : ℕ) → s.next_id ≤ id → dispatches i id lines ≡ 0

abbrev pub CountedIn : ℕ → List Line → Option Context → Type 0
CountedIn i lines None = Unit {0}
CountedIn i lines (Some c) = IsCounted i lines c.rows

-- of a lane, behind lines of others
abbrev pub Counted : List Line → Lane → Type 0
Counted front lane = (i : ℕ) → CountedIn i (front ++ lane.trace) (present (slice_get lane.contexts i))

abbrev pub AllNumbered : Lane → Type 0
AllNumbered lane = (i : ℕ) → NumberedIn (present (slice_get lane.contexts i))

equal : (a b : ℕ) → a ≡ b → (a == b) ≡ true
equal a b e = ap (λ (n : ℕ). a == n) (sym e) ∙ same_self a

counted_edit : (i : ℕ) (xs ys : List Line) (s u : RowSet) → Edits s u → ((id : ℕ) → dispatches i id ys ≡ dispatches i id xs) → IsCounted i xs s → IsCounted i ys u
counted_edit i xs ys s u e same h = record {
  rows = e.counts (λ id n. n == dispatches i id ys) (λ id l. equal 0 (dispatches i id ys) (sym (same id ∙ h.new id l)))
      (all_of (λ (r : Row). (r.count == dispatches i r.id xs) ≡ true) (λ (r : Row). (r.count == dispatches i r.id ys) ≡ true) (λ r k. ap (λ (n : ℕ). r.count == n) (same r.id) ∙ k) s.rows h.rows);
  new = λ id l. same id ∙ h.new id (omega (arith, l, (e.follows).next));
}

pub counted_edited : (i : ℕ) (xs ys : List Line) (o p : Option Context) → EditsIn o p → ((id : ℕ) → dispatches i id ys ≡ dispatches i id xs) → CountedIn i xs o → CountedIn i ys p
counted_edited i xs ys None None e same h = tt
counted_edited i xs ys None (Some d) e same h = absurd e
counted_edited i xs ys (Some c) None e same h = absurd e
counted_edited i xs ys (Some c) (Some d) e same h = counted_edit i xs ys c.rows d.rows e same h

behind_same : (c i : ℕ) (front xs ys : List Line) → dispatches c i ys ≡ dispatches c i xs → dispatches c i (front ++ ys) ≡ dispatches c i (front ++ xs)
behind_same c i front xs ys e = omega (arith, dispatches_joined c i front ys, dispatches_joined c i front xs, e)

pub counted_acts : (front : List Line) (tick n : ℕ) (lane after : Lane) → Grows (OtherAt tick n) lane.trace after.trace → AllEdit lane.contexts after.contexts → Counted front lane → Counted front after
counted_acts front tick n lane after g e h i =
    counted_edited i (front ++ lane.trace) (front ++ after.trace) (present (slice_get lane.contexts i)) (present (slice_get after.contexts i)) (e i) (λ id. behind_same i id front lane.trace after.trace (same_others tick n i id lane.trace after.trace g)) (h i)

-- ---- a dispatch

same_or_not : (i k : ℕ) (o : Option Context) → ((i == k) ≡ true × i ≡ k) ⊎ ((i == k) ≡ false × i ≢ k) → ((i ≡ k) × (o ≡ o)) ⊎ ((i ≢ k) × (o ≡ o))
same_or_not i k o (inl p) = inl (p.1, refl)
same_or_not i k o (inr p) = inr (p.1, refl)

-- a change of one context: it is changed, and another is left
set_cases : (g : Context → Context) (os : List (Option Context)) (k i : ℕ) → let now : Option Context = present (slice_get (slice_set os k (option_map g (present (slice_get os k)))) i) in
    ((i ≡ k) × (now ≡ option_map g (present (slice_get os i)))) ⊎ ((i ≢ k) × (now ≡ present (slice_get os i)))
set_cases g [] k i = same_or_not i k None (eqb_tells i k)
set_cases g (o ∷ os) zero zero = inl (refl, refl)
set_cases g (o ∷ os) zero (suc i) = inr ((λ e. absurd (omega (arith, e))), refl)
set_cases g (o ∷ os) (suc k) zero = inr ((λ e. absurd (omega (arith, e))), refl)
set_cases g (o ∷ os) (suc k) (suc i) = by (set_cases g os k i)
  where
    by : let now : Option Context = present (slice_get (slice_set os k (option_map g (present (slice_get os k)))) i) in ((i ≡ k) × (now ≡ option_map g (present (slice_get os i)))) ⊎ ((i ≢ k) × (now ≡ present (slice_get os i)))
        → ((suc i ≡ suc k) × (now ≡ option_map g (present (slice_get os i)))) ⊎ ((suc i ≢ suc k) × (now ≡ present (slice_get os i)))
    by (inl p) = inl (ap (λ (n : ℕ). suc n) p.0, p.1)
    by (inr p) = inr ((λ e. p.0 (omega (arith, e))), p.1)

-- the lines of another source are as many, those of this one are one more
abbrev Rise : (context id i : ℕ) → (xs ys : List Line) → Type 0
Rise context id i xs ys = (j : ℕ) → dispatches i j ys ≡ dispatches i j xs + cond ((context == i) && (id == j)) 1 0

count_row : (i id : ℕ) (xs ys : List Line) (r : Row) → Rise i id i xs ys → (r.count == dispatches i r.id xs) ≡ true → (b : Bool) → (r.id == id) ≡ b
    → ((cond b (record r { count = r.count + 1 }) r).count == dispatches i (cond b (record r { count = r.count + 1 }) r).id ys) ≡ true
count_row i id xs ys r rise h true e =
    let here : ((i == i) && (id == r.id)) ≡ true = ap (λ b. b && (id == r.id)) (same_self i) ∙ equal id r.id (sym (are_same r.id id e)) in
    let more : dispatches i r.id ys ≡ dispatches i r.id xs + 1 = rise r.id ∙ ap (λ b. dispatches i r.id xs + cond b 1 0) here in
    equal (r.count + 1) (dispatches i r.id ys) (omega (arith, more, are_same r.count (dispatches i r.id xs) h))
count_row i id xs ys r rise h false e =
    let other : ((i == i) && (id == r.id)) ≡ false = ap (λ b. b && (id == r.id)) (same_self i) ∙ not_same id r.id (λ k. let no : true ≡ false = sym (equal r.id id (sym k)) ∙ e in cc) in
    let more : dispatches i r.id ys ≡ dispatches i r.id xs + 0 = rise r.id ∙ ap (λ b. dispatches i r.id xs + cond b 1 0) other in
    equal r.count (dispatches i r.id ys) (omega (arith, more, are_same r.count (dispatches i r.id xs) h))

counted_here : (i id : ℕ) (xs ys : List Line) (s : RowSet) → Rise i id i xs ys → id < s.next_id → IsCounted i xs s → IsCounted i ys (counted_once id s)
counted_here i id xs ys s rise l h = record {
  rows = all_map (λ (r : Row). (r.count == dispatches i r.id xs) ≡ true) (λ (r : Row). (r.count == dispatches i r.id ys) ≡ true) (λ r. cond (has_id id r) (record r { count = r.count + 1 }) r) (λ r k. count_row i id xs ys r rise k (r.id == id) refl) s.rows h.rows;
  new = λ j k.
      let other : ((i == i) && (id == j)) ≡ false = ap (λ b. b && (id == j)) (same_self i) ∙ not_same id j (λ e. absurd (omega (arith, e, l, k))) in
      let more : dispatches i j ys ≡ dispatches i j xs + 0 = rise j ∙ ap (λ b. dispatches i j xs + cond b 1 0) other in
      omega (arith, more, h.new j k);
}

counted_there : (context id i : ℕ) (xs ys : List Line) (s : RowSet) → Rise context id i xs ys → i ≢ context → IsCounted i xs s → IsCounted i ys s
counted_there context id i xs ys s rise n h =
    let other : (context == i) ≡ false = not_same context i (λ e. n (sym e)) in
    let same : (j : ℕ) → dispatches i j ys ≡ dispatches i j xs = λ j. let more : dispatches i j ys ≡ dispatches i j xs + 0 = rise j ∙ ap (λ b. dispatches i j xs + cond (b && (id == j)) 1 0) other in omega (arith, more) in
    record {
      rows = all_of (λ (r : Row). (r.count == dispatches i r.id xs) ≡ true) (λ (r : Row). (r.count == dispatches i r.id ys) ≡ true) (λ r k. ap (λ (n : ℕ). r.count == n) (same r.id) ∙ k) s.rows h.rows;
      new = λ j k. same j ∙ h.new j k;
    }

given_of : (id : ℕ) (o : Option Context) (row : Row) (c : Context) → o ≡ Some c → NumberedIn o → row_in id o ≡ Some row → row.id < c.rows.next_id
given_of id None row c e n f = let no : None ≡ Some c = e in cc
given_of id (Some d) row c e n f = let same : d ≡ c = cc in subst (λ (x : Context). row.id < x.rows.next_id) same (found (λ (r : Row). r.id < d.rows.next_id) id row d.rows.rows n.given f)

here_in : (i id : ℕ) (xs ys : List Line) (o : Option Context) (row : Row) → row.id ≡ id → Rise i id i xs ys → NumberedIn o → row_in id o ≡ Some row → CountedIn i xs o → CountedIn i ys (option_map (with_rows (counted_once id)) o)
here_in i id xs ys None row s rise n f h = tt
here_in i id xs ys (Some c) row s rise n f h = counted_here i id xs ys c.rows rise (omega (arith, s, given_of id (Some c) row c refl n f)) h

there_in : (context id i : ℕ) (xs ys : List Line) (o : Option Context) → Rise context id i xs ys → i ≢ context → CountedIn i xs o → CountedIn i ys o
there_in context id i xs ys None rise n h = tt
there_in context id i xs ys (Some c) rise n h = counted_there context id i xs ys c.rows rise n h

rise_behind : (front : List Line) (context id i : ℕ) (xs ys : List Line) → Rise context id i xs ys → Rise context id i (front ++ xs) (front ++ ys)
rise_behind front context id i xs ys r j = omega (arith, dispatches_joined i j front ys, dispatches_joined i j front xs, r j)

pub counted_dispatched : (front : List Line) (context : ℕ) (row : Row) (lane after : Lane) → row_of context row.id lane ≡ Some row → after.contexts ≡ slice_set lane.contexts context (option_map (with_rows (counted_once row.id)) (context_at context lane))
    → ((i : ℕ) → Rise context row.id i lane.trace after.trace) → AllNumbered lane → Counted front lane → Counted front after
counted_dispatched front context row lane after f e rise n h i =
    let g : Context → Context = with_rows (counted_once row.id) in
    subst (λ (os : List (Option Context)). CountedIn i (front ++ after.trace) (present (slice_get os i))) (sym e) (by (set_cases g lane.contexts context i))
  where
    by : let now : Option Context = present (slice_get (slice_set lane.contexts context (option_map (with_rows (counted_once row.id)) (context_at context lane))) i) in
        ((i ≡ context) × (now ≡ option_map (with_rows (counted_once row.id)) (present (slice_get lane.contexts i)))) ⊎ ((i ≢ context) × (now ≡ present (slice_get lane.contexts i))) → CountedIn i (front ++ after.trace) now
    by (inl p) =
        let there : row_in row.id (present (slice_get lane.contexts i)) ≡ Some row = ap (λ (k : ℕ). row_in row.id (present (slice_get lane.contexts k))) p.0 ∙ f in
        let risen : Rise i row.id i (front ++ lane.trace) (front ++ after.trace) = subst (λ (k : ℕ). Rise k row.id i (front ++ lane.trace) (front ++ after.trace)) (sym p.0) (rise_behind front context row.id i lane.trace after.trace (rise i)) in
        subst (CountedIn i (front ++ after.trace)) (sym p.1) (here_in i row.id (front ++ lane.trace) (front ++ after.trace) (present (slice_get lane.contexts i)) row refl risen (n i) there (h i))
    by (inr p) = subst (CountedIn i (front ++ after.trace)) (sym p.1) (there_in context row.id i (front ++ lane.trace) (front ++ after.trace) (present (slice_get lane.contexts i)) (rise_behind front context row.id i lane.trace after.trace (rise i)) p.0 (h i))

-- the count of a source that is found
count_found : (i id : ℕ) (lines : List Line) (o : Option Context) (row : Row) → CountedIn i lines o → row_in id o ≡ Some row → row.count ≡ dispatches i row.id lines
count_found i id lines None row h e = let no : None ≡ Some row = e in cc
count_found i id lines (Some c) row h e = are_same row.count (dispatches i row.id lines) (found (λ (r : Row). (r.count == dispatches i r.id lines) ≡ true) id row c.rows.rows h.rows e)

pub count_of : (front : List Line) (lane : Lane) (context id : ℕ) (row : Row) → Counted front lane → row_of context id lane ≡ Some row → row.count ≡ dispatches context row.id (front ++ lane.trace)
count_of front lane context id row h e = count_found context id (front ++ lane.trace) (context_at context lane) row (h context) e
