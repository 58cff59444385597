-- What an iteration is to dispatch: the most urgent ready sources, by their numbers, and each once.
use Rattle.std.proofs.Common.{◌≡◌, ◌≢◌, ℕ, ℤ, ◌<◌, ◌≤◌, ◌==◌, ◌&&◌, Bool, true, false, cond, Option, Some, List, [], ◌∷◌, ◌⊎◌, inl, inr, filter, length, refl, ap, sym, ◌∙◌, arith, subst, ltb-true, ltb-false}
use Rattle.std.specs.Prelude.{int_le, nat_lt}
use Rattle.std.specs.List.{AllByRecursion, list_all, list_any}
use Rattle.std.proofs.lemmas.Bool.Decides.{eqb_tells}
use Rattle.std.proofs.lemmas.Int.{ints}
use Rattle.loop_script.specs.declared.plan.Plan.{Plan}
use Rattle.source_rows.specs.declared.row.Row.{Row}
use Rattle.source_rows.specs.Rows.{row_of as row_with, in_order, is_under, stands_before}
use Rattle.source_rows.specs.Tree.{IsForest}
use Rattle.source_rows.specs.Lists.{Pairs}
use Rattle.source_rows.proofs.Lists.{all_of, all_both, all_map, all_passed, pairs_map, pairs_filter, pairs_with, pairs_and, all_true}
use Rattle.source_rows.proofs.Order.{all_in_order, pairs_in_order, sorted_in_order}
use Rattle.source_rows.proofs.Forest.{found, all_found, one_order}
use Rattle.source_rows.proofs.Behind.{all_behind}
use Rattle.source_rows.proofs.Post.{post_order}
use Rattle.context_core.specs.declared.context.Context.{Context}
use Rattle.context_core.specs.Ready.{Own, is_ready, is_most_urgent, ready_rows, selected}
use Rattle.context_core.proofs.Standings.{among}
use Rattle.lane_turn.specs.Frames.{Frame, CallOf, IterOf, LoopOf, busy}
use Rattle.lane_turn.specs.Sources.{own_ready_at, tree_levels, chosen_in}
use Rattle.lane_turn.specs.Lane.{Lane, context_at, chosen}
use Rattle.lane_turn.specs.Levels.{Grown, OfAllLanes}
use Rattle.lane_turn.specs.Tick.{lanes_at, lane_within}
use Rattle.lane_turn.specs.Selected.{NoneMoreUrgent, IsUrgent, HasAllUrgent, GoesBefore, IsInOrder, HasEachOnce}
use Rattle.lane_turn.proofs.Adds.{each_as}
use Rattle.lane_turn.proofs.Grown.{grown_run, own_grown}
use Rattle.lane_turn.proofs.Waits.{AllWait}
use Rattle.lane_turn.proofs.Freed.{Sits, sits_run, sits_within}

-- ---- each once

once_each : (lane : Lane) (fs : List Frame) → AllWait lane.contexts fs → AllByRecursion HasEachOnce fs
once_each lane [] h = tt
once_each lane (CallOf call ∷ below) h = (tt, once_each lane below h)
once_each lane (IterOf c ids asker ∷ below) h = (h.0, once_each lane below h.2)
once_each lane (LoopOf number c ∷ below) h = (tt, once_each lane below h)

pub once_run : (script : Plan) (tick steps : ℕ) → AllByRecursion (λ lane. AllByRecursion HasEachOnce (lane_within script tick steps lane).frames) (lanes_at script tick)
once_run script tick steps =
    each_as Sits (λ lane. AllByRecursion HasEachOnce (lane_within script tick steps lane).frames)
    (λ lane h. let now : Lane = lane_within script tick steps lane in once_each now now.frames (sits_within script tick steps lane h).waits) (lanes_at script tick) (sits_run script tick)

-- ---- the order

-- what is known of a row that is selected
abbrev Siblings : Row → Row → Type 0
Siblings r q = r.parent ≡ q.parent → r.priority ≡ q.priority → r.order < q.order → stands_before r q ≡ true

abbrev Behind : Row → Row → Type 0
Behind r q = is_under r.id q ≡ true → stands_before q r ≡ false → r ≡ q

record Stands (rows : List Row) (r : Row) : Type 0 where
  there : row_with r.id rows ≡ Some r
  siblings : AllByRecursion (Siblings r) rows
  behind : AllByRecursion (Behind r) rows
  apart : AllByRecursion (λ x. r.order ≡ x.order → r ≡ x) rows

record Goes (context_at : Own) (blocked : List ℕ) (rows : List Row) (r : Row) : Type 0 where
  stands : Stands rows r
  ready : is_ready context_at blocked rows r ≡ true
  urgent : AllByRecursion (λ q. is_ready context_at blocked rows q ≡ true → int_le r.priority q.priority ≡ true) rows

all_stand : (rows : List Row) → IsForest rows → AllByRecursion (Stands rows) rows
all_stand rows f =
    let S : Row → Type 0 = λ r. AllByRecursion (Siblings r) rows in
    let B : Row → Type 0 = λ r. AllByRecursion (Behind r) rows in
    let O : Row → Type 0 = λ r. AllByRecursion (λ x. r.order ≡ x.order → r ≡ x) rows in
    let sides = all_both S B (λ (r : Row). S r × B r) (λ r a b. (a, b)) rows (post_order rows f).siblings (all_behind rows f) in
    let both = all_both (λ (r : Row). S r × B r) O (λ (r : Row). S r × B r × O r) (λ r a b. (a.0, a.1, b)) rows sides (one_order rows f.differ) in
    all_both (λ (r : Row). row_with r.id rows ≡ Some r) (λ (r : Row). S r × B r × O r) (Stands rows) (λ r a b. record { there = a; siblings = b.0; behind = b.1; apart = b.2 }) rows (all_found rows f.rising) both

and_right : (a b : Bool) → (a && b) ≡ true → b ≡ true
and_right true b e = e
and_right false b e = let no : false ≡ true = e in cc

and_left : (a b : Bool) → (a && b) ≡ true → a ≡ true
and_left true b e = refl
and_left false b e = e

passed_all : (f p : Row → Bool) (rows : List Row) → list_all p (filter f rows) ≡ true → AllByRecursion (λ q. f q ≡ true → p q ≡ true) rows
passed_all f p [] e = tt
passed_all f p (x ∷ rows) e = by (passed_all f p rows) (f x) refl e
  where
    by : (list_all p (filter f rows) ≡ true → AllByRecursion (λ q. f q ≡ true → p q ≡ true) rows)
        → (b : Bool) → f x ≡ b → list_all p (cond b (x ∷ filter f rows) (filter f rows)) ≡ true → (f x ≡ true → p x ≡ true) × AllByRecursion (λ q. f q ≡ true → p q ≡ true) rows
    by ih true k e = (λ y. and_left (p x) (list_all p (filter f rows)) e, ih (and_right (p x) (list_all p (filter f rows)) e))
    by ih false k e = (λ y. let no : false ≡ true = sym k ∙ y in cc, ih e)

abbrev Chosen : Own → List ℕ → List Row → List Row
Chosen context_at blocked rows = filter (is_most_urgent (ready_rows context_at blocked rows)) (ready_rows context_at blocked rows)

all_go : (context_at : Own) (blocked : List ℕ) (rows : List Row) → IsForest rows → AllByRecursion (Goes context_at blocked rows) (in_order (Chosen context_at blocked rows))
all_go context_at blocked rows f =
    let ready = all_passed (Stands rows) (λ (r : Row). Stands rows r × (is_ready context_at blocked rows r ≡ true)) (is_ready context_at blocked rows) (λ r s e. (s, e)) rows (all_stand rows f) in
    all_in_order (Goes context_at blocked rows) (Chosen context_at blocked rows)
    (all_passed (λ (r : Row). Stands rows r × (is_ready context_at blocked rows r ≡ true)) (Goes context_at blocked rows) (is_most_urgent (ready_rows context_at blocked rows))
    (λ r s e. record { stands = s.0; ready = s.1; urgent = passed_all (is_ready context_at blocked rows) (λ q. int_le r.priority q.priority) rows e }) (ready_rows context_at blocked rows) ready)

pub all_urgent : (context_at : Own) (blocked : List ℕ) (rows : List Row) → IsForest rows → AllByRecursion (IsUrgent context_at blocked rows) (selected context_at blocked rows)
all_urgent context_at blocked rows f = all_map (Goes context_at blocked rows) (IsUrgent context_at blocked rows) (λ r. r.id) (λ r g. (r, (g.stands).there, g.ready, g.urgent)) (in_order (Chosen context_at blocked rows)) (all_go context_at blocked rows f)

-- ---- none is left out

all_pass : (f p : Row → Bool) (rows : List Row) → AllByRecursion (λ q. f q ≡ true → p q ≡ true) rows → list_all p (filter f rows) ≡ true
all_pass f p [] h = refl
all_pass f p (x ∷ rows) h = by (f x) refl (all_pass f p rows h.1)
  where
    by : (b : Bool) → f x ≡ b → list_all p (filter f rows) ≡ true → list_all p (cond b (x ∷ filter f rows) (filter f rows)) ≡ true
    by true e ih = rw (h.0 e) ih
    by false e ih = ih

pub none_left_out : (context_at : Own) (blocked : List ℕ) (rows : List Row) → IsForest rows → HasAllUrgent context_at blocked rows (selected context_at blocked rows)
none_left_out context_at blocked rows f =
    all_of (λ (r : Row). row_with r.id rows ≡ Some r) (λ (r : Row). is_ready context_at blocked rows r ≡ true → NoneMoreUrgent context_at blocked rows r → list_any (λ id. id == r.id) (selected context_at blocked rows) ≡ true)
    (λ r there ready least. among context_at blocked rows r f.rising there ∙ rw ready (all_pass (is_ready context_at blocked rows) (λ q. int_le r.priority q.priority) rows least))
    rows (all_found rows f.rising)

least_both : (a b : ℤ) → int_le a b ≡ true → int_le b a ≡ true → a ≡ b
least_both a b h k = omega (arith, ints, h, k)

row_same : (a b : Row) → Some a ≡ Some b → a ≡ b
row_same a b e = cc

abbrev Follow : Row → Row → Type 0
Follow r q = (stands_before q r ≡ false) × (r.id ≢ q.id)

by_number : (rows : List Row) (r q : Row) → Stands rows r → Stands rows q → Follow r q → r.priority ≡ q.priority → r.parent ≡ q.parent → (b : Bool) → nat_lt r.order q.order ≡ b → r.order < q.order
by_number rows r q s t f p e true l = ltb-true r.order q.order l
by_number rows r q s t f p e false l = other (eqb_tells r.order q.order)
  where
    other : ((r.order == q.order) ≡ true × r.order ≡ q.order) ⊎ ((r.order == q.order) ≡ false × r.order ≢ q.order) → r.order < q.order
    other (inl same) = absurd (f.1 (ap (λ (x : Row). x.id) (found (λ (x : Row). r.order ≡ x.order → r ≡ x) q.id q rows s.apart t.there same.1)))
    other (inr apart) =
        let above = ltb-false r.order q.order l in
        let behind : stands_before q r ≡ true = found (Siblings q) r.id r rows t.siblings s.there (sym e) (sym p) (omega (arith, above, apart.1)) in
        let no : true ≡ false = sym behind ∙ f.0 in cc

-- a row that follows another is not under it
not_below : (rows : List Row) (r q : Row) → Stands rows r → Stands rows q → Follow r q → is_under r.id q ≡ true → ⊥
not_below rows r q s t f u = f.1 (ap (λ (x : Row). x.id) (found (Behind r) q.id q rows s.behind t.there u f.0))

one_priority : (context_at : Own) (blocked : List ℕ) (rows : List Row) (r q : Row) → Goes context_at blocked rows r → Goes context_at blocked rows q → r.priority ≡ q.priority
one_priority context_at blocked rows r q g h =
    let to = found (λ (x : Row). is_ready context_at blocked rows x ≡ true → int_le r.priority x.priority ≡ true) q.id q rows g.urgent (h.stands).there h.ready in
    let from = found (λ (x : Row). is_ready context_at blocked rows x ≡ true → int_le q.priority x.priority ≡ true) r.id r rows h.urgent (g.stands).there g.ready in
    least_both r.priority q.priority to from

of_ids : (context_at : Own) (blocked : List ℕ) (rows : List Row) (r q : Row) → Goes context_at blocked rows r → Goes context_at blocked rows q → Follow r q → GoesBefore rows r.id q.id
of_ids context_at blocked rows r q g h f =
    let same = one_priority context_at blocked rows r q g h in
    let first : (x : Row) → row_with r.id rows ≡ Some x → r ≡ x = λ x e. row_same r x (sym (g.stands).there ∙ e) in
    let second : (y : Row) → row_with q.id rows ≡ Some y → q ≡ y = λ y e. row_same q y (sym (h.stands).there ∙ e) in
    record {
      priority = λ x y e k. sym (ap (λ (z : Row). z.priority) (first x e)) ∙ (same ∙ ap (λ (z : Row). z.priority) (second y k));
      number = λ x y e k. subst (λ (z : Row). z.parent ≡ y.parent → z.order < y.order) (first x e)
          (subst (λ (z : Row). r.parent ≡ z.parent → r.order < z.order) (second y k) (λ p. by_number rows r q g.stands h.stands f same p (nat_lt r.order q.order) refl));
      lower = λ x y e k. subst (λ (z : Row). is_under r.id z ≡ true → ⊥) (second y k) (not_below rows r q g.stands h.stands f);
    }

pub all_before : (context_at : Own) (blocked : List ℕ) (rows : List Row) → IsForest rows → Pairs (GoesBefore rows) (selected context_at blocked rows)
all_before context_at blocked rows f =
    let D : Row → Row → Type 0 = λ r q. r.id ≢ q.id in
    let apart : Pairs D rows = pairs_with (λ (r : Row) (q : Row). r.id < q.id) D (λ (r : Row). Unit {0}) (λ r q a b l e. absurd (omega (arith, l, e))) rows (all_true (λ (r : Row). Unit {0}) (λ r. tt) rows) f.rising in
    let chosen = pairs_filter D (is_most_urgent (ready_rows context_at blocked rows)) (ready_rows context_at blocked rows) (pairs_filter D (is_ready context_at blocked rows) rows apart) in
    let both : Pairs Follow (in_order (Chosen context_at blocked rows)) = pairs_and (λ (r : Row) (q : Row). stands_before q r ≡ false) D (in_order (Chosen context_at blocked rows)) (sorted_in_order (Chosen context_at blocked rows)) (pairs_in_order D (λ r q e k. e (sym k)) (Chosen context_at blocked rows) chosen) in
    pairs_map (λ (r : Row) (q : Row). GoesBefore rows r.id q.id) (GoesBefore rows) (λ r. r.id) (λ r q h. h) (in_order (Chosen context_at blocked rows))
    (pairs_with Follow (λ (r : Row) (q : Row). GoesBefore rows r.id q.id) (Goes context_at blocked rows) (λ r q g h w. of_ids context_at blocked rows r q g h w) (in_order (Chosen context_at blocked rows)) (all_go context_at blocked rows f) both)

lane_order : (script : Plan) (lane : Lane) → AllByRecursion (Grown (tree_levels script)) lane.contexts → (now context : ℕ) (c : Context) → context_at context lane ≡ Some c
    → IsInOrder (own_ready_at script now lane.view) (busy context lane.frames) c.rows.rows (chosen script now context lane)
lane_order script lane g now context c e =
    let f = ((own_grown (tree_levels script) lane context c e g).sound).forest in
    let from = own_ready_at script now lane.view in
    let blocked : List ℕ = busy context lane.frames in
    subst (λ (o : Option Context). IsInOrder from blocked c.rows.rows (chosen_in script now lane.view blocked o)) (sym e) (record { urgent = all_urgent from blocked c.rows.rows f; whole = none_left_out from blocked c.rows.rows f; order = all_before from blocked c.rows.rows f })

pub order_run : (script : Plan) → length script.lanes ≤ 64
    → OfAllLanes script (λ lane. (now context : ℕ) (c : Context) → context_at context lane ≡ Some c → IsInOrder (own_ready_at script now lane.view) (busy context lane.frames) c.rows.rows (chosen script now context lane))
order_run script few tick steps h =
    each_as (λ lane. AllByRecursion (Grown (tree_levels script)) (lane_within script tick steps lane).contexts)
    (λ lane. (now context : ℕ) (c : Context) → context_at context (lane_within script tick steps lane) ≡ Some c → IsInOrder (own_ready_at script now (lane_within script tick steps lane).view) (busy context (lane_within script tick steps lane).frames) c.rows.rows (chosen script now context (lane_within script tick steps lane)))
    (λ lane g. lane_order script (lane_within script tick steps lane) g) (lanes_at script tick) (grown_run script few tick steps h)
