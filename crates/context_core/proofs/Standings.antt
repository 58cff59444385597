-- What standings tell, one row more at a time.
use Rattle.std.proofs.Common.{◌≡◌, ℕ, ◌<◌, ◌==◌, ◌&&◌, ◌||◌, inl, inr, arith, ℤ, pos, negsuc, Bool, true, false, cond, Option, Some, None, is_some, List, [], ◌∷◌, ◌++◌, map, filter, refl, ap, sym, ◌∙◌, subst}
use Rattle.std.specs.Prelude.{not, int_lt, reverse}
use Rattle.std.proofs.lemmas.List.{append_assoc}
use Rattle.std.proofs.lemmas.List.Sorted.{list_any-IsPermutation, IsPermutation-reverse}
use Rattle.std.proofs.lemmas.Bool.Decides.{eqb_tells}
use Rattle.std.proofs.lemmas.Int.{ints}
use Rattle.std.specs.List.{find, list_any, AllByRecursion}
use Rattle.loop_script.specs.declared.source.Kind.{Kind}
use Rattle.loop_script.specs.declared.source.Kind.TheVariants.{Idle, Timeout, ReadyTime, Fd, Cancel}
use Rattle.source_rows.specs.Tree.{IsOneTree, IsForest, IdsRise}
use Rattle.source_rows.proofs.Lists.{all_of}
use Rattle.source_rows.proofs.Order.{all_in_order, sorted_in_order}
use Rattle.source_rows.proofs.Band.{any_in_order}
use Rattle.source_rows.proofs.Forest.{InForest, members}
use Rattle.context_core.specs.declared.interest.Shown.{Shown}
use Rattle.context_core.specs.declared.standing.Standing.TheVariants.{Selected, LessUrgent, NotShown}
use Rattle.context_core.specs.Phases.{is_asked, asked_rows, levels_for, shown, handed, is_fd, fd_of}
use Rattle.context_core.proofs.Cutoff.{ShownAs, handed_is, each_ready, if_passes, all_of_order, any_same, urgent_by}
use Rattle.context_core.proofs.Found.{find_or, found_in}
use Rattle.context_core.proofs.Called.{first_least, found_some, some_of_order, has_passed, all_passed, none_found, called_ready}
use Rattle.source_rows.specs.declared.row.Row.{Row}
use Rattle.source_rows.specs.Rows.{in_order, row_of}
use Rattle.context_core.specs.declared.standing.Standing.{Standing}
use Rattle.context_core.specs.Ready.{Own, kind_ready, is_due, own_ready, is_callable, is_free, is_ready, is_blocked, ready_rows, is_most_urgent, selected}
use Rattle.context_core.specs.Standing.{is_in_call, blocker, until_of, waiting_kind, first_ready, first_with, standing_behind, standing_by, standing, is_held, is_selected, is_among, IsAhead, IsTold}

-- a row, else what comes later
abbrev pub else_later : Option Row → Option Row → Option Row
else_later (Some q) o = Some q
else_later None o = o

first_on : (first : Option Row) (v : Bool) (r : Row) (o : Option Row) → else_later first (cond v (Some r) o) ≡ else_later (first_with first v r) o
first_on (Some q) v r o = refl
first_on None true r o = refl
first_on None false r o = refl

stand_on : (level : ℕ → ℕ) (b : Option ℕ) (first : Option Row) (v : Bool) (r : Row) (o : Option Row) → standing_by level b v (first_with first v r) r ≡ standing_by level b v (else_later first (cond v (Some r) o)) r
stand_on level (Some by) first v r o = refl
stand_on level None (Some q) true r o = refl
stand_on level None None true r o = refl
stand_on level None first false r o = refl

-- one more row is told
pub told_more : (level : ℕ → ℕ) (cancelled : ℕ → Bool) (now : ℕ) (busy : List ℕ) (rows it rest : List Row) (r : Row) (first next : Option Row) (ready : Bool) (list more : List Standing)
    → it ≡ r ∷ rest → is_ready (own_ready level cancelled now) busy rows r ≡ ready → next ≡ first_with first ready r
    → more ≡ list ++ standing_by level (blocker busy r) ready next r ∷ []
    → first_ready (own_ready level cancelled now) busy rows ≡ else_later first (find (is_ready (own_ready level cancelled now) busy rows) it)
    → list ++ map (standing level cancelled now busy rows) it ≡ map (standing level cancelled now busy rows) (in_order rows)
    → (first_ready (own_ready level cancelled now) busy rows ≡ else_later next (find (is_ready (own_ready level cancelled now) busy rows) rest))
    × (more ++ map (standing level cancelled now busy rows) rest ≡ map (standing level cancelled now busy rows) (in_order rows))
told_more level cancelled now busy rows it rest r first next ready list more e k n m f l =
    let own = own_ready level cancelled now in
    let o : Option Row = find (is_ready own busy rows) rest in
    let tell : Row → Standing = standing level cancelled now busy rows in
    let here : first_ready own busy rows ≡ else_later first (cond ready (Some r) o) = f ∙ (ap (λ (xs : List Row). else_later first (find (is_ready own busy rows) xs)) e ∙ ap (λ (b : Bool). else_later first (cond b (Some r) o)) k) in
    let one : standing_by level (blocker busy r) ready next r ≡ tell r =
    ap (λ (x : Option Row). standing_by level (blocker busy r) ready x r) n
    ∙ (stand_on level (blocker busy r) first ready r o
    ∙ (ap (λ (x : Option Row). standing_by level (blocker busy r) ready x r) (sym here)
    ∙ ap (λ (b : Bool). standing_by level (blocker busy r) b (first_ready own busy rows) r) (sym k))) in (
      here ∙ (first_on first ready r o ∙ ap (λ (x : Option Row). else_later x o) (sym n)),
      ap (λ (xs : List Standing). xs ++ map tell rest) m
          ∙ (append_assoc list (standing_by level (blocker busy r) ready next r ∷ []) (map tell rest)
          ∙ (ap (λ (s : Standing). list ++ s ∷ map tell rest) one
          ∙ (ap (λ (xs : List Row). list ++ map tell xs) (sym e) ∙ l))),
    )

-- ---- what blocks a row

any_reversed : {A : Type 0} (f : A → Bool) (xs : List A) → list_any f (reverse xs) ≡ list_any f xs
any_reversed f xs = sym (list_any-IsPermutation f xs (reverse xs) (IsPermutation-reverse xs))

pub blocker_is : (busy : List ℕ) (r : Row) → is_some (blocker busy r) ≡ is_blocked busy r
blocker_is busy r = find_or (is_in_call busy) (reverse r.lineage) ∙ any_reversed (is_in_call busy) r.lineage

standing_behind_not : (first : Option Row) (r : Row) → is_held (standing_behind first r) ≡ false
standing_behind_not None r = refl
standing_behind_not (Some q) r = by_one (int_lt q.priority r.priority)
  where
    by_one : (b : Bool) → is_held (cond b (LessUrgent q.id q.priority) Selected) ≡ false
    by_one true = refl
    by_one false = refl

waiting_not : (level : ℕ → ℕ) (until : Option ℕ) (k : Kind) → is_held (waiting_kind level until k) ≡ false
waiting_not level until Idle = refl
waiting_not level until (Timeout ms) = refl
waiting_not level until (ReadyTime us) = refl
waiting_not level until (Fd fd bits) = refl
waiting_not level until (Cancel c) = refl

blocked_by : (level : ℕ → ℕ) (b : Option ℕ) (ready : Bool) (first : Option Row) (r : Row) → is_held (standing_by level b ready first r) ≡ is_some b
blocked_by level (Some by) ready first r = refl
blocked_by level None true first r = standing_behind_not first r
blocked_by level None false first r = waiting_not level (until_of r.ready) r.kind

-- Blocked exactly where a call in progress blocks
pub blocked_exactly : (level : ℕ → ℕ) (cancelled : ℕ → Bool) (now : ℕ) (busy : List ℕ) (rows qs : List Row) → AllByRecursion (λ r. is_held (standing level cancelled now busy rows r) ≡ is_blocked busy r) qs
blocked_exactly level cancelled now busy rows [] = tt
blocked_exactly level cancelled now busy rows (r ∷ qs) = (
  blocked_by level (blocker busy r) (is_ready (own_ready level cancelled now) busy rows r) (first_ready (own_ready level cancelled now) busy rows) r ∙ blocker_is busy r,
  blocked_exactly level cancelled now busy rows qs,
)

-- ---- what is selected

-- whether the row of an id passes a test, by all rows
none_later : (h : Row → Bool) (id : ℕ) (qs : List Row) → AllByRecursion (λ q. id < q.id) qs → list_any (λ q. h q && (q.id == id)) qs ≡ false
none_later h id [] a = refl
none_later h id (q ∷ qs) a = by_one (none_later h id qs a.1) (q.id == id) refl (h q)
  where
    by_one : list_any (λ q. h q && (q.id == id)) qs ≡ false → (b : Bool) → (q.id == id) ≡ b → (v : Bool) → ((v && (q.id == id)) || list_any (λ q. h q && (q.id == id)) qs) ≡ false
    by_one ih true e v = elim (eqb_tells q.id id) [ inl t ↦ absurd (omega (arith, a.0, t.1)) | inr f ↦ let never = sym e ∙ f.0 in cc ]
    by_one ih false e true = rw e ih
    by_one ih false e false = ih

one_row : (h : Row → Bool) (id : ℕ) (r : Row) (rows : List Row) → IdsRise rows → row_of id rows ≡ Some r → list_any (λ q. h q && (q.id == id)) rows ≡ h r
one_row h id r [] rise e = let no : None ≡ Some r = e in cc
one_row h id r (q ∷ qs) rise e = by_one (one_row h id r qs rise.1) (q.id == id) refl e
  where
    same_row : (a b : Row) → Some a ≡ Some b → a ≡ b
    same_row a b e = cc

    alone : (v : Bool) → ((v && true) || false) ≡ v
    alone true = refl
    alone false = refl

    no_more : (v : Bool) → (v && false) ≡ false
    no_more true = refl
    no_more false = refl

    by_one : (row_of id qs ≡ Some r → list_any (λ q. h q && (q.id == id)) qs ≡ h r) → (b : Bool) → (q.id == id) ≡ b → cond b (Some q) (row_of id qs) ≡ Some r → ((h q && (q.id == id)) || list_any (λ q. h q && (q.id == id)) qs) ≡ h r
    by_one ih true k f =
        let is : q.id ≡ id = elim (eqb_tells q.id id) [ inl t ↦ t.1 | inr g ↦ let never = sym k ∙ g.0 in cc ] in
        let none = none_later h id qs (subst (λ (i : ℕ). AllByRecursion (λ x. i < x.id) qs) is rise.0) in
        rw (k, none) (alone (h q) ∙ ap h (same_row q r f))
    by_one ih false k f = rw (k, no_more (h q)) (ih f)

any_passed : (f p : Row → Bool) (rows : List Row) → list_any f (filter p rows) ≡ list_any (λ q. p q && f q) rows
any_passed f p [] = refl
any_passed f p (r ∷ rows) = by_one (p r) (any_passed f p rows)
  where
    by_one : (b : Bool) → list_any f (filter p rows) ≡ list_any (λ q. p q && f q) rows → list_any f (cond b (r ∷ filter p rows) (filter p rows)) ≡ ((b && f r) || list_any (λ q. p q && f q) rows)
    by_one true h = ap (λ (b : Bool). f r || b) h
    by_one false h = h

any_mapped : (id : ℕ) (rows : List Row) → list_any (λ i. i == id) (map (λ (q : Row). q.id) rows) ≡ list_any (λ (q : Row). q.id == id) rows
any_mapped id [] = refl
any_mapped id (r ∷ rows) = ap (λ (b : Bool). (r.id == id) || b) (any_mapped id rows)

and_across : (a b c : Bool) → (a && (b && c)) ≡ ((a && b) && c)
and_across true b c = refl
and_across false b c = refl

-- a row is selected where it is ready and no ready one is more urgent
pub among : (own : Own) (busy : List ℕ) (rows : List Row) (r : Row) → IdsRise rows → row_of r.id rows ≡ Some r
    → is_among (selected own busy rows) r.id ≡ (is_ready own busy rows r && is_most_urgent (ready_rows own busy rows) r)
among own busy rows r rise is =
    let ready : Row → Bool = is_ready own busy rows in
    let urgent : Row → Bool = is_most_urgent (ready_rows own busy rows) in
    let named : Row → Bool = λ q. q.id == r.id in
    any_mapped r.id (in_order (filter urgent (ready_rows own busy rows)))
    ∙ (any_in_order named (filter urgent (ready_rows own busy rows))
    ∙ (any_passed named urgent (ready_rows own busy rows)
    ∙ (any_passed (λ q. urgent q && named q) ready rows
    ∙ (any_same (λ q. ready q && (urgent q && named q)) (λ q. (ready q && urgent q) && named q) rows (each_across rows)
    ∙ one_row (λ q. ready q && urgent q) r.id r rows rise is))))
  where
    each_across : (qs : List Row) → AllByRecursion (λ q. (is_ready own busy rows q && (is_most_urgent (ready_rows own busy rows) q && (q.id == r.id))) ≡ ((is_ready own busy rows q && is_most_urgent (ready_rows own busy rows) q) && (q.id == r.id))) qs
    each_across [] = tt
    each_across (q ∷ qs) = (and_across (is_ready own busy rows q) (is_most_urgent (ready_rows own busy rows) q) (q.id == r.id), each_across qs)

selected_if : (q r : Row) (b : Bool) → is_selected (cond b (LessUrgent q.id q.priority) Selected) ≡ not b
selected_if q r true = refl
selected_if q r false = refl

-- a ready row, behind the ready one that goes first
behind_first : (own : Own) (busy : List ℕ) (rows : List Row) (r : Row) (o : Option Row) → first_ready own busy rows ≡ o → is_ready own busy rows r ≡ true → (o ≡ None → is_ready own busy rows r ≡ false)
    → is_selected (standing_behind o r) ≡ is_most_urgent (ready_rows own busy rows) r
behind_first own busy rows r None e k none = let no = sym k ∙ none refl in cc
behind_first own busy rows r (Some q) e k none =
    let ready : Row → Bool = is_ready own busy rows in
    let below = all_of_order (λ z. ready z ≡ true → int_lt z.priority q.priority ≡ false) rows (first_least ready q (in_order rows) (sorted_in_order rows) e) in
    let has = has_passed ready q.priority rows (some_of_order ready q.priority rows (found_some ready q (in_order rows) e)) in
    selected_if q r (int_lt q.priority r.priority)
    ∙ sym (urgent_by q.priority r (ready_rows own busy rows) (int_lt q.priority r.priority) refl (all_passed ready (λ z. int_lt z.priority q.priority ≡ false) rows below) has)

waiting_never : (level : ℕ → ℕ) (until : Option ℕ) (k : Kind) → is_selected (waiting_kind level until k) ≡ false
waiting_never level until Idle = refl
waiting_never level until (Timeout ms) = refl
waiting_never level until (ReadyTime us) = refl
waiting_never level until (Fd fd bits) = refl
waiting_never level until (Cancel c) = refl

not_ready : (own : Own) (busy : List ℕ) (rows : List Row) (r : Row) → is_blocked busy r ≡ true → is_ready own busy rows r ≡ false
not_ready own busy rows r e = rw e refl

selected_by : (level : ℕ → ℕ) (b : Option ℕ) (v w : Bool) (first : Option Row) (r : Row) → (is_some b ≡ true → v ≡ false) → (v ≡ true → is_selected (standing_behind first r) ≡ w) → is_selected (standing_by level b v first r) ≡ (v && w)
selected_by level (Some by) true w first r h k = let no = h refl in cc
selected_by level (Some by) false w first r h k = refl
selected_by level None true w first r h k = k refl
selected_by level None false w first r h k = waiting_never level (until_of r.ready) r.kind

each_selected : (level : ℕ → ℕ) (cancelled : ℕ → Bool) (now : ℕ) (busy : List ℕ) (rows qs : List Row) → IdsRise rows → AllByRecursion (λ r. row_of r.id rows ≡ Some r) qs
    → (first_ready (own_ready level cancelled now) busy rows ≡ None → AllByRecursion (λ r. is_ready (own_ready level cancelled now) busy rows r ≡ false) qs)
    → AllByRecursion (λ r. is_selected (standing level cancelled now busy rows r) ≡ is_among (selected (own_ready level cancelled now) busy rows) r.id) qs
each_selected level cancelled now busy rows [] rise is none = tt
each_selected level cancelled now busy rows (r ∷ qs) rise is none =
    let own = own_ready level cancelled now in (
      selected_by level (blocker busy r) (is_ready own busy rows r) (is_most_urgent (ready_rows own busy rows) r) (first_ready own busy rows) r
          (λ b. not_ready own busy rows r (sym (blocker_is busy r) ∙ b))
          (λ k. behind_first own busy rows r (first_ready own busy rows) refl k (λ e. (none e).0))
          ∙ sym (among own busy rows r rise is.0),
      each_selected level cancelled now busy rows qs rise is.1 (λ e. (none e).1),
    )

-- Selected exactly for what an iteration would dispatch
pub selected_exactly : (level : ℕ → ℕ) (cancelled : ℕ → Bool) (now : ℕ) (busy : List ℕ) (rows : List Row) → IsForest rows
    → AllByRecursion (λ r. is_selected (standing level cancelled now busy rows r) ≡ is_among (selected (own_ready level cancelled now) busy rows) r.id) rows
selected_exactly level cancelled now busy rows forest =
    each_selected level cancelled now busy rows rows forest.rising (all_of (InForest rows) (λ r. row_of r.id rows ≡ Some r) (λ r f. f.is) rows (members rows forest))
    (λ e. all_of_order (λ r. is_ready (own_ready level cancelled now) busy rows r ≡ false) rows (none_found (is_ready (own_ready level cancelled now) busy rows) (in_order rows) e))

-- ---- the levels handed in are enough

waits_same : (f g : ℕ → ℕ) (until : Option ℕ) (k : Kind) → (is_fd k ≡ true → f (fd_of k) ≡ g (fd_of k)) → waiting_kind f until k ≡ waiting_kind g until k
waits_same f g until Idle h = refl
waits_same f g until (Timeout ms) h = refl
waits_same f g until (ReadyTime us) h = refl
waits_same f g until (Fd fd bits) h = ap (λ (l : ℕ). NotShown fd l bits until) (h refl)
waits_same f g until (Cancel c) h = refl

stand_same : (f g : ℕ → ℕ) (b : Option ℕ) (ready : Bool) (first : Option Row) (r : Row) → (b ≡ None → is_fd r.kind ≡ true → f (fd_of r.kind) ≡ g (fd_of r.kind)) → standing_by f b ready first r ≡ standing_by g b ready first r
stand_same f g (Some by) ready first r h = refl
stand_same f g None true first r h = refl
stand_same f g None false first r h = waits_same f g (until_of r.ready) r.kind (h refl)

free_if : (busy : List ℕ) (r : Row) (o : Option ℕ) → blocker busy r ≡ o → o ≡ None → is_blocked busy r ≡ false
free_if busy r o e n = sym (blocker_is busy r) ∙ ap (λ (x : Option ℕ). is_some x) (e ∙ n)

asked_when : (d b : Bool) → d ≡ true → b ≡ false → (d && (not b && true)) ≡ true
asked_when d b u v = rw (u, v) refl

find_same : (p q : Row → Bool) (rows : List Row) → AllByRecursion (λ r. p r ≡ q r) rows → find p rows ≡ find q rows
find_same p q [] h = refl
find_same p q (r ∷ rows) h = rw h.0 (ap (λ (o : Option Row). cond (q r) (Some r) o) (find_same p q rows h.1))

each_same : (f g : ℕ → ℕ) (cancelled : ℕ → Bool) (now : ℕ) (busy : List ℕ) (rows qs : List Row)
    → first_ready (own_ready f cancelled now) busy rows ≡ first_ready (own_ready g cancelled now) busy rows
    → AllByRecursion (λ r. is_ready (own_ready f cancelled now) busy rows r ≡ is_ready (own_ready g cancelled now) busy rows r) qs
    → AllByRecursion (λ r. is_asked None busy r ≡ true → f (fd_of r.kind) ≡ g (fd_of r.kind)) qs
    → map (standing f cancelled now busy rows) qs ≡ map (standing g cancelled now busy rows) qs
each_same f g cancelled now busy rows [] first ready asked = refl
each_same f g cancelled now busy rows (r ∷ qs) first ready asked =
    let one : standing f cancelled now busy rows r ≡ standing g cancelled now busy rows r =
    ap (λ (b : Bool). standing_by f (blocker busy r) b (first_ready (own_ready f cancelled now) busy rows) r) ready.0
    ∙ (ap (λ (o : Option Row). standing_by f (blocker busy r) (is_ready (own_ready g cancelled now) busy rows r) o r) first
    ∙ stand_same f g (blocker busy r) (is_ready (own_ready g cancelled now) busy rows r) (first_ready (own_ready g cancelled now) busy rows) r
    (λ n fd. asked.0 (asked_when (is_fd r.kind) (is_blocked busy r) fd (free_if busy r (blocker busy r) refl n)))) in
    ap (λ (s : Standing). s ∷ map (standing f cancelled now busy rows) qs) one
    ∙ ap (λ (xs : List Standing). standing g cancelled now busy rows r ∷ xs) (each_same f g cancelled now busy rows qs first ready.1 asked.1)

pub levels_enough : (level : ℕ → ℕ) (cancelled : ℕ → Bool) (now : ℕ) (busy : List ℕ) (rows : List Row) (levels : List ℕ) (list : List Shown) → IsOneTree rows
    → levels ≡ levels_for level (asked_rows None busy rows) → list ≡ handed (asked_rows None busy rows) levels
    → map (standing (shown list) cancelled now busy rows) (in_order rows) ≡ map (standing level cancelled now busy rows) (in_order rows)
levels_enough level cancelled now busy rows levels list tree l h =
    let asked : List Row = asked_rows None busy rows in
    let f : ℕ → ℕ = shown list in
    let is : list ≡ handed asked (levels_for level asked) = h ∙ ap (handed asked) l in
    let told : ShownAs level list asked = subst (λ (xs : List Shown). ShownAs level xs asked) (sym is) (handed_is level asked) in
    let ordered = if_passes (is_asked None busy) (λ q. f (fd_of q.kind) ≡ level (fd_of q.kind)) (in_order rows) told in
    let shows = all_of_order (λ q. is_asked None busy q ≡ true → f (fd_of q.kind) ≡ level (fd_of q.kind)) rows ordered in
    let within = each_ready f level now cancelled busy None rows rows tree shows in
    let ready = all_of (λ r. false ≡ false → is_ready (own_ready f cancelled now) busy rows r ≡ is_ready (own_ready level cancelled now) busy rows r) (λ r. is_ready (own_ready f cancelled now) busy rows r ≡ is_ready (own_ready level cancelled now) busy rows r) (λ r k. k refl) rows within in
    let later = all_in_order (λ r. is_ready (own_ready f cancelled now) busy rows r ≡ is_ready (own_ready level cancelled now) busy rows r) rows ready in
    each_same f level cancelled now busy rows (in_order rows) (find_same _ _ (in_order rows) later) later ordered

-- ---- rows of which each is looked at
pub all_kept : (rows : List Row) → filter (λ _. true) rows ≡ rows
all_kept [] = refl
all_kept (r ∷ rows) = ap (λ (xs : List Row). r ∷ xs) (all_kept rows)

pub each_kept : (f : Row → Bool) (rows : List Row) → AllByRecursion (λ q. f q ≡ true → true ≡ true) rows
each_kept f [] = tt
each_kept f (q ∷ rows) = (λ _. refl, each_kept f rows)

-- ---- what standings name

both_false : (a b : Bool) → (a || b) ≡ false → (a ≡ false) × (b ≡ false)
both_false false false e = (refl, refl)
both_false false true e = let no : true ≡ false = e in cc
both_false true b e = let no : true ≡ false = e in cc

same_found : (a b : Row) → Some a ≡ Some b → a ≡ b
same_found a b e = cc

row_by : (f : Row → Bool) (P : Row → Type 0) (y q : Row) (ys : List Row) (b : Bool) → f y ≡ b → P y → (find f ys ≡ Some q → (f q ≡ true) × P q) → cond b (Some y) (find f ys) ≡ Some q → (f q ≡ true) × P q
row_by f P y q ys true k p ih h = subst (λ (z : Row). (f z ≡ true) × P z) (same_found y q h) (k, p)
row_by f P y q ys false k p ih h = ih h

row_found : (f : Row → Bool) (P : Row → Type 0) (xs : List Row) (q : Row) → AllByRecursion P xs → find f xs ≡ Some q → (f q ≡ true) × P q
row_found f P [] q a e = let no : None ≡ Some q = e in cc
row_found f P (y ∷ ys) q a e = row_by f P y q ys (f y) refl a.0 (row_found f P ys q a.1) e

ahead : (now : ℕ) (z : ℤ) → is_due now z ≡ false → IsAhead now (until_of z)
ahead now (pos t) e = let goal : now < t = grind (arith, ints) in goal
ahead now (negsuc n) e = tt

told_kind : (level : ℕ → ℕ) (cancelled : ℕ → Bool) (now : ℕ) (busy : List ℕ) (rows : List Row) (r : Row) (k : Kind) → r.kind ≡ k → kind_ready level cancelled k ≡ false → is_due now r.ready ≡ false
    → IsTold level cancelled now busy rows r (waiting_kind level (until_of r.ready) k)
told_kind level cancelled now busy rows r Idle e h d = let no : true ≡ false = h in cc
told_kind level cancelled now busy rows r (Timeout ms) e h d = (refl, ahead now r.ready d)
told_kind level cancelled now busy rows r (ReadyTime us) e h d = (refl, ahead now r.ready d)
told_kind level cancelled now busy rows r (Fd fd bits) e h d = (e, refl, h, refl, ahead now r.ready d)
told_kind level cancelled now busy rows r (Cancel c) e h d = (e, h, refl, ahead now r.ready d)

own_false : (free own ready : Bool) → free ≡ true → ready ≡ false → ((free && own) ≡ true → ready ≡ true) → own ≡ false
own_false free false ready f r h = refl
own_false free true ready f r h = let b : (free && true) ≡ true = rw f refl in let no = sym r ∙ h b in cc

lesser : (level : ℕ → ℕ) (cancelled : ℕ → Bool) (now : ℕ) (busy : List ℕ) (rows : List Row) (r q : Row) → is_ready (own_ready level cancelled now) busy rows r ≡ true → row_of q.id rows ≡ Some q
    → is_among (selected (own_ready level cancelled now) busy rows) q.id ≡ true → (b : Bool) → int_lt q.priority r.priority ≡ b → IsTold level cancelled now busy rows r (cond b (LessUrgent q.id q.priority) Selected)
lesser level cancelled now busy rows r q ready is among true e = (q, is, refl, e, among)
lesser level cancelled now busy rows r q ready is among false e = ready

never_below : (m : ℤ) → int_lt m m ≡ false
never_below m = grind (arith, ints)

first_among : (own : Own) (busy : List ℕ) (rows : List Row) (q : Row) → IdsRise rows → first_ready own busy rows ≡ Some q → (is_ready own busy rows q ≡ true) × (row_of q.id rows ≡ Some q) → is_among (selected own busy rows) q.id ≡ true
first_among own busy rows q rise e t =
    let urgent : is_most_urgent (ready_rows own busy rows) q ≡ true =
    sym (behind_first own busy rows q (Some q) e t.0 (λ n. let no : Some q ≡ None = n in cc)) ∙ ap (λ (b : Bool). is_selected (cond b (LessUrgent q.id q.priority) Selected)) (never_below q.priority) in
    among own busy rows q rise t.1 ∙ (ap (λ (b : Bool). b && is_most_urgent (ready_rows own busy rows) q) t.0 ∙ urgent)

told_by : (level : ℕ → ℕ) (cancelled : ℕ → Bool) (now : ℕ) (busy : List ℕ) (rows : List Row) (r : Row) → IdsRise rows → AllByRecursion (λ q. row_of q.id rows ≡ Some q) (in_order rows)
    → (is_callable (own_ready level cancelled now) busy r ≡ true → is_ready (own_ready level cancelled now) busy rows r ≡ true)
    → (b : Option ℕ) → blocker busy r ≡ b → (v : Bool) → is_ready (own_ready level cancelled now) busy rows r ≡ v → (o : Option Row) → first_ready (own_ready level cancelled now) busy rows ≡ o
    → IsTold level cancelled now busy rows r (standing_by level b v o r)
told_by level cancelled now busy rows r rise all calls (Some by) e v k o f =
    let t = found_in (is_in_call busy) (reverse r.lineage) by e in (sym (any_reversed (λ (i : ℕ). i == by) r.lineage) ∙ t.1, t.0)
told_by level cancelled now busy rows r rise all calls None e true k None f = k
told_by level cancelled now busy rows r rise all calls None e true k (Some q) f =
    let own = own_ready level cancelled now in
    let t = row_found (is_ready own busy rows) (λ x. row_of x.id rows ≡ Some x) (in_order rows) q all f in
    lesser level cancelled now busy rows r q k t.1 (first_among own busy rows q rise f t) (int_lt q.priority r.priority) refl
told_by level cancelled now busy rows r rise all calls None e false k o f =
    let own = own_ready level cancelled now in
    let free : is_free busy r ≡ true = ap (λ (b : Bool). not b) (free_if busy r (blocker busy r) refl e) in
    let no = both_false (kind_ready level cancelled r.kind) (is_due now r.ready) (own_false (is_free busy r) (own r) (is_ready own busy rows r) free k calls) in
    told_kind level cancelled now busy rows r r.kind refl no.0 no.1

each_told : (level : ℕ → ℕ) (cancelled : ℕ → Bool) (now : ℕ) (busy : List ℕ) (rows qs : List Row) → IdsRise rows → AllByRecursion (λ q. row_of q.id rows ≡ Some q) (in_order rows)
    → AllByRecursion (λ r. is_callable (own_ready level cancelled now) busy r ≡ true → is_ready (own_ready level cancelled now) busy rows r ≡ true) qs
    → AllByRecursion (λ r. IsTold level cancelled now busy rows r (standing level cancelled now busy rows r)) qs
each_told level cancelled now busy rows [] rise all calls = tt
each_told level cancelled now busy rows (r ∷ qs) rise all calls = (
  told_by level cancelled now busy rows r rise all calls.0 (blocker busy r) refl (is_ready (own_ready level cancelled now) busy rows r) refl (first_ready (own_ready level cancelled now) busy rows) refl,
  each_told level cancelled now busy rows qs rise all calls.1,
)

-- what standings name is so
pub names_so : (level : ℕ → ℕ) (cancelled : ℕ → Bool) (now : ℕ) (busy : List ℕ) (rows : List Row) → IsForest rows
    → AllByRecursion (λ r. IsTold level cancelled now busy rows r (standing level cancelled now busy rows r)) rows
names_so level cancelled now busy rows forest =
    let is = all_of (InForest rows) (λ r. row_of r.id rows ≡ Some r) (λ r f. f.is) rows (members rows forest) in
    each_told level cancelled now busy rows rows forest.rising (all_in_order (λ r. row_of r.id rows ≡ Some r) rows is) (called_ready (own_ready level cancelled now) busy rows forest)
