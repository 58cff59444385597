-- What a check finds is what is selected, though only some descriptors are asked.
use Rattle.std.proofs.Common.{◌≡◌, ℕ, Bool, true, false, cond, ◌&&◌, ◌||◌, not, ◌==◌, ℤ, Option, Some, None, List, [], ◌∷◌, ◌⊎◌, inl, inr, map, filter, refl, ap, sym, ◌∙◌, arith, subst}
use Rattle.std.proofs.lemmas.Int.{ints}
use Rattle.std.proofs.lemmas.Bool.Decides.{eqb_tells}
use Rattle.std.specs.Prelude.{int_le, int_lt, bit_or}
use Rattle.source_rows.specs.Slots.{asks}
use Rattle.std.specs.List.{AllByRecursion, find, list_any, list_all}
use Rattle.loop_script.specs.declared.source.Kind.{Kind}
use Rattle.loop_script.specs.declared.source.Kind.TheVariants.{Idle, Timeout, ReadyTime, Fd, Cancel}
use Rattle.source_rows.specs.declared.row.Row.{Row}
use Rattle.source_rows.specs.Rows.{in_order, placed, stands_before, is_under}
use Rattle.source_rows.proofs.Order.{in_order-filter, sorted_in_order, all_in_order}
use Rattle.std.specs.Int.Bits.{and_zero_l}
use Rattle.source_rows.specs.Tree.{IsOneTree}
use Rattle.context_core.proofs.Found.{or_right}
use Rattle.context_core.specs.declared.interest.Shown.{Shown}
use Rattle.context_core.specs.Ready.{own_ready, kind_ready, is_due, always_told, has_bit, is_blocked, is_callable, is_ready, is_most_urgent, selected}
use Rattle.context_core.specs.Phases.{least_of, less_urgent, nothing_shown, least_ready, is_asked, is_fd, fd_of, asked_rows, levels_for, level_of, shown, handed, walk}
use Rattle.context_core.proofs.Walk.{walked, upto, id_of, SomeAt}

-- ---- the least priority of a list

abbrev pub HasAt : ℤ → List Row → Type 0
HasAt m [] = ⊥
HasAt m (r ∷ rs) = (r.priority ≡ m) ⊎ HasAt m rs

abbrev least_by : Option ℤ → ℤ → Option ℤ
least_by o p = cond (less_urgent o p) o (Some p)

some_same : (a b : ℤ) → Some a ≡ Some b → a ≡ b
some_same a b e = cc

has_by : (o : Option ℤ) (r : Row) (rs : List Row) (m : ℤ) (b : Bool) → (o ≡ Some m → HasAt m rs) → cond b o (Some r.priority) ≡ Some m → HasAt m (r ∷ rs)
has_by o r rs m true ih e = inr (ih e)
has_by o r rs m false ih e = inl (some_same r.priority m e)

pub least_has : (xs : List Row) (m : ℤ) → least_of xs ≡ Some m → HasAt m xs
least_has [] m e = let no : None ≡ Some m = e in cc
least_has (r ∷ rs) m e = has_by (least_of rs) r rs m (less_urgent (least_of rs) r.priority) (least_has rs m) e

none_by : (o : Option ℤ) (p : ℤ) → least_by o p ≡ None → ⊥
none_by None p e = let no : Some p ≡ None = e in cc
none_by (Some n) p e = none_at (int_lt n p) e
  where
    none_at : (b : Bool) → cond b (Some n) (Some p) ≡ None → ⊥
    none_at true e = cc
    none_at false e = cc

pub least_none : (xs : List Row) → least_of xs ≡ None → xs ≡ []
least_none [] e = refl
least_none (r ∷ rs) e = absurd (none_by (least_of rs) r.priority e)

all_above : (n p : ℤ) (rs : List Row) → int_lt n p ≡ false → AllByRecursion (λ q. int_lt q.priority n ≡ false) rs → AllByRecursion (λ q. int_lt q.priority p ≡ false) rs
all_above n p [] h k = tt
all_above n p (q ∷ rs) h k = let e = k.0 in (grind (arith, ints), all_above n p rs h k.1)

above_at : (n : ℤ) (r : Row) (rs : List Row) (m : ℤ) (b : Bool) → int_lt n r.priority ≡ b → AllByRecursion (λ q. int_lt q.priority n ≡ false) rs → cond b (Some n) (Some r.priority) ≡ Some m → AllByRecursion (λ q. int_lt q.priority m ≡ false) (r ∷ rs)
above_at n r rs m true f k e = let s = some_same n m e in (grind (arith, ints), subst (λ (x : ℤ). AllByRecursion (λ q. int_lt q.priority x ≡ false) rs) s k)
above_at n r rs m false f k e = let s = some_same r.priority m e in (grind (arith, ints), subst (λ (x : ℤ). AllByRecursion (λ q. int_lt q.priority x ≡ false) rs) s (all_above n r.priority rs f k))

above_by : (o : Option ℤ) (r : Row) (rs : List Row) (m : ℤ) → (o ≡ None → rs ≡ []) → ((n : ℤ) → o ≡ Some n → AllByRecursion (λ q. int_lt q.priority n ≡ false) rs) → least_by o r.priority ≡ Some m → AllByRecursion (λ q. int_lt q.priority m ≡ false) (r ∷ rs)
above_by None r rs m none some e = let s = some_same r.priority m e in (grind (arith, ints), subst (AllByRecursion (λ q. int_lt q.priority m ≡ false)) (sym (none refl)) tt)
above_by (Some n) r rs m none some e = above_at n r rs m (int_lt n r.priority) refl (some n refl) e

pub least_above : (xs : List Row) (m : ℤ) → least_of xs ≡ Some m → AllByRecursion (λ q. int_lt q.priority m ≡ false) xs
least_above [] m e = tt
least_above (r ∷ rs) m e = above_by (least_of rs) r rs m (least_none rs) (λ n f. least_above rs n f) e

-- ---- what is most urgent

all_le : (m : ℤ) (r : Row) (xs : List Row) → int_lt m r.priority ≡ false → AllByRecursion (λ q. int_lt q.priority m ≡ false) xs → list_all (λ q. int_le r.priority q.priority) xs ≡ true
all_le m r [] h k = refl
all_le m r (q ∷ xs) h k =
    let e = k.0 in
    let f : int_le r.priority q.priority ≡ true = grind (arith, ints) in
    rw f (all_le m r xs h k.1)

and_false : (b : Bool) → (b && false) ≡ false
and_false true = refl
and_false false = refl

some_gt : (m : ℤ) (r : Row) (xs : List Row) → int_lt m r.priority ≡ true → HasAt m xs → list_all (λ q. int_le r.priority q.priority) xs ≡ false
some_gt m r [] h e = absurd e
some_gt m r (q ∷ xs) h (inl e) =
    let f : int_le r.priority q.priority ≡ false = grind (arith, ints) in
    rw f refl
some_gt m r (q ∷ xs) h (inr e) = rw (some_gt m r xs h e) (and_false (int_le r.priority q.priority))

pub urgent_by : (m : ℤ) (r : Row) (xs : List Row) (b : Bool) → int_lt m r.priority ≡ b → AllByRecursion (λ q. int_lt q.priority m ≡ false) xs → HasAt m xs → list_all (λ q. int_le r.priority q.priority) xs ≡ not b
urgent_by m r xs true e k has = some_gt m r xs e has
urgent_by m r xs false e k has = all_le m r xs e k

fused : (p q : Row → Bool) (rows : List Row) → filter q (filter p rows) ≡ filter (λ r. q r && p r) rows
fused p q [] = refl
fused p q (r ∷ rows) = fused_at p q r rows (p r) (q r) (fused p q rows)
  where
    fused_at : (p q : Row → Bool) (r : Row) (rows : List Row) (u v : Bool) → filter q (filter p rows) ≡ filter (λ r. q r && p r) rows → filter q (cond (p r) (r ∷ filter p rows) (filter p rows)) ≡ cond (q r && p r) (r ∷ filter (λ r. q r && p r) rows) (filter (λ r. q r && p r) rows)
    fused_at p q r rows u v ih = two (p r) (q r) refl
      where
        two : (u v : Bool) → q r ≡ v → filter q (cond u (r ∷ filter p rows) (filter p rows)) ≡ cond (v && u) (r ∷ filter (λ r. q r && p r) rows) (filter (λ r. q r && p r) rows)
        two true true e = rw e (ap (λ (zs : List Row). r ∷ zs) ih)
        two true false e = rw e ih
        two false true e = ih
        two false false e = ih

agree : (p q : Row → Bool) (rows : List Row) → ((r : Row) → p r ≡ q r) → filter p rows ≡ filter q rows
agree p q [] h = refl
agree p q (r ∷ rows) h = rw (h r) (ap (λ (xs : List Row). cond (q r) (r ∷ xs) xs) (agree p q rows h))

-- what is selected, by the least ready priority
pub selected_at : (ready : Row → Bool) (rows : List Row) (m : ℤ) → least_of (filter ready rows) ≡ Some m
    → in_order (filter (is_most_urgent (filter ready rows)) (filter ready rows)) ≡ filter (λ q. upto m q && ready q) (in_order rows)
selected_at ready rows m e =
    let k = least_above (filter ready rows) m e in
    let has = least_has (filter ready rows) m e in
    ap in_order (agree (is_most_urgent (filter ready rows)) (upto m) (filter ready rows) (λ r. urgent_by m r (filter ready rows) (int_lt m r.priority) refl k has) ∙ fused ready (upto m) rows)
    ∙ sym (in_order-filter (λ q. upto m q && ready q) rows)

-- ---- from the ready rows to all rows

some_by : (ready : Row → Bool) (m : ℤ) (r : Row) (rows : List Row) (b : Bool) → ready r ≡ b → (HasAt m (filter ready rows) → SomeAt ready m rows) → HasAt m (cond b (r ∷ filter ready rows) (filter ready rows)) → SomeAt ready m (r ∷ rows)
some_by ready m r rows true e ih (inl h) = inl (e, h)
some_by ready m r rows true e ih (inr h) = inr (ih h)
some_by ready m r rows false e ih h = inr (ih h)

pub some_ready : (ready : Row → Bool) (m : ℤ) (rows : List Row) → HasAt m (filter ready rows) → SomeAt ready m rows
some_ready ready m [] h = h
some_ready ready m (r ∷ rows) h = some_by ready m r rows (ready r) refl (some_ready ready m rows) h

ready_by : (ready : Row → Bool) (P : Row → Type 0) (r : Row) (xs : List Row) (b : Bool) → ready r ≡ b → AllByRecursion P (cond b (r ∷ xs) xs) → (ready r ≡ true → P r) × AllByRecursion P xs
ready_by ready P r xs true e h = (λ t. h.0, h.1)
ready_by ready P r xs false e h = ((λ t. let never = sym e ∙ t in cc), h)

-- what holds of all that pass a test
pub if_passes : (ready : Row → Bool) (P : Row → Type 0) (rows : List Row) → AllByRecursion P (filter ready rows) → AllByRecursion (λ r. ready r ≡ true → P r) rows
if_passes ready P [] h = tt
if_passes ready P (r ∷ rows) h = let two = ready_by ready P r (filter ready rows) (ready r) refl h in (two.0, if_passes ready P rows two.1)

-- ---- from rows to rows in order, and back

some_placed_by : (ready : Row → Bool) (m : ℤ) (r q : Row) (qs : List Row) (b : Bool) → (SomeAt ready m (r ∷ qs) → SomeAt ready m (placed r qs)) → SomeAt ready m (r ∷ q ∷ qs) → SomeAt ready m (cond b (r ∷ q ∷ qs) (q ∷ placed r qs))
some_placed_by ready m r q qs true ih h = h
some_placed_by ready m r q qs false ih (inl h) = inr (ih (inl h))
some_placed_by ready m r q qs false ih (inr (inl h)) = inl h
some_placed_by ready m r q qs false ih (inr (inr h)) = inr (ih (inr h))

some_placed : (ready : Row → Bool) (m : ℤ) (r : Row) (qs : List Row) → SomeAt ready m (r ∷ qs) → SomeAt ready m (placed r qs)
some_placed ready m r [] h = h
some_placed ready m r (q ∷ qs) h = some_placed_by ready m r q qs (stands_before r q) (some_placed ready m r qs) h

pub some_in_order : (ready : Row → Bool) (m : ℤ) (rows : List Row) → SomeAt ready m rows → SomeAt ready m (in_order rows)
some_in_order ready m [] h = h
some_in_order ready m (r ∷ rows) (inl h) = some_placed ready m r (in_order rows) (inl h)
some_in_order ready m (r ∷ rows) (inr h) = some_placed ready m r (in_order rows) (inr (some_in_order ready m rows h))

all_of_placed_by : (P : Row → Type 0) (r q : Row) (qs : List Row) (b : Bool) → (AllByRecursion P (placed r qs) → AllByRecursion P (r ∷ qs)) → AllByRecursion P (cond b (r ∷ q ∷ qs) (q ∷ placed r qs)) → AllByRecursion P (r ∷ q ∷ qs)
all_of_placed_by P r q qs true ih h = h
all_of_placed_by P r q qs false ih h = let t = ih h.1 in (t.0, (h.0, t.1))

all_of_placed : (P : Row → Type 0) (r : Row) (qs : List Row) → AllByRecursion P (placed r qs) → AllByRecursion P (r ∷ qs)
all_of_placed P r [] h = h
all_of_placed P r (q ∷ qs) h = all_of_placed_by P r q qs (stands_before r q) (all_of_placed P r qs) h

pub all_of_order : (P : Row → Type 0) (rows : List Row) → AllByRecursion P (in_order rows) → AllByRecursion P rows
all_of_order P [] h = tt
all_of_order P (r ∷ rows) h = let t = all_of_placed P r (in_order rows) h in (t.0, all_of_order P rows t.1)

-- a bound that the least ready priority, if any, is within
abbrev less_bound : Option ℤ → Option ℤ → Type 0
less_bound bound None = Unit {0}
less_bound bound (Some m) = less_urgent bound m ≡ false

none_ready_by : (ready : Row → Bool) (r : Row) (xs : List Row) (b : Bool) → ready r ≡ b → cond b (r ∷ xs) xs ≡ [] → (ready r ≡ false) × (xs ≡ [])
none_ready_by ready r xs true e h = cc
none_ready_by ready r xs false e h = (e, h)

pub none_ready : (ready : Row → Bool) (rows : List Row) → filter ready rows ≡ [] → AllByRecursion (λ r. ready r ≡ false) rows
none_ready ready [] h = tt
none_ready ready (r ∷ rows) h = let t = none_ready_by ready r (filter ready rows) (ready r) refl h in (t.0, none_ready ready rows t.1)

cut_off : (b : Bool) (xs : List ℕ) → xs ≡ [] → cond b [] xs ≡ []
cut_off true xs e = refl
cut_off false xs e = e

walk_none : (ready : Row → Bool) (bound : Option ℤ) (rs : List Row) → AllByRecursion (λ r. ready r ≡ false) rs → walk ready bound rs ≡ []
walk_none ready bound [] h = refl
walk_none ready bound (r ∷ rs) h = rw h.0 (cut_off (less_urgent bound r.priority) (walk ready bound rs) (walk_none ready bound rs h.1))

-- a walk up to a bound that the least ready priority is within finds what is selected
walk_finds_by : (ready : Row → Bool) (bound : Option ℤ) (rows : List Row) (o : Option ℤ) → least_of (filter ready rows) ≡ o → less_bound bound o
    → walk ready bound (in_order rows) ≡ map id_of (in_order (filter (is_most_urgent (filter ready rows)) (filter ready rows)))
walk_finds_by ready bound rows None e h =
    let nil = least_none (filter ready rows) e in
    walk_none ready bound (in_order rows) (all_in_order (λ r. ready r ≡ false) rows (none_ready ready rows nil))
    ∙ sym (ap (λ (xs : List Row). map id_of (in_order (filter (is_most_urgent xs) xs))) nil)
walk_finds_by ready bound rows (Some m) e h =
    walked ready m bound (in_order rows) (sorted_in_order rows)
    (all_in_order (λ r. ready r ≡ true → int_lt r.priority m ≡ false) rows (if_passes ready (λ r. int_lt r.priority m ≡ false) rows (least_above (filter ready rows) m e)))
    h (inr (some_in_order ready m rows (some_ready ready m rows (least_has (filter ready rows) m e))))
    ∙ ap (map id_of) (sym (selected_at ready rows m e))

walk_finds : (ready : Row → Bool) (bound : Option ℤ) (rows : List Row) → less_bound bound (least_of (filter ready rows))
    → walk ready bound (in_order rows) ≡ map id_of (in_order (filter (is_most_urgent (filter ready rows)) (filter ready rows)))
walk_finds ready bound rows h = walk_finds_by ready bound rows (least_of (filter ready rows)) refl h

-- ---- only what is within the bound is looked at

abbrev pub SameWithin : (f g : Row → Bool) → Option ℤ → List Row → Type 0
SameWithin f g bound rs = AllByRecursion (λ r. less_urgent bound r.priority ≡ false → f r ≡ g r) rs

closer : (bound : Option ℤ) (p q : ℤ) → less_urgent bound p ≡ false → int_lt p q ≡ false → less_urgent bound q ≡ false
closer None p q h k = refl
closer (Some b) p q h k = let h2 : int_lt b p ≡ false = h in let goal : int_lt b q ≡ false = grind (arith, ints) in goal

same_closer : (f g : Row → Bool) (bound : Option ℤ) (p : ℤ) (rs : List Row) → less_urgent bound p ≡ false → SameWithin f g bound rs → SameWithin f g (Some p) rs
same_closer f g bound p [] h s = tt
same_closer f g bound p (r ∷ rs) h s = (λ k. s.0 (closer bound p r.priority h k), same_closer f g bound p rs h s.1)

walk_same_by : (f g : Row → Bool) (bound : Option ℤ) (r : Row) (rs : List Row) → (less_urgent bound r.priority ≡ false → f r ≡ g r)
    → ((b : Option ℤ) → SameWithin f g b rs → walk f b rs ≡ walk g b rs) → SameWithin f g bound rs
    → (u v : Bool) → less_urgent bound r.priority ≡ u → f r ≡ v
    → cond u [] (cond v (r.id ∷ walk f (Some r.priority) rs) (walk f bound rs)) ≡ cond u [] (cond (g r) (r.id ∷ walk g (Some r.priority) rs) (walk g bound rs))
walk_same_by f g bound r rs h ih s true v e k = refl
walk_same_by f g bound r rs h ih s false true e k =
    let t : g r ≡ true = sym (h e) ∙ k in
    rw t (ap (λ (xs : List ℕ). r.id ∷ xs) (ih (Some r.priority) (same_closer f g bound r.priority rs e s)))
walk_same_by f g bound r rs h ih s false false e k =
    let t : g r ≡ false = sym (h e) ∙ k in
    rw t (ih bound s)

walk_same : (f g : Row → Bool) (bound : Option ℤ) (rs : List Row) → SameWithin f g bound rs → walk f bound rs ≡ walk g bound rs
walk_same f g bound [] s = refl
walk_same f g bound (r ∷ rs) s = walk_same_by f g bound r rs s.0 (λ b t. walk_same f g b rs t) s.1 (less_urgent bound r.priority) (f r) refl refl

-- ---- the levels handed in

handed_by : (level : ℕ → ℕ) (fd q : ℕ) (o : Option Shown) (b : Bool) → (fd == q) ≡ b → level_of o ≡ level q → level_of (cond b (Some (record { fd = fd; level = level fd })) o) ≡ level q
handed_by level fd q o true e k = elim (eqb_tells fd q) [ inl t ↦ ap level t.1 | inr f ↦ let never = sym e ∙ f.0 in cc ]
handed_by level fd q o false e k = k

abbrev pub ShownAs : (level : ℕ → ℕ) → List Shown → List Row → Type 0
ShownAs level list rows = AllByRecursion (λ q. shown list (fd_of q.kind) ≡ level (fd_of q.kind)) rows

handed_rest : (level : ℕ → ℕ) (fd : ℕ) (list : List Shown) (xs : List Row) → ShownAs level list xs → ShownAs level ((record { fd = fd; level = level fd }) ∷ list) xs
handed_rest level fd list [] h = tt
handed_rest level fd list (q ∷ xs) h = (handed_by level fd (fd_of q.kind) (find (λ (s : Shown). s.fd == fd_of q.kind) list) (fd == fd_of q.kind) refl h.0, handed_rest level fd list xs h.1)

handed_first : (level : ℕ → ℕ) (o : Option Shown) (fd : ℕ) → level_of (cond (fd == fd) (Some (record { fd = fd; level = level fd })) o) ≡ level fd
handed_first level o fd = elim (eqb_tells fd fd) [ inl t ↦ rw t.0 refl | inr f ↦ absurd (f.1 refl) ]

pub handed_is : (level : ℕ → ℕ) (rs : List Row) → ShownAs level (handed rs (levels_for level rs)) rs
handed_is level [] = tt
handed_is level (r ∷ rs) =
    (handed_first level (find (λ (s : Shown). s.fd == fd_of r.kind) (handed rs (levels_for level rs))) (fd_of r.kind), handed_rest level (fd_of r.kind) (handed rs (levels_for level rs)) rs (handed_is level rs))

-- ---- what a row says by itself, under two levels

own_by : (f g : ℕ → ℕ) (view : ℕ → Bool) (d : Bool) (k : Kind) → (is_fd k ≡ true → f (fd_of k) ≡ g (fd_of k)) → (kind_ready f view k || d) ≡ (kind_ready g view k || d)
own_by f g view d Idle h = refl
own_by f g view d (Timeout ms) h = refl
own_by f g view d (ReadyTime us) h = refl
own_by f g view d (Fd fd bits) h = ap (λ (l : ℕ). has_bit l bits || d) (h refl)
own_by f g view d (Cancel c) h = refl

nothing_set : (bits : ℕ) → has_bit 0 bits ≡ false
nothing_set bits = ap (λ (n : ℕ). not (n == 0)) (and_zero_l (bit_or bits always_told))

pub own_more : (g : ℕ → ℕ) (view : ℕ → Bool) (d : Bool) (k : Kind) → (kind_ready nothing_shown view k || d) ≡ true → (kind_ready g view k || d) ≡ true
own_more g view d Idle h = refl
own_more g view d (Timeout ms) h = h
own_more g view d (ReadyTime us) h = h
own_more g view d (Fd fd bits) h = or_right (has_bit (g fd) bits) d (ap (λ (b : Bool). b || d) (sym (nothing_set bits)) ∙ h)
own_more g view d (Cancel c) h = h

-- ---- readiness is monotone

any_by : (p q : Row → Bool) (r : Row) (rows : List Row) (b : Bool) → p r ≡ b → (p r ≡ true → q r ≡ true) → (list_any p rows ≡ true → list_any q rows ≡ true) → (b || list_any p rows) ≡ true → (q r || list_any q rows) ≡ true
any_by p q r rows true f h ih e = rw (h f) refl
any_by p q r rows false f h ih e = or_right (q r) (list_any q rows) (ih e)

pub any_more : (p q : Row → Bool) → ((r : Row) → p r ≡ true → q r ≡ true) → (rows : List Row) → list_any p rows ≡ true → list_any q rows ≡ true
any_more p q h [] e = e
any_more p q h (r ∷ rows) e = any_by p q r rows (p r) refl (h r) (any_more p q h rows) e

pub and_more : (a b c : Bool) → (b ≡ true → c ≡ true) → (a && b) ≡ true → (a && c) ≡ true
and_more true b c f h = f h
and_more false b c f h = h

pub ready_more : (own0 own : Row → Bool) (busy : List ℕ) (rows : List Row) → ((r : Row) → own0 r ≡ true → own r ≡ true) → (r : Row) → is_ready own0 busy rows r ≡ true → is_ready own busy rows r ≡ true
ready_more own0 own busy rows h r e =
    and_more (not (is_blocked busy r)) _ _
    (any_more (λ q. is_under r.id q && is_callable own0 busy q) (λ q. is_under r.id q && is_callable own busy q)
    (λ q k. and_more (is_under r.id q) _ _ (λ t. and_more (not (is_blocked busy q)) _ _ (h q) t) k) rows) e

pub some_more : (f g : Row → Bool) (m : ℤ) → ((r : Row) → f r ≡ true → g r ≡ true) → (rows : List Row) → SomeAt f m rows → SomeAt g m rows
some_more f g m h [] s = s
some_more f g m h (r ∷ rows) (inl s) = inl (h r s.0, s.1)
some_more f g m h (r ∷ rows) (inr s) = inr (some_more f g m h rows s)

meets : (g : Row → Bool) (b m : ℤ) (rows : List Row) → SomeAt g b rows → AllByRecursion (λ r. g r ≡ true → int_lt r.priority m ≡ false) rows → int_lt b m ≡ false
meets g b m [] s a = absurd s
meets g b m (r ∷ rows) (inl s) a = subst (λ (p : ℤ). int_lt p m ≡ false) s.1 (a.0 s.0)
meets g b m (r ∷ rows) (inr s) a = meets g b m rows s a.1

within_by : (f g : Row → Bool) (rows : List Row) → ((r : Row) → f r ≡ true → g r ≡ true) → (o u : Option ℤ) → least_of (filter f rows) ≡ o → least_of (filter g rows) ≡ u → less_bound o u
within_by f g rows h o None e k = tt
within_by f g rows h None (Some m) e k = refl
within_by f g rows h (Some b) (Some m) e k =
    meets g b m rows (some_more f g b h rows (some_ready f b rows (least_has (filter f rows) b e))) (if_passes g (λ r. int_lt r.priority m ≡ false) rows (least_above (filter g rows) m k))

-- ---- readiness under the levels handed in

and_same : (a b c : Bool) → (a ≡ true → b ≡ c) → (a && b) ≡ (a && c)
and_same true b c h = h refl
and_same false b c h = refl

pub any_same : (p q : Row → Bool) (rows : List Row) → AllByRecursion (λ r. p r ≡ q r) rows → list_any p rows ≡ list_any q rows
any_same p q [] h = refl
any_same p q (r ∷ rows) h = rw h.0 (ap (λ (b : Bool). q r || b) (any_same p q rows h.1))

asked_if : (f b l : Bool) → f ≡ true → b ≡ true → l ≡ false → (f && (b && not l)) ≡ true
asked_if f b l u v w = rw (u, v, w) refl

calls_same : (f g : ℕ → ℕ) (now : ℕ) (view : ℕ → Bool) (busy : List ℕ) (bound : Option ℤ) (r q : Row) → less_urgent bound r.priority ≡ false
    → (is_under r.id q ≡ true → q.priority ≡ r.priority) → (is_asked bound busy q ≡ true → f (fd_of q.kind) ≡ g (fd_of q.kind))
    → (is_under r.id q && is_callable (own_ready f view now) busy q) ≡ (is_under r.id q && is_callable (own_ready g view now) busy q)
calls_same f g now view busy bound r q h tree asked =
    and_same (is_under r.id q) _ _ (λ under. and_same (not (is_blocked busy q)) _ _ (λ free. own_by f g view (is_due now q.ready) q.kind
    (λ fd. asked (asked_if (is_fd q.kind) (not (is_blocked busy q)) (less_urgent bound q.priority) fd free (ap (less_urgent bound) (tree under) ∙ h)))))

each_calls : (f g : ℕ → ℕ) (now : ℕ) (view : ℕ → Bool) (busy : List ℕ) (bound : Option ℤ) (r : Row) (xs : List Row) → less_urgent bound r.priority ≡ false
    → AllByRecursion (λ q. is_under r.id q ≡ true → q.priority ≡ r.priority) xs → AllByRecursion (λ q. is_asked bound busy q ≡ true → f (fd_of q.kind) ≡ g (fd_of q.kind)) xs
    → AllByRecursion (λ q. (is_under r.id q && is_callable (own_ready f view now) busy q) ≡ (is_under r.id q && is_callable (own_ready g view now) busy q)) xs
each_calls f g now view busy bound r [] h tree asked = tt
each_calls f g now view busy bound r (q ∷ xs) h tree asked = (calls_same f g now view busy bound r q h tree.0 asked.0, each_calls f g now view busy bound r xs h tree.1 asked.1)

pub each_ready : (f g : ℕ → ℕ) (now : ℕ) (view : ℕ → Bool) (busy : List ℕ) (bound : Option ℤ) (rows xs : List Row)
    → AllByRecursion (λ r. AllByRecursion (λ q. is_under r.id q ≡ true → q.priority ≡ r.priority) rows) xs → AllByRecursion (λ q. is_asked bound busy q ≡ true → f (fd_of q.kind) ≡ g (fd_of q.kind)) rows
    → SameWithin (is_ready (own_ready f view now) busy rows) (is_ready (own_ready g view now) busy rows) bound xs
each_ready f g now view busy bound rows [] tree asked = tt
each_ready f g now view busy bound rows (r ∷ xs) tree asked =
    (λ h. ap (λ (b : Bool). not (is_blocked busy r) && b) (any_same _ _ rows (each_calls f g now view busy bound r rows h tree.0 asked)), each_ready f g now view busy bound rows xs tree.1 asked)

-- the levels of what was asked for are enough
pub cutoff : (level : ℕ → ℕ) (cancelled : ℕ → Bool) (now : ℕ) (busy : List ℕ) (rows : List Row) → IsOneTree rows
    → let asked : List Row = asked_rows (least_ready cancelled now busy rows) busy rows in
    walk (is_ready (own_ready (shown (handed asked (levels_for level asked))) cancelled now) busy rows) (least_ready cancelled now busy rows) (in_order rows)
    ≡ selected (own_ready level cancelled now) busy rows
cutoff level cancelled now busy rows tree =
    let bound : Option ℤ = least_ready cancelled now busy rows in
    let asked : List Row = asked_rows bound busy rows in
    let f : ℕ → ℕ = shown (handed asked (levels_for level asked)) in
    let ready : Row → Bool = is_ready (own_ready level cancelled now) busy rows in
    let shows = all_of_order (λ q. is_asked bound busy q ≡ true → f (fd_of q.kind) ≡ level (fd_of q.kind)) rows (if_passes (is_asked bound busy) (λ q. f (fd_of q.kind) ≡ level (fd_of q.kind)) (in_order rows) (handed_is level asked)) in
    let same = each_ready f level now cancelled busy bound rows rows tree shows in
    let less = within_by (is_ready (own_ready nothing_shown cancelled now) busy rows) ready rows
    (ready_more (own_ready nothing_shown cancelled now) (own_ready level cancelled now) busy rows (λ r. own_more level cancelled (is_due now r.ready) r.kind)) bound (least_of (filter ready rows)) refl refl in
    walk_same _ ready bound (in_order rows) (all_in_order _ rows same) ∙ walk_finds ready bound rows less

-- ---- what is no descriptor's is not asked

not_fd : (k : Kind) → asks k ≡ false → is_fd k ≡ false
not_fd Idle h = refl
not_fd (Timeout ms) h = refl
not_fd (ReadyTime us) h = refl
not_fd (Fd fd bits) h = h
not_fd (Cancel c) h = refl

pub not_asked : (bound : Option ℤ) (busy : List ℕ) (r : Row) → asks r.kind ≡ false → is_asked bound busy r ≡ false
not_asked bound busy r h = rw (not_fd r.kind h) refl
