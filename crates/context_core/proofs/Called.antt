-- What prepares an iteration: the first source in order that is callable has the least priority of all that are ready.
use Rattle.std.proofs.Common.{◌≡◌, ℕ, ◌==◌, ◌&&◌, ◌||◌, Bool, true, false, cond, ℤ, Option, Some, None, List, [], ◌∷◌, inl, inr, filter, option_map, refl, ap, sym, ◌∙◌, arith, subst}
use Rattle.std.proofs.lemmas.Int.{ints}
use Rattle.std.specs.Prelude.{int_lt, slice_index}
use Rattle.std.specs.List.{AllByRecursion, find, list_any}
use Rattle.source_rows.specs.declared.row.Row.{Row}
use Rattle.source_rows.specs.Rows.{in_order, placed, stands_before, is_under}
use Rattle.source_rows.specs.Order.{IsInOrder}
use Rattle.source_rows.specs.Tree.{IsForest, IsOneTree, HasPlace}
use Rattle.source_rows.proofs.Order.{sorted_in_order}
use Rattle.context_core.specs.Ready.{Own, is_free, is_callable, is_ready, ready_rows}
use Rattle.context_core.specs.Phases.{least_of}
use Rattle.source_rows.proofs.Compared.{same_self}
use Rattle.context_core.proofs.Found.{or_left, or_right}
use Rattle.context_core.proofs.Walk.{not_more, SomeAt}
use Rattle.context_core.proofs.Cutoff.{all_of_order, HasAt, least_has, least_none, least_above}

-- ---- a row is under itself

lineage_by : (a b id : ℕ) (one two : Bool) (lineage : List ℕ)
    → list_any (λ i. i == id) (cond one (slice_index lineage 0 ∷ id ∷ id ∷ id ∷ []) (cond two (slice_index lineage 0 ∷ slice_index lineage 1 ∷ id ∷ id ∷ []) (slice_index lineage 0 ∷ slice_index lineage 1 ∷ slice_index lineage 2 ∷ id ∷ []))) ≡ true
lineage_by a b id true two lineage = or_right (slice_index lineage 0 == id) _ (or_left (id == id) _ (same_self id))
lineage_by a b id false true lineage = or_right (slice_index lineage 0 == id) _ (or_right (slice_index lineage 1 == id) _ (or_left (id == id) _ (same_self id)))
lineage_by a b id false false lineage =
    or_right (slice_index lineage 0 == id) _ (or_right (slice_index lineage 1 == id) _ (or_right (slice_index lineage 2 == id) _ (or_left (id == id) _ (same_self id))))

under_self : (rows : List Row) (r : Row) (parent : Option ℕ) → HasPlace rows parent r → is_under r.id r ≡ true
under_self rows r None h = ap (list_any (λ i. i == r.id)) h.lineage ∙ or_left (r.id == r.id) _ (same_self r.id)
under_self rows r (Some id) h =
    let p = h.0 in
    ap (list_any (λ i. i == r.id)) h.2.lineage ∙ lineage_by 0 0 r.id (p.level == 1) (p.level == 2) p.lineage

pub each_under_self : (whole rows : List Row) → AllByRecursion (λ r. HasPlace whole r.parent r) rows → AllByRecursion (λ r. is_under r.id r ≡ true) rows
each_under_self whole [] h = tt
each_under_self whole (r ∷ rows) h = (under_self whole r r.parent h.0, each_under_self whole rows h.1)

-- ---- what calls is ready

each_any : (g : Row → Row → Bool) (xs whole : List Row) → ((r : Row) → list_any (g r) xs ≡ true → list_any (g r) whole ≡ true) → AllByRecursion (λ r. g r r ≡ true → list_any (g r) whole ≡ true) xs
each_any g [] whole f = tt
each_any g (x ∷ xs) whole f = (λ h. f x (or_left (g x x) _ h), each_any g xs whole (λ r k. f r (or_right (g r x) _ k)))

and_both : (a b : Bool) → a ≡ true → b ≡ true → (a && b) ≡ true
and_both a b h k = rw (h, k) refl

and_first : (a b : Bool) → (a && b) ≡ true → a ≡ true
and_first true b h = refl
and_first false b h = h

and_second : (a b : Bool) → (a && b) ≡ true → b ≡ true
and_second true b h = h
and_second false b h = let no : false ≡ true = h in cc

ready_each : (own : Own) (busy : List ℕ) (whole xs : List Row)
    → AllByRecursion (λ r. (is_under r.id r && is_callable own busy r) ≡ true → list_any (λ q. is_under r.id q && is_callable own busy q) whole ≡ true) xs
    → AllByRecursion (λ r. is_under r.id r ≡ true) xs → AllByRecursion (λ r. is_callable own busy r ≡ true → is_ready own busy whole r ≡ true) xs
ready_each own busy whole [] h u = tt
ready_each own busy whole (r ∷ xs) h u =
    (λ c. and_both (is_free busy r) _ (and_first (is_free busy r) (own r) c) (h.0 (and_both (is_under r.id r) (is_callable own busy r) u.0 c)), ready_each own busy whole xs h.1 u.1)

pub called_ready : (own : Own) (busy : List ℕ) (rows : List Row) → IsForest rows → AllByRecursion (λ r. is_callable own busy r ≡ true → is_ready own busy rows r ≡ true) rows
called_ready own busy rows forest =
    ready_each own busy rows rows (each_any (λ r q. is_under r.id q && is_callable own busy q) rows rows (λ r h. h)) (each_under_self rows rows forest.placed)

some_if : (f g : Row → Bool) (m : ℤ) (xs : List Row) → AllByRecursion (λ r. f r ≡ true → g r ≡ true) xs → SomeAt f m xs → SomeAt g m xs
some_if f g m [] h s = s
some_if f g m (r ∷ xs) h (inl s) = inl (h.0 s.0, s.1)
some_if f g m (r ∷ xs) h (inr s) = inr (some_if f g m xs h.1 s)

some_unplaced_by : (f : Row → Bool) (m : ℤ) (r q : Row) (qs : List Row) (b : Bool) → (SomeAt f m (placed r qs) → SomeAt f m (r ∷ qs)) → SomeAt f m (cond b (r ∷ q ∷ qs) (q ∷ placed r qs)) → SomeAt f m (r ∷ q ∷ qs)
some_unplaced_by f m r q qs true ih s = s
some_unplaced_by f m r q qs false ih (inl s) = inr (inl s)
some_unplaced_by f m r q qs false ih (inr s) = elim (ih s) [ inl t ↦ inl t | inr t ↦ inr (inr t) ]

some_unplaced : (f : Row → Bool) (m : ℤ) (r : Row) (qs : List Row) → SomeAt f m (placed r qs) → SomeAt f m (r ∷ qs)
some_unplaced f m r [] s = s
some_unplaced f m r (q ∷ qs) s = some_unplaced_by f m r q qs (stands_before r q) (some_unplaced f m r qs) s

pub some_of_order : (f : Row → Bool) (m : ℤ) (rows : List Row) → SomeAt f m (in_order rows) → SomeAt f m rows
some_of_order f m [] s = s
some_of_order f m (r ∷ rows) s = elim (some_unplaced f m r (in_order rows) s) [ inl t ↦ inl t | inr t ↦ inr (some_of_order f m rows t) ]

-- ---- the first that calls

same_row : (a b : Row) → Some a ≡ Some b → a ≡ b
same_row a b e = cc

not_below : (m : ℤ) → int_lt m m ≡ false
not_below m = grind (arith, ints)

each_behind : (f : Row → Bool) (r : Row) (qs : List Row) → AllByRecursion (λ q. stands_before q r ≡ false) qs → AllByRecursion (λ q. f q ≡ true → int_lt q.priority r.priority ≡ false) qs
each_behind f r [] h = tt
each_behind f r (q ∷ qs) h = (λ _. not_more q r h.0, each_behind f r qs h.1)

first_by : (f : Row → Bool) (r q : Row) (qs : List Row) (b : Bool) → f q ≡ b → AllByRecursion (λ z. stands_before z q ≡ false) qs
    → (find f qs ≡ Some r → AllByRecursion (λ z. f z ≡ true → int_lt z.priority r.priority ≡ false) qs)
    → cond b (Some q) (find f qs) ≡ Some r → AllByRecursion (λ z. f z ≡ true → int_lt z.priority r.priority ≡ false) (q ∷ qs)
first_by f r q qs true e k ih h =
    subst (λ (x : Row). AllByRecursion (λ z. f z ≡ true → int_lt z.priority x.priority ≡ false) (q ∷ qs)) (same_row q r h) (λ _. not_below q.priority, each_behind f q qs k)
first_by f r q qs false e k ih h = (λ t. let never = sym e ∙ t in cc, ih h)

pub first_least : (f : Row → Bool) (r : Row) (qs : List Row) → IsInOrder qs → find f qs ≡ Some r → AllByRecursion (λ z. f z ≡ true → int_lt z.priority r.priority ≡ false) qs
first_least f r [] s h = tt
first_least f r (q ∷ qs) s h = first_by f r q qs (f q) refl s.0 (first_least f r qs s.1) h

found_by : (f : Row → Bool) (r q : Row) (qs : List Row) (b : Bool) → f q ≡ b → (find f qs ≡ Some r → SomeAt f r.priority qs) → cond b (Some q) (find f qs) ≡ Some r → SomeAt f r.priority (q ∷ qs)
found_by f r q qs true e ih h = inl (e, ap (λ (x : Row). x.priority) (same_row q r h))
found_by f r q qs false e ih h = inr (ih h)

pub found_some : (f : Row → Bool) (r : Row) (qs : List Row) → find f qs ≡ Some r → SomeAt f r.priority qs
found_some f r [] h = let no : None ≡ Some r = h in cc
found_some f r (q ∷ qs) h = found_by f r q qs (f q) refl (found_some f r qs) h

none_by : (f : Row → Bool) (q : Row) (qs : List Row) (b : Bool) → f q ≡ b → (find f qs ≡ None → AllByRecursion (λ z. f z ≡ false) qs) → cond b (Some q) (find f qs) ≡ None → AllByRecursion (λ z. f z ≡ false) (q ∷ qs)
none_by f q qs true e ih h = let no : Some q ≡ None = h in cc
none_by f q qs false e ih h = (e, ih h)

pub none_found : (f : Row → Bool) (qs : List Row) → find f qs ≡ None → AllByRecursion (λ z. f z ≡ false) qs
none_found f [] h = tt
none_found f (q ∷ qs) h = none_by f q qs (f q) refl (none_found f qs) h

-- ---- what is ready is as urgent as what calls under it

bound_by : (u c : Bool) (n : ℤ) (r q : Row) (qs : List Row) (rest : Bool) → (u ≡ true → q.priority ≡ r.priority) → (c ≡ true → int_lt q.priority n ≡ false)
    → (rest ≡ true → int_lt r.priority n ≡ false) → ((u && c) || rest) ≡ true → int_lt r.priority n ≡ false
bound_by true true n r q qs rest t h ih e = subst (λ (p : ℤ). int_lt p n ≡ false) (t refl) (h refl)
bound_by true false n r q qs rest t h ih e = ih e
bound_by false c n r q qs rest t h ih e = ih e

any_bound : (own : Own) (busy : List ℕ) (n : ℤ) (r : Row) (qs : List Row) → AllByRecursion (λ q. is_under r.id q ≡ true → q.priority ≡ r.priority) qs → AllByRecursion (λ q. is_callable own busy q ≡ true → int_lt q.priority n ≡ false) qs
    → list_any (λ q. is_under r.id q && is_callable own busy q) qs ≡ true → int_lt r.priority n ≡ false
any_bound own busy n r [] t h e = let no : false ≡ true = e in cc
any_bound own busy n r (q ∷ qs) t h e = bound_by (is_under r.id q) (is_callable own busy q) n r q qs (list_any (λ q. is_under r.id q && is_callable own busy q) qs) t.0 h.0 (any_bound own busy n r qs t.1 h.1) e

ready_bound : (own : Own) (busy : List ℕ) (n : ℤ) (rows xs : List Row) → AllByRecursion (λ r. AllByRecursion (λ q. is_under r.id q ≡ true → q.priority ≡ r.priority) rows) xs
    → AllByRecursion (λ q. is_callable own busy q ≡ true → int_lt q.priority n ≡ false) rows → AllByRecursion (λ r. is_ready own busy rows r ≡ true → int_lt r.priority n ≡ false) xs
ready_bound own busy n rows [] t h = tt
ready_bound own busy n rows (r ∷ xs) t h = (λ e. any_bound own busy n r rows t.0 h (and_second (is_free busy r) _ e), ready_bound own busy n rows xs t.1 h)

none_any : (own : Own) (busy : List ℕ) (id : ℕ) (qs : List Row) → AllByRecursion (λ q. is_callable own busy q ≡ false) qs → list_any (λ q. is_under id q && is_callable own busy q) qs ≡ false
none_any own busy id [] h = refl
none_any own busy id (q ∷ qs) h = rw (h.0, none_any own busy id qs h.1) (never (is_under id q))
  where
    never : (b : Bool) → ((b && false) || false) ≡ false
    never true = refl
    never false = refl

-- ---- the least of a list, by what it must be

has_bound : (a b : ℤ) (xs : List Row) → HasAt a xs → AllByRecursion (λ q. int_lt q.priority b ≡ false) xs → int_lt a b ≡ false
has_bound a b [] s h = absurd s
has_bound a b (r ∷ xs) (inl e) h = subst (λ (p : ℤ). int_lt p b ≡ false) e h.0
has_bound a b (r ∷ xs) (inr s) h = has_bound a b xs s h.1

both_least : (k m : ℤ) → int_lt k m ≡ false → int_lt m k ≡ false → k ≡ m
both_least k m g h = omega (arith, ints)

least_is_by : (xs : List Row) (m : ℤ) (o : Option ℤ) → least_of xs ≡ o → HasAt m xs → AllByRecursion (λ q. int_lt q.priority m ≡ false) xs → o ≡ Some m
least_is_by xs m None e s h = absurd (subst (HasAt m) (least_none xs e) s)
least_is_by xs m (Some k) e s h =
    ap (λ (z : ℤ). Some z) (both_least k m (has_bound k m xs (least_has xs k e) h) (has_bound m k xs s (least_above xs k e)))

least_is : (xs : List Row) (m : ℤ) → HasAt m xs → AllByRecursion (λ q. int_lt q.priority m ≡ false) xs → least_of xs ≡ Some m
least_is xs m s h = least_is_by xs m (least_of xs) refl s h

has_by : (f : Row → Bool) (m : ℤ) (r : Row) (xs : List Row) (b : Bool) → f r ≡ b → (SomeAt f m xs → HasAt m (filter f xs)) → SomeAt f m (r ∷ xs) → HasAt m (cond b (r ∷ filter f xs) (filter f xs))
has_by f m r xs true e ih (inl s) = inl s.1
has_by f m r xs true e ih (inr s) = inr (ih s)
has_by f m r xs false e ih (inl s) = let no = sym e ∙ s.0 in cc
has_by f m r xs false e ih (inr s) = ih s

pub has_passed : (f : Row → Bool) (m : ℤ) (xs : List Row) → SomeAt f m xs → HasAt m (filter f xs)
has_passed f m [] s = s
has_passed f m (r ∷ xs) s = has_by f m r xs (f r) refl (has_passed f m xs) s

passed_by : (f : Row → Bool) (P : Row → Type 0) (r : Row) (xs : List Row) (b : Bool) → f r ≡ b → (f r ≡ true → P r) → AllByRecursion P (filter f xs) → AllByRecursion P (cond b (r ∷ filter f xs) (filter f xs))
passed_by f P r xs true e h k = (h e, k)
passed_by f P r xs false e h k = k

pub all_passed : (f : Row → Bool) (P : Row → Type 0) (xs : List Row) → AllByRecursion (λ r. f r ≡ true → P r) xs → AllByRecursion P (filter f xs)
all_passed f P [] h = tt
all_passed f P (r ∷ xs) h = passed_by f P r xs (f r) refl h.0 (all_passed f P xs h.1)

empty_by : (f : Row → Bool) (r : Row) (xs : List Row) (b : Bool) → f r ≡ b → f r ≡ false → filter f xs ≡ [] → cond b (r ∷ filter f xs) (filter f xs) ≡ []
empty_by f r xs true e h k = let no = sym e ∙ h in cc
empty_by f r xs false e h k = k

none_passes : (f : Row → Bool) (xs : List Row) → AllByRecursion (λ r. f r ≡ false) xs → filter f xs ≡ []
none_passes f [] h = refl
none_passes f (r ∷ xs) h = empty_by f r xs (f r) refl h.0 (none_passes f xs h.1)

and_false : (b : Bool) → (b && false) ≡ false
and_false true = refl
and_false false = refl

none_ready : (own : Own) (busy : List ℕ) (rows xs : List Row) → AllByRecursion (λ q. is_callable own busy q ≡ false) rows → AllByRecursion (λ r. is_ready own busy rows r ≡ false) xs
none_ready own busy rows [] h = tt
none_ready own busy rows (r ∷ xs) h = (ap (λ (b : Bool). is_free busy r && b) (none_any own busy r.id rows h) ∙ and_false (is_free busy r), none_ready own busy rows xs h)

-- the first that calls has the least priority of what is ready
pub first_called : (own : Own) (busy : List ℕ) (rows : List Row) → IsForest rows → IsOneTree rows → (o : Option Row) → find (is_callable own busy) (in_order rows) ≡ o → option_map (λ r. r.priority) o ≡ least_of (ready_rows own busy rows)
first_called own busy rows forest tree None e =
    let none = all_of_order (λ q. is_callable own busy q ≡ false) rows (none_found (is_callable own busy) (in_order rows) e) in
    sym (ap least_of (none_passes (is_ready own busy rows) rows (none_ready own busy rows rows none)))
first_called own busy rows forest tree (Some r) e =
    let ready : Row → Bool = is_ready own busy rows in
    let below = all_of_order (λ z. is_callable own busy z ≡ true → int_lt z.priority r.priority ≡ false) rows (first_least (is_callable own busy) r (in_order rows) (sorted_in_order rows) e) in
    let some = some_of_order (is_callable own busy) r.priority rows (found_some (is_callable own busy) r (in_order rows) e) in
    sym (least_is (ready_rows own busy rows) r.priority
    (has_passed ready r.priority rows (some_if (is_callable own busy) ready r.priority rows (called_ready own busy rows forest) some))
    (all_passed ready (λ q. int_lt q.priority r.priority ≡ false) rows (ready_bound own busy r.priority rows rows tree below)))
