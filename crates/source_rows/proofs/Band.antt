-- The part of an order where a tree stands has the tree's rows and no others.
use Rattle.std.proofs.Common.{◌≡◌, ℕ, ℤ, ◌<◌, ◌≤◌, ◌==◌, Bool, true, false, not, cond, ◌||◌, ◌&&◌, Some, List, [], ◌∷◌, map, map-id, filter, refl, ap, sym, ◌∙◌, arith}
use Rattle.std.proofs.lemmas.Bool.Decides.{nat_tests}
use Rattle.std.specs.Prelude.{slice_index}
use Rattle.std.specs.List.{AllByRecursion, list_any}
use Rattle.std.specs.declared.cmp.Ordering.{Ordering}
use Rattle.std.specs.declared.cmp.Ordering.TheVariants.{Less, Equal, Greater}
use Rattle.std.specs.Ordering.{is_lt, is_le, is_gt, ordering_then, ordering_reverse, int_cmp, nat_cmp}
use Rattle.std.specs.Cmp.{int_cmp_total, nat_cmp_total}
use Rattle.std.proofs.lemmas.Map.Lookups.{exact_signed}
use Rattle.std.specs.Cmp.Lexicographic.{slice_cmp}
use Rattle.std.proofs.lemmas.Cmp.{tied_itself}
use Rattle.source_rows.specs.declared.row.Row.{Row}
use Rattle.source_rows.specs.Rows.{Key, key_cmp, key_of, row_of, has_id, is_under, in_order, placed, stands_before, changed, moved}
use Rattle.source_rows.specs.Row.{no_number}
use Rattle.source_rows.specs.Tree.{IdsRise}
use Rattle.source_rows.proofs.Kin.{Shares, IsPath, Kin}
use Rattle.source_rows.specs.InOrder.{rows_of}
use Rattle.source_rows.specs.Moves.{with_each, moved_row}
use Rattle.source_rows.specs.Band.{first_key, last_key, stands_between}
use Rattle.source_rows.proofs.Compared.{same_self, are_same, are_not, or_true, nat_equal}
use Rattle.source_rows.proofs.Lists.{all_of, all_both, all_true, all_passed, all_filter, each_with_each}
use Rattle.source_rows.proofs.Order.{key_total, all_in_order, in_order-filter}
use Rattle.source_rows.proofs.Forest.{all_found}
use Rattle.source_rows.proofs.Listed.{same_rows}
use Rattle.source_rows.proofs.Moved.{is_moved}

-- ---- keys between two

int_equal : (y z : ℤ) → y ≡ z → int_cmp y z ≡ Equal
int_equal y z e = ap (int_cmp y) (sym e) ∙ tied_itself int_cmp_total y

nat_flip : (m n : ℕ) → nat_cmp m n ≡ Less → nat_cmp n m ≡ Less → ⊥
nat_flip m n h k = grind (arith, nat_tests)

zero_first : (n : ℕ) → is_gt (nat_cmp 0 n) ≡ false
zero_first n = grind (arith, nat_tests)

last_not : (n : ℕ) → n ≤ no_number → is_lt (nat_cmp no_number n) ≡ false
last_not n h = grind (arith, nat_tests)

then_not_gt : (o p : Ordering) → is_gt o ≡ false → is_gt p ≡ false → is_gt (ordering_then o p) ≡ false
then_not_gt Less p h k = refl
then_not_gt Equal p h k = k
then_not_gt Greater p h k = h

then_not_lt : (o p : Ordering) → is_lt o ≡ false → is_lt p ≡ false → is_lt (ordering_then o p) ≡ false
then_not_lt Less p h k = h
then_not_lt Equal p h k = k
then_not_lt Greater p h k = refl

zeros_first : (b c d : ℕ) → is_gt (slice_cmp nat_cmp (0 ∷ 0 ∷ 0 ∷ []) (b ∷ c ∷ d ∷ [])) ≡ false
zeros_first b c d =
    then_not_gt (nat_cmp 0 b) (slice_cmp nat_cmp (0 ∷ 0 ∷ []) (c ∷ d ∷ [])) (zero_first b)
    (then_not_gt (nat_cmp 0 c) (slice_cmp nat_cmp (0 ∷ []) (d ∷ [])) (zero_first c)
    (then_not_gt (nat_cmp 0 d) (slice_cmp nat_cmp [] []) (zero_first d) refl))

lasts_not : (b c d : ℕ) → b ≤ no_number → c ≤ no_number → d ≤ no_number → is_lt (slice_cmp nat_cmp (no_number ∷ no_number ∷ no_number ∷ []) (b ∷ c ∷ d ∷ [])) ≡ false
lasts_not b c d f g h =
    then_not_lt (nat_cmp no_number b) (slice_cmp nat_cmp (no_number ∷ no_number ∷ []) (c ∷ d ∷ [])) (last_not b f)
    (then_not_lt (nat_cmp no_number c) (slice_cmp nat_cmp (no_number ∷ []) (d ∷ [])) (last_not c g)
    (then_not_lt (nat_cmp no_number d) (slice_cmp nat_cmp [] []) (last_not d h) refl))

not_gt_le : (o : Ordering) → is_gt o ≡ false → is_le o ≡ true
not_gt_le Less h = refl
not_gt_le Equal h = refl
not_gt_le Greater h = cc

-- where priority and front are the same, the key lies between
inside_by : (o p s t : Ordering) → o ≡ Equal → p ≡ Equal → is_gt s ≡ false → is_lt t ≡ false → (is_le (ordering_then o (ordering_then p s)) && not (is_lt (ordering_then o (ordering_then p t)))) ≡ true
inside_by Less p s t e f h k = cc
inside_by Greater p s t e f h k = cc
inside_by Equal Less s t e f h k = cc
inside_by Equal Greater s t e f h k = cc
inside_by Equal Equal s t e f h k = rw (not_gt_le s h, k) refl

-- where one of them is not, it does not
outside_by : (o p s t : Ordering) → (is_le (ordering_then o (ordering_then p s)) && not (is_lt (ordering_then o (ordering_then p t)))) ≡ true → (o ≡ Equal) × (p ≡ Equal)
outside_by Less p s t h = cc
outside_by Greater p s t h = cc
outside_by Equal Less s t h = cc
outside_by Equal Greater s t h = cc
outside_by Equal Equal s t h = (refl, refl)

abbrev contains : Row → Key → Bool
contains x k = is_le (key_cmp (first_key x) k) && not (is_lt (key_cmp (last_key x) k))

not_back_by : (o : Ordering) → not (is_lt (ordering_reverse o)) ≡ is_le o
not_back_by Less = refl
not_back_by Equal = refl
not_back_by Greater = refl

-- a row stands between the keys of a tree
is_contained : (x r : Row) → stands_between (first_key x) (last_key x) r ≡ contains x (key_of r)
is_contained x r =
    ap (λ (o : Ordering). not (is_lt o) && not (is_lt (key_cmp (last_key x) (key_of r)))) (key_total.antisymm (key_of r) (first_key x))
    ∙ ap (λ (b : Bool). b && not (is_lt (key_cmp (last_key x) (key_of r)))) (not_back_by (key_cmp (first_key x) (key_of r)))

inside : (x r : Row) → IsPath r.path → Shares x r → contains x (key_of r) ≡ true
inside x r p s =
    let front : slice_index x.path 0 ≡ p.a = s.1 ∙ ap (λ (q : List ℕ). slice_index q 0) p.is in
    ap (λ (q : List ℕ). contains x (r.priority, q)) p.is
    ∙ inside_by (int_cmp x.priority r.priority) (nat_cmp (slice_index x.path 0) p.a) (slice_cmp nat_cmp (0 ∷ 0 ∷ 0 ∷ []) (p.b ∷ p.c ∷ p.d ∷ [])) (slice_cmp nat_cmp (no_number ∷ no_number ∷ no_number ∷ []) (p.b ∷ p.c ∷ p.d ∷ []))
    (int_equal x.priority r.priority s.0) (ap (λ (n : ℕ). nat_cmp n p.a) front ∙ tied_itself nat_cmp_total p.a) (zeros_first p.b p.c p.d) (lasts_not p.b p.c p.d p.b_fits p.c_fits p.d_fits)

outside : (x r : Row) → IsPath r.path → contains x (key_of r) ≡ true → Shares x r
outside x r p h =
    let k = sym (ap (λ (q : List ℕ). contains x (r.priority, q)) p.is) ∙ h in
    let both = outside_by (int_cmp x.priority r.priority) (nat_cmp (slice_index x.path 0) p.a) (slice_cmp nat_cmp (0 ∷ 0 ∷ 0 ∷ []) (p.b ∷ p.c ∷ p.d ∷ [])) (slice_cmp nat_cmp (no_number ∷ no_number ∷ no_number ∷ []) (p.b ∷ p.c ∷ p.d ∷ [])) k in
    (exact_signed x.priority r.priority both.0, nat_equal (slice_index x.path 0) p.a both.1 ∙ sym (ap (λ (q : List ℕ). slice_index q 0) p.is))

contains_by : (x r : Row) (n : ℕ) → Kin x n r → (b c : Bool) → contains x (key_of r) ≡ b → is_under x.id r ≡ c → b ≡ c
contains_by x r n k true true e f = refl
contains_by x r n k false false e f = refl
contains_by x r n k true false e f = let never = sym (k.under (outside x r k.path e)) ∙ f in cc
contains_by x r n k false true e f = let never = sym (inside x r k.path (k.shares f)) ∙ e in cc

-- ---- the rows that stand there

filter_same : (f g : Row → Bool) (rows : List Row) → AllByRecursion (λ r. f r ≡ g r) rows → filter f rows ≡ filter g rows
filter_same f g [] h = refl
filter_same f g (r ∷ rows) h =
    ap (λ (b : Bool). cond b (r ∷ filter f rows) (filter f rows)) h.0 ∙ ap (λ (xs : List Row). cond (g r) (r ∷ xs) xs) (filter_same f g rows h.1)

between : (x : Row) (n : ℕ) (rows : List Row) → AllByRecursion (Kin x n) rows → filter (stands_between (first_key x) (last_key x)) rows ≡ filter (is_under x.id) rows
between x n rows h =
    filter_same (stands_between (first_key x) (last_key x)) (is_under x.id) rows
    (all_of (Kin x n) (λ r. stands_between (first_key x) (last_key x) r ≡ is_under x.id r) (λ r k. is_contained x r ∙ contains_by x r n k (contains x (key_of r)) (is_under x.id r) refl refl) rows h)

among : (P : Row → Type 0) (p : Row → Bool) (rows : List Row) → AllByRecursion P rows → AllByRecursion P (filter p (in_order rows))
among P p rows h = all_filter P p (in_order rows) (all_in_order P rows h)

-- the rows between the two keys are the tree
pub picked : (x : Row) (n : ℕ) (rows : List Row) → IdsRise rows → AllByRecursion (Kin x n) rows
    → rows_of rows (map (λ r. r.id) (filter (stands_between (first_key x) (last_key x)) (in_order rows))) ≡ filter (is_under x.id) (in_order rows)
picked x n rows r k =
    let tree : List Row = filter (is_under x.id) (in_order rows) in
    ap (λ (qs : List Row). rows_of rows (map (λ r. r.id) qs)) (between x n (in_order rows) (all_in_order (Kin x n) rows k))
    ∙ same_rows rows tree (among (λ q. row_of q.id rows ≡ Some q) (is_under x.id) rows (all_found rows r))

-- the tree, row by row
moved_each : (id : ℕ) (z : ℤ) (n : ℕ) (rows : List Row) → AllByRecursion (λ r. is_under id r ≡ true) rows → map (moved_row id z n) rows ≡ map (moved id z n) rows
moved_each id z n [] h = refl
moved_each id z n (r ∷ rows) h = ap (λ (q : Row). q ∷ map (moved_row id z n) rows) (sym (is_moved id z n r h.0)) ∙ ap (λ (xs : List Row). moved id z n r ∷ xs) (moved_each id z n rows h.1)

pub moved_tree : (id : ℕ) (z : ℤ) (n : ℕ) (rows : List Row) → map (moved_row id z n) (filter (is_under id) (in_order rows)) ≡ map (moved id z n) (filter (is_under id) (in_order rows))
moved_tree id z n rows =
    moved_each id z n (filter (is_under id) (in_order rows)) (all_passed (λ r. is_under id r ≡ is_under id r) (λ r. is_under id r ≡ true) (is_under id) (λ r k e. e) (in_order rows) (all_true (λ r. is_under id r ≡ is_under id r) (λ r. refl) (in_order rows)))

-- ---- the changed rows put into the table

abbrev last_of : List Row → Row → Row
last_of [] q = q
last_of (m ∷ ms) q = last_of ms (cond (has_id m.id q) m q)

map_twice : (f h : Row → Row) (rows : List Row) → map f (map h rows) ≡ map (λ r. f (h r)) rows
map_twice f h [] = refl
map_twice f h (r ∷ rows) = ap (λ (xs : List Row). f (h r) ∷ xs) (map_twice f h rows)

each_is : (ms rows : List Row) → with_each ms rows ≡ map (last_of ms) rows
each_is [] rows = sym (map-id rows)
each_is (m ∷ ms) rows = each_is ms (changed m.id (λ _. m) rows) ∙ map_twice (last_of ms) (λ r. cond (has_id m.id r) m r) rows

-- the rows have no other row of the id
abbrev IsOnly : Row → Row → Type 0
IsOnly q t = t.id ≡ q.id → t ≡ q

stays_last : (g : Row → Row) → ((r : Row) → (g r).id ≡ r.id) → (q : Row) (ts : List Row) → AllByRecursion (IsOnly q) ts → last_of (map g ts) (g q) ≡ g q
stays_last g h q [] o = refl
stays_last g h q (t ∷ ts) o =
    ap (last_of (map g ts)) (by_test ((g q).id == (g t).id) refl) ∙ stays_last g h q ts o.1
  where
    by_test : (b : Bool) → ((g q).id == (g t).id) ≡ b → cond b (g t) (g q) ≡ g q
    by_test false e = refl
    by_test true e =
        let same : (g q).id ≡ (g t).id = are_same (g q).id (g t).id e in
        ap g (o.0 (sym (h t) ∙ (sym same ∙ h q)))

gets_last : (g : Row → Row) → ((r : Row) → (g r).id ≡ r.id) → (q : Row) (ts : List Row) → AllByRecursion (IsOnly q) ts → list_any (λ t. t.id == q.id) ts ≡ true → last_of (map g ts) q ≡ g q
gets_last g h q [] o e = let never : false ≡ true = e in cc
gets_last g h q (t ∷ ts) o e =
    by_test (q.id == (g t).id) (t.id == q.id) refl refl (stays_last g h q ts o.1) (gets_last g h q ts o.1) e
  where
    by_test : (b c : Bool) → (q.id == (g t).id) ≡ b → (t.id == q.id) ≡ c → last_of (map g ts) (g q) ≡ g q → (list_any (λ s. s.id == q.id) ts ≡ true → last_of (map g ts) q ≡ g q) → (c || list_any (λ s. s.id == q.id) ts) ≡ true
        → last_of (map g ts) (cond b (g t) q) ≡ g q
    by_test true c f k stays ih u =
        let same : q.id ≡ (g t).id = are_same q.id (g t).id f in
        ap (last_of (map g ts)) (ap g (o.0 (sym (h t) ∙ sym same))) ∙ stays
    by_test false false f k stays ih u = ih u
    by_test false true f k stays ih u =
        let same : t.id ≡ q.id = are_same t.id q.id k in
        absurd (are_not q.id (g t).id f (sym same ∙ sym (h t)))

only_each : (rows : List Row) → IdsRise rows → AllByRecursion (λ q. AllByRecursion (IsOnly q) rows) rows
only_each rows h = each_with_each (λ r q. r.id < q.id) IsOnly (λ r e. refl) (λ r q less e. absurd (omega (arith, e, less))) (λ r q less e. absurd (omega (arith, e, less))) rows h

-- a row that passes is in the tree
any_placed_by : (f : Row → Bool) (r q : Row) (qs : List Row) → list_any f (placed r qs) ≡ (f r || list_any f qs) → (b : Bool) → list_any f (cond b (r ∷ q ∷ qs) (q ∷ placed r qs)) ≡ (f r || (f q || list_any f qs))
any_placed_by f r q qs ih true = refl
any_placed_by f r q qs ih false = ap (λ (b : Bool). f q || b) ih ∙ swap (f q) (f r) (list_any f qs)
  where
    swap : (a b c : Bool) → (a || (b || c)) ≡ (b || (a || c))
    swap true true c = refl
    swap true false c = refl
    swap false true c = refl
    swap false false c = refl

any_placed : (f : Row → Bool) (r : Row) (qs : List Row) → list_any f (placed r qs) ≡ (f r || list_any f qs)
any_placed f r [] = refl
any_placed f r (q ∷ qs) = any_placed_by f r q qs (any_placed f r qs) (stands_before r q)

pub any_in_order : (f : Row → Bool) (rows : List Row) → list_any f (in_order rows) ≡ list_any f rows
any_in_order f [] = refl
any_in_order f (r ∷ rows) = any_placed f r (in_order rows) ∙ ap (λ (b : Bool). f r || b) (any_in_order f rows)

more_by : (q r : Row) (xs : List Row) (b : Bool) → list_any (λ t. t.id == q.id) xs ≡ true → list_any (λ t. t.id == q.id) (cond b (r ∷ xs) xs) ≡ true
more_by q r xs true e = ap (λ (b : Bool). (r.id == q.id) || b) e ∙ or_true (r.id == q.id)
more_by q r xs false e = e

passing_in : (p : Row → Bool) (rows : List Row) → AllByRecursion (λ q. p q ≡ true → list_any (λ t. t.id == q.id) (filter p rows) ≡ true) rows
passing_in p [] = tt
passing_in p (r ∷ rows) = (
  (λ e. ap (λ (b : Bool). list_any (λ t. t.id == r.id) (cond b (r ∷ filter p rows) (filter p rows))) e ∙ ap (λ (b : Bool). b || list_any (λ t. t.id == r.id) (filter p rows)) (same_self r.id)),
  all_of (λ q. p q ≡ true → list_any (λ t. t.id == q.id) (filter p rows) ≡ true) (λ q. p q ≡ true → list_any (λ t. t.id == q.id) (filter p (r ∷ rows)) ≡ true) (λ q k e. more_by q r (filter p rows) (p r) (k e)) rows (passing_in p rows),
)

last_by : (p : Row → Bool) (g : Row → Row) → ((r : Row) → (g r).id ≡ r.id) → ((r : Row) → p r ≡ false → g r ≡ r) → (ts : List Row) (q : Row) → AllByRecursion (IsOnly q) ts → (p q ≡ true → list_any (λ t. t.id == q.id) ts ≡ true) → (b : Bool) → p q ≡ b → last_of (map g ts) q ≡ g q
last_by p g h s ts q o k true e = gets_last g h q ts o (k e)
last_by p g h s ts q o k false e = ap (last_of (map g ts)) (sym (s q e)) ∙ stays_last g h q ts o

maps_same : (f g : Row → Row) (rows : List Row) → AllByRecursion (λ q. f q ≡ g q) rows → map f rows ≡ map g rows
maps_same f g [] h = refl
maps_same f g (r ∷ rows) h = ap (λ (q : Row). q ∷ map f rows) h.0 ∙ ap (λ (xs : List Row). g r ∷ xs) (maps_same f g rows h.1)

-- the changed rows in the others' places are all rows, changed
pub all_changed : (p : Row → Bool) (g : Row → Row) → ((r : Row) → (g r).id ≡ r.id) → ((r : Row) → p r ≡ false → g r ≡ r) → (rows : List Row) → IdsRise rows → with_each (map g (filter p (in_order rows))) rows ≡ map g rows
all_changed p g h s rows r =
    let tree : List Row = filter p (in_order rows) in
    let only = all_of (λ q. AllByRecursion (IsOnly q) rows) (λ q. AllByRecursion (IsOnly q) tree) (λ q k. among (IsOnly q) p rows k) rows (only_each rows r) in
    let there = all_of (λ q. p q ≡ true → list_any (λ t. t.id == q.id) (filter p rows) ≡ true) (λ q. p q ≡ true → list_any (λ t. t.id == q.id) tree ≡ true)
    (λ q k e. ap (list_any (λ t. t.id == q.id)) (in_order-filter p rows) ∙ (any_in_order (λ t. t.id == q.id) (filter p rows) ∙ k e)) rows (passing_in p rows) in
    each_is (map g tree) rows ∙ maps_same (last_of (map g tree)) g rows
    (all_both (λ q. AllByRecursion (IsOnly q) tree) (λ q. p q ≡ true → list_any (λ t. t.id == q.id) tree ≡ true) (λ q. last_of (map g tree) q ≡ g q) (λ q o k. last_by p g h s tree q o k (p q) refl) rows only there)
