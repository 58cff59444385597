-- What follows for the seats of rows, as the rows change.
use Rattle.std.proofs.Common.{◌≡◌, ◌⊎◌, ℕ, ◌<◌, ◌==◌, Bool, true, false, not, cond, ◌||◌, Option, Some, List, [], ◌∷◌, ◌++◌, filter, refl, ap, sym, ◌∙◌, arith, subst}
use Rattle.std.specs.List.{AllByRecursion, list_any}
use Rattle.std.specs.Ordering.{is_eq}
use Rattle.source_rows.specs.declared.row.Row.{Row}
use Rattle.source_rows.proofs.Lists.{all_of}
use Rattle.source_rows.specs.Rows.{key_of, row_of, has_id, changed}
use Rattle.source_rows.specs.Tree.{IdsRise}
use Rattle.source_rows.specs.Inserted.{inserted, Rises}
use Rattle.source_rows.specs.declared.seats.Seat.{Seat}
use Rattle.source_rows.specs.Seats.{seat_cmp, is_ahead, without, swap, swapped, seat_of, in_seats}
use Rattle.source_rows.proofs.Inserted.{comm, all_inserted, rises_inserted, filter_inserted_kept, filter_inserted_left}
use Rattle.source_rows.proofs.Compared.{same_self, are_same, not_same, some_same, or_true}
use Rattle.source_rows.proofs.Forest.{all_found}
use Rattle.source_rows.proofs.Kept.{found_id}
use Rattle.source_rows.proofs.Ahead.{swap_ahead, apart_ids, is_same, same_time, sooner_order}

-- ---- the seats of rows

abbrev pub AreApart : Seat → Seat → Type 0
AreApart a b = (is_ahead a b ≡ true) ⊎ (is_ahead b a ≡ true)

pub all_in_seats : (P : Seat → Type 0) (rows : List Row) → AllByRecursion (λ q. P (seat_of q)) rows → AllByRecursion P (in_seats rows)
all_in_seats P [] h = tt
all_in_seats P (r ∷ rows) h = all_inserted is_ahead P (seat_of r) (in_seats rows) h.0 (all_in_seats P rows h.1)

apart_above : (r : Row) (rows : List Row) → AllByRecursion (λ q. r.id < q.id) rows → AllByRecursion (λ q. AreApart (seat_of r) (seat_of q)) rows
apart_above r [] h = tt
apart_above r (q ∷ rows) h =
    let less = h.0 in
    (apart_ids (seat_of r) (seat_of q) (λ e. absurd (omega (arith, e, less))), apart_above r rows h.1)

pub rises_in_seats : (rows : List Row) → IdsRise rows → Rises is_ahead (in_seats rows)
rises_in_seats [] h = tt
rises_in_seats (r ∷ rows) h = rises_inserted is_ahead sooner_order (seat_of r) (in_seats rows) (rises_in_seats rows h.1) (all_in_seats (AreApart (seat_of r)) rows (apart_above r rows h.0))

pub in_seats-push : (rows : List Row) (r : Row) → AllByRecursion (λ q. q.id < r.id) rows → in_seats (rows ++ r ∷ []) ≡ inserted is_ahead (seat_of r) (in_seats rows)
in_seats-push [] r h = refl
in_seats-push (q ∷ rows) r h =
    let less = h.0 in
    let apart = apart_ids (seat_of q) (seat_of r) (λ e. absurd (omega (arith, e, less))) in
    ap (inserted is_ahead (seat_of q)) (in_seats-push rows r h.1) ∙ comm is_ahead sooner_order (seat_of q) (seat_of r) apart (in_seats rows)

-- ---- the seats of some of the rows

filter_by : (p : Row → Bool) (f : Seat → Bool) (r : Row) (rows : List Row) → Rises is_ahead (in_seats rows) → p r ≡ f (seat_of r) → in_seats (filter p rows) ≡ filter f (in_seats rows) → (b : Bool) → p r ≡ b
    → in_seats (cond b (r ∷ filter p rows) (filter p rows)) ≡ filter f (inserted is_ahead (seat_of r) (in_seats rows))
filter_by p f r rows s same ih true e = ap (inserted is_ahead (seat_of r)) ih ∙ sym (filter_inserted_kept is_ahead sooner_order f (seat_of r) (in_seats rows) s (sym same ∙ e))
filter_by p f r rows s same ih false e = ih ∙ sym (filter_inserted_left is_ahead f (seat_of r) (in_seats rows) (sym same ∙ e))

pub in_seats-filter : (p : Row → Bool) (f : Seat → Bool) (rows : List Row) → IdsRise rows → AllByRecursion (λ q. p q ≡ f (seat_of q)) rows → in_seats (filter p rows) ≡ filter f (in_seats rows)
in_seats-filter p f [] h same = refl
in_seats-filter p f (r ∷ rows) h same = filter_by p f r rows (rises_in_seats rows h.1) same.0 (in_seats-filter p f rows h.1 same.1) (p r) refl

-- an id that is found is that of one row
one_row : (id : ℕ) (r : Row) (rows xs : List Row) → row_of id rows ≡ Some r → AllByRecursion (λ q. row_of q.id rows ≡ Some q) xs → AllByRecursion (λ q. q.id ≡ id → q ≡ r) xs
one_row id r rows [] e h = tt
one_row id r rows (q ∷ xs) e h = (λ same. some_same q r (sym h.0 ∙ (ap (λ (n : ℕ). row_of n rows) same ∙ e)), one_row id r rows xs e h.1)

pub all_one : (id : ℕ) (r : Row) (rows : List Row) → IdsRise rows → row_of id rows ≡ Some r → AllByRecursion (λ q. q.id ≡ id → q ≡ r) rows
all_one id r rows h e = one_row id r rows rows e (all_found rows h)

tests_by : (id : ℕ) (r q : Row) → r.id ≡ id → (q.id ≡ id → q ≡ r) → (b : Bool) → (q.id == id) ≡ b → b ≡ is_eq (seat_cmp (seat_of r) (seat_of q))
tests_by id r q is one true e = sym (is_same (seat_of r) (seat_of q) (ap seat_of (sym (one (are_same q.id id e)))))
tests_by id r q is one false e = apart_by_id (is_eq (seat_cmp (seat_of r) (seat_of q))) refl
  where
    apart_by_id : (b : Bool) → is_eq (seat_cmp (seat_of r) (seat_of q)) ≡ b → false ≡ b
    apart_by_id true f =
        let same : r.id ≡ q.id = ap (λ (t : Seat). t.id) (same_time (seat_of r) (seat_of q) f) in
        let never = sym e ∙ (ap (λ (n : ℕ). n == id) (sym same ∙ is) ∙ same_self id) in cc
    apart_by_id false f = refl

-- a row has the id where its seat is that of the row of the id
all_tests : (id : ℕ) (r : Row) (xs : List Row) → r.id ≡ id → AllByRecursion (λ q. q.id ≡ id → q ≡ r) xs → AllByRecursion (λ q. not (has_id id q) ≡ not (is_eq (seat_cmp (seat_of r) (seat_of q)))) xs
all_tests id r [] is h = tt
all_tests id r (q ∷ xs) is h = (ap not (tests_by id r q is h.0 (q.id == id) refl), all_tests id r xs is h.1)

pub in_seats-removed : (id : ℕ) (r : Row) (rows : List Row) → IdsRise rows → row_of id rows ≡ Some r → in_seats (filter (λ q. not (has_id id q)) rows) ≡ without (seat_of r) (in_seats rows)
in_seats-removed id r rows h e =
    in_seats-filter (λ q. not (has_id id q)) (λ u. not (is_eq (seat_cmp (seat_of r) u))) rows h (all_tests id r rows (found_id id r rows e) (all_one id r rows h e))

-- ---- the seats after a row is changed

-- none of the rows above an id has it
above_kept : (id : ℕ) (g : Row → Row) (xs : List Row) → AllByRecursion (λ q. id < q.id) xs → (changed id g xs ≡ xs) × (filter (λ q. not (has_id id q)) xs ≡ xs)
above_kept id g [] h = (refl, refl)
above_kept id g (q ∷ xs) h =
    let less = h.0 in
    let rest = above_kept id g xs h.1 in
    let other : (q.id == id) ≡ false = not_same q.id id (λ e. absurd (omega (arith, e, less))) in
    (rw other (ap (λ (ys : List Row). q ∷ ys) rest.0), rw other (ap (λ (ys : List Row). q ∷ ys) rest.1))

put_by : (row old q : Row) (rows : List Row) → AllByRecursion (λ x. q.id < x.id) rows
    → (row_of row.id rows ≡ Some old → in_seats (changed row.id (λ _. row) rows) ≡ inserted is_ahead (seat_of row) (in_seats (filter (λ x. not (has_id row.id x)) rows)))
    → (b : Bool) → (q.id == row.id) ≡ b → cond b (Some q) (row_of row.id rows) ≡ Some old
    → in_seats (cond b row q ∷ changed row.id (λ _. row) rows) ≡ inserted is_ahead (seat_of row) (in_seats (cond (not b) (q ∷ filter (λ x. not (has_id row.id x)) rows) (filter (λ x. not (has_id row.id x)) rows)))
put_by row old q rows h ih true e f =
    let above = subst (λ (n : ℕ). AllByRecursion (λ x. n < x.id) rows) (are_same q.id row.id e) h in
    let kept = above_kept row.id (λ _. row) rows above in
    ap (λ (xs : List Row). inserted is_ahead (seat_of row) (in_seats xs)) (kept.0 ∙ sym kept.1)
put_by row old q rows h ih false e f =
    let apart = apart_ids (seat_of q) (seat_of row) (λ same. let never = sym e ∙ (ap (λ (n : ℕ). n == row.id) same ∙ same_self row.id) in cc) in
    ap (inserted is_ahead (seat_of q)) (ih f) ∙ comm is_ahead sooner_order (seat_of q) (seat_of row) apart (in_seats (filter (λ x. not (has_id row.id x)) rows))

put_in : (row old : Row) (rows : List Row) → IdsRise rows → row_of row.id rows ≡ Some old → in_seats (changed row.id (λ _. row) rows) ≡ inserted is_ahead (seat_of row) (in_seats (filter (λ x. not (has_id row.id x)) rows))
put_in row old [] h e = cc
put_in row old (q ∷ rows) h e = put_by row old q rows h.0 (put_in row old rows h.1) (q.id == row.id) refl e

pub in_seats-changed : (row old : Row) (rows : List Row) → IdsRise rows → row_of row.id rows ≡ Some old → in_seats (changed row.id (λ _. row) rows) ≡ inserted is_ahead (seat_of row) (without (seat_of old) (in_seats rows))
in_seats-changed row old rows h e = put_in row old rows h e ∙ ap (inserted is_ahead (seat_of row)) (in_seats-removed row.id old rows h e)

-- ---- a change that keeps the seat

seat_by : (row q : Row) → (q.id ≡ row.id → seat_of q ≡ seat_of row) → (b : Bool) → (q.id == row.id) ≡ b → seat_of (cond b row q) ≡ seat_of q
seat_by row q same true e = sym (same (are_same q.id row.id e))
seat_by row q same false e = refl

kept_seats : (row : Row) (rows : List Row) → AllByRecursion (λ q. q.id ≡ row.id → seat_of q ≡ seat_of row) rows → in_seats (changed row.id (λ _. row) rows) ≡ in_seats rows
kept_seats row [] h = refl
kept_seats row (q ∷ rows) h =
    ap (λ (t : Seat). inserted is_ahead t (in_seats (changed row.id (λ _. row) rows))) (seat_by row q h.0 (q.id == row.id) refl)
    ∙ ap (inserted is_ahead (seat_of q)) (kept_seats row rows h.1)

same_seats : (row old : Row) (xs : List Row) → seat_of old ≡ seat_of row → AllByRecursion (λ q. q.id ≡ row.id → q ≡ old) xs → AllByRecursion (λ q. q.id ≡ row.id → seat_of q ≡ seat_of row) xs
same_seats row old [] e h = tt
same_seats row old (q ∷ xs) e h = (λ same. ap seat_of (h.0 same) ∙ e, same_seats row old xs e h.1)

pub in_seats-same : (row old : Row) (rows : List Row) → IdsRise rows → row_of row.id rows ≡ Some old → seat_of old ≡ seat_of row → in_seats (changed row.id (λ _. row) rows) ≡ in_seats rows
in_seats-same row old rows h e same = kept_seats row rows (same_seats row old rows same (all_one row.id old rows h e))

-- ---- the seat of a row is there

any_inserted_by : (p : Seat → Bool) (a x : Seat) (xs : List Seat) → list_any p (inserted is_ahead a xs) ≡ (p a || list_any p xs) → (b u v : Bool) → p a ≡ u → p x ≡ v → list_any p (cond b (a ∷ x ∷ xs) (x ∷ inserted is_ahead a xs)) ≡ (u || (v || list_any p xs))
any_inserted_by p a x xs ih true u v e f = rw (e, f) refl
any_inserted_by p a x xs ih false true true e f = rw f refl
any_inserted_by p a x xs ih false true false e f = rw f (ih ∙ rw e refl)
any_inserted_by p a x xs ih false false true e f = rw f refl
any_inserted_by p a x xs ih false false false e f = rw f (ih ∙ rw e refl)

any_inserted : (p : Seat → Bool) (a : Seat) (xs : List Seat) → list_any p (inserted is_ahead a xs) ≡ (p a || list_any p xs)
any_inserted p a [] = refl
any_inserted p a (x ∷ xs) = any_inserted_by p a x xs (any_inserted p a xs) (is_ahead a x) (p a) (p x) refl refl

seated_by : (r q : Row) (o : Option Row) (there : Bool) → (o ≡ Some r → there ≡ true) → (b : Bool) → cond b (Some q) o ≡ Some r → (is_eq (seat_cmp (seat_of r) (seat_of q)) || there) ≡ true
seated_by r q o there ih true e =
    let same : q ≡ r = cc in
    ap (λ (b : Bool). b || there) (is_same (seat_of r) (seat_of q) (ap seat_of (sym same)))
seated_by r q o there ih false e = ap (λ (b : Bool). is_eq (seat_cmp (seat_of r) (seat_of q)) || b) (ih e) ∙ or_true (is_eq (seat_cmp (seat_of r) (seat_of q)))

pub seated : (id : ℕ) (r : Row) (rows : List Row) → row_of id rows ≡ Some r → list_any (λ u. is_eq (seat_cmp (seat_of r) u)) (in_seats rows) ≡ true
seated id r [] e = cc
seated id r (q ∷ rows) e =
    any_inserted (λ u. is_eq (seat_cmp (seat_of r) u)) (seat_of q) (in_seats rows)
    ∙ seated_by r q (row_of id rows) (list_any (λ u. is_eq (seat_cmp (seat_of r) u)) (in_seats rows)) (seated id r rows) (q.id == id) e

-- ---- a row put in the place of one with its key

inserted_swapped_by : (a b s x : Seat) (xs ys : List Seat) → ys ≡ swapped a b (inserted is_ahead s xs) → (c : Bool) → cond c (swap a b s ∷ swap a b x ∷ swapped a b xs) (swap a b x ∷ ys) ≡ swapped a b (cond c (s ∷ x ∷ xs) (x ∷ inserted is_ahead s xs))
inserted_swapped_by a b s x xs ys ih true = refl
inserted_swapped_by a b s x xs ys ih false = ap (λ (zs : List Seat). swap a b x ∷ zs) ih

inserted_swapped : (a b s : Seat) (xs : List Seat) → AllByRecursion (λ x. is_ahead (swap a b s) (swap a b x) ≡ is_ahead s x) xs → inserted is_ahead (swap a b s) (swapped a b xs) ≡ swapped a b (inserted is_ahead s xs)
inserted_swapped a b s [] h = refl
inserted_swapped a b s (x ∷ xs) h =
    ap (λ (c : Bool). cond c (swap a b s ∷ swap a b x ∷ swapped a b xs) (swap a b x ∷ inserted is_ahead (swap a b s) (swapped a b xs))) h.0
    ∙ inserted_swapped_by a b s x xs (inserted is_ahead (swap a b s) (swapped a b xs)) (inserted_swapped a b s xs h.1) (is_ahead s x)

swap_row_by : (row old q : Row) → (q.id ≡ row.id → q ≡ old) → old.id ≡ row.id → (c d : Bool) → (q.id == row.id) ≡ c → is_eq (seat_cmp (seat_of old) (seat_of q)) ≡ d → seat_of (cond c row q) ≡ cond d (seat_of row) (seat_of q)
swap_row_by row old q one is true true e f = refl
swap_row_by row old q one is true false e f =
    let no = sym f ∙ is_same (seat_of old) (seat_of q) (ap seat_of (sym (one (are_same q.id row.id e)))) in cc
swap_row_by row old q one is false true e f =
    let same : old.id ≡ q.id = ap (λ (t : Seat). t.id) (same_time (seat_of old) (seat_of q) f) in
    let never = sym e ∙ (ap (λ (n : ℕ). n == row.id) (sym same ∙ is) ∙ same_self row.id) in cc
swap_row_by row old q one is false false e f = refl

swapped_by : (row old : Row) (rows : List Row) → key_of row ≡ key_of old → old.id ≡ row.id → IdsRise rows → AllByRecursion (λ q. q.id ≡ row.id → q ≡ old) rows → in_seats (changed row.id (λ _. row) rows) ≡ swapped (seat_of old) (seat_of row) (in_seats rows)
swapped_by row old [] k is h one = refl
swapped_by row old (q ∷ rows) k is h one =
    let swaps : AllByRecursion (λ x. is_ahead (swap (seat_of old) (seat_of row) (seat_of q)) (swap (seat_of old) (seat_of row) x) ≡ is_ahead (seat_of q) x) (in_seats rows)
    = all_in_seats (λ x. is_ahead (swap (seat_of old) (seat_of row) (seat_of q)) (swap (seat_of old) (seat_of row) x) ≡ is_ahead (seat_of q) x) rows
    (all_of (λ x. q.id < x.id) (λ x. is_ahead (swap (seat_of old) (seat_of row) (seat_of q)) (swap (seat_of old) (seat_of row) (seat_of x)) ≡ is_ahead (seat_of q) (seat_of x))
    (λ x less. swap_ahead (seat_of old) (seat_of row) (seat_of q) (seat_of x) k (sym is) (λ e. absurd (omega (arith, e, less)))) rows h.0) in
    ap (λ (s : Seat). inserted is_ahead s (in_seats (changed row.id (λ _. row) rows))) (swap_row_by row old q one.0 is (q.id == row.id) (is_eq (seat_cmp (seat_of old) (seat_of q))) refl refl)
    ∙ (ap (inserted is_ahead (swap (seat_of old) (seat_of row) (seat_of q))) (swapped_by row old rows k is h.1 one.1)
    ∙ inserted_swapped (seat_of old) (seat_of row) (seat_of q) (in_seats rows) swaps)

pub in_seats-swapped : (row old : Row) (rows : List Row) → key_of row ≡ key_of old → IdsRise rows → row_of row.id rows ≡ Some old → in_seats (changed row.id (λ _. row) rows) ≡ swapped (seat_of old) (seat_of row) (in_seats rows)
in_seats-swapped row old rows k h e = swapped_by row old rows k (found_id row.id old rows e) h (all_one row.id old rows h e)
