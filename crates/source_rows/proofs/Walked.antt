-- A walk through a part of the order: what the next row of it tells, and where the walk enters the order again.
use Rattle.std.proofs.Common.{◌≡◌, ◌⊎◌, ℕ, ◌==◌, ◌&&◌, ◌||◌, Bool, true, false, not, cond, Option, Some, None, List, [], ◌∷◌, inl, inr, map, filter, option_map, refl, ap, sym, ◌∙◌, subst}
use Rattle.std.specs.List.{AllByRecursion, find}
use Rattle.std.specs.Option.{IsSome}
use Rattle.source_rows.specs.declared.row.Row.{Row}
use Rattle.source_rows.specs.declared.sight.Sight.{Sight}
use Rattle.source_rows.specs.InOrder.{AllFound, ids_of, rows_of}
use Rattle.source_rows.specs.declared.seats.Seat.{Seat}
use Rattle.source_rows.specs.Rows.{key_of, row_of, in_order}
use Rattle.source_rows.specs.Tree.{parent_of}
use Rattle.cancel_view.specs.Marks.{opening}
use Rattle.source_rows.specs.Candidates.{is_awake, may_call, sleeps}
use Rattle.source_rows.specs.Seats.{is_passed, seat_of}
use Rattle.source_rows.specs.Walk.{rows_behind}
use Rattle.source_rows.specs.Steps.{follows, comes, wakes, left_of, nearer, parent_at, is_parent, is_parent_id, is_above_id, is_above_last, ready_in, IsOfRow, HasLeft, IsStep}
use Rattle.source_rows.proofs.Compared.{same_self, are_same, and_both, or_parts}
use Rattle.source_rows.proofs.Lists.{all_true, all_filter}
use Rattle.source_rows.proofs.Order.{all_in_order}
use Rattle.source_rows.proofs.Forest.{members, found, all_found}
use Rattle.source_rows.proofs.Kept.{found_id}
use Rattle.source_rows.proofs.Listed.{same_rows, each_there}
use Rattle.source_rows.proofs.Found.{seat_ids}
use Rattle.source_rows.proofs.Steps.{awake_calls, parent_comes, find_passes, next_step, left_more, stepped}

-- ---- the first of what is left

first_by : (q r : Row) (rest qs us : List Row) (o : Option Row) → (us ≡ r ∷ rest → o ≡ Some r) → (b : Bool) → cond b (q ∷ qs) us ≡ r ∷ rest → cond b (Some q) o ≡ Some r
first_by q r rest qs us o ih true e = cc
first_by q r rest qs us o ih false e = ih e

first_left : (f : Row → Bool) (r : Row) (rest xs : List Row) → filter f xs ≡ r ∷ rest → find f xs ≡ Some r
first_left f r rest [] e = cc
first_left f r rest (q ∷ xs) e = first_by q r rest (filter f xs) (filter f xs) (find f xs) (first_left f r rest xs) (f q) e

pub ready_more : (rows : List Row) (sight : Sight) (r : Row) (e : Seat) (es : List Seat) → row_of e.id rows ≡ Some r → may_call sight rows r ≡ true → ready_in sight rows (e ∷ es) ≡ r ∷ ready_in sight rows es
ready_more rows sight r e es is may = rw (is, may) refl

pub ready_same : (rows : List Row) (sight : Sight) (r : Row) (e : Seat) (es : List Seat) → row_of e.id rows ≡ Some r → may_call sight rows r ≡ false → ready_in sight rows (e ∷ es) ≡ ready_in sight rows es
ready_same rows sight r e es is may = rw (is, may) refl

-- ---- whether the next row may be ready

above_calls : (rows : List Row) (sight : Sight) (last : Option Row) → IsStep rows sight last → (r : Row) → row_of r.id rows ≡ Some r → is_above_last last r ≡ true → may_call sight rows r ≡ true
above_calls rows sight None h r is a = cc
above_calls rows sight (Some l) h r is a = by_parent l.parent refl a
  where
    by_parent : (o : Option ℕ) → l.parent ≡ o → is_parent o r ≡ true → may_call sight rows r ≡ true
    by_parent None p k = cc
    by_parent (Some id) p k =
        let g = found (λ x. x ≡ x) l.id l rows (all_true (λ x. x ≡ x) (λ x. refl) rows) h.valid.0 in
        let there = found _ l.id l rows (members rows h.forest) h.valid.0 in
        let at : parent_of rows l.parent ≡ Some r = ap (parent_of rows) p ∙ (ap (λ (n : ℕ). row_of n rows) (are_same id r.id k) ∙ is) in
        (and_both (follows (Some l) r) (may_call sight rows r) (parent_comes rows h.forest h.apart sight l there h.valid.1 l.parent there.place r at).1).1

-- a row that is awake, or the parent of the last, may be ready
pub may : (rows : List Row) (sight : Sight) (last : Option Row) → IsStep rows sight last → (r : Row) → row_of r.id rows ≡ Some r → (is_awake sight r || is_above_last last r) ≡ true → may_call sight rows r ≡ true
may rows sight last h r is a = by_awake (is_awake sight r) refl a
  where
    by_awake : (b : Bool) → is_awake sight r ≡ b → (b || is_above_last last r) ≡ true → may_call sight rows r ≡ true
    by_awake true w k = awake_calls rows (members rows h.forest) sight r (found _ r.id r rows (members rows h.forest) is) w
    by_awake false w k = above_calls rows sight last h r is k

nearer_from : (o p : Option Row) (r : Row) → nearer o p ≡ Some r → (o ≡ Some r) ⊎ (p ≡ Some r)
nearer_from None p r e = inr e
nearer_from (Some x) None r e = inl e
nearer_from (Some x) (Some y) r e = by_first _ e
  where
    by_first : (b : Bool) → cond b (Some y) (Some x) ≡ Some r → (Some x ≡ Some r) ⊎ (Some y ≡ Some r)
    by_first true k = inr k
    by_first false k = inl k

above_last : (rows : List Row) (last : Option Row) (r : Row) → parent_at rows last ≡ Some r → is_above_last last r ≡ true
above_last rows None r e = cc
above_last rows (Some l) r e = by_parent l.parent e
  where
    by_parent : (o : Option ℕ) → parent_of rows o ≡ Some r → is_parent o r ≡ true
    by_parent None k = cc
    by_parent (Some id) k = subst (λ (n : ℕ). (id == n) ≡ true) (sym (found_id id r rows k)) (same_self id)

-- the first of a part that has all that is left may not, where it is neither
pub may_not : (rows : List Row) (sight : Sight) (last : Option Row) → IsStep rows sight last → (r : Row) (e : Seat) (es : List Seat) → HasLeft rows sight last (e ∷ es) → row_of e.id rows ≡ Some r
    → (is_awake sight r || is_above_last last r) ≡ false → may_call sight rows r ≡ false
may_not rows sight last h r e es left is a = by_may (may_call sight rows r) refl
  where
    by_may : (b : Bool) → may_call sight rows r ≡ b → b ≡ false
    by_may false m = refl
    by_may true m =
        let first = first_left (comes sight rows last) r (ready_in sight rows es) (in_order rows) (sym left.ready ∙ ready_more rows sight r e es is m) in
        let two = or_parts (is_awake sight r) (is_above_last last r) a in
        elim (nearer_from (find (wakes sight last) (in_order rows)) (parent_at rows last) r (sym (next_step rows sight last h) ∙ first)) [
          | inl w ↦ let never = sym (and_both (follows last r) (is_awake sight r) (find_passes (wakes sight last) r (in_order rows) w)).1 ∙ two.0 in cc
          | inr p ↦ let never = sym (above_last rows last r p) ∙ two.1 in cc
        ]

-- such a row is passed over
pub dropped : (rows : List Row) (sight : Sight) (last : Option Row) → IsStep rows sight last → (r : Row) (e : Seat) (all es : List Seat) → HasLeft rows sight last all → all ≡ e ∷ es → row_of e.id rows ≡ Some r
    → (is_awake sight r || is_above_last last r) ≡ false → HasLeft rows sight last es × (ready_in sight rows all ≡ ready_in sight rows es)
dropped rows sight last h r e all es left k is a =
    let mine : HasLeft rows sight last (e ∷ es) = subst (HasLeft rows sight last) k left in
    let same = ready_same rows sight r e es is (may_not rows sight last h r e es mine is a) in
    (record { found = mine.found.1; are = mine.are.1; ready = sym same ∙ mine.ready }, ap (ready_in sight rows) k ∙ same)

same_above : (last : Option Row) (r : Row) → is_above_id last r.id ≡ is_above_last last r
same_above None r = refl
same_above (Some l) r = by_parent l.parent
  where
    by_parent : (o : Option ℕ) → is_parent_id o r.id ≡ is_parent o r
    by_parent None = refl
    by_parent (Some id) = refl

-- what a seat tells of its row
pub told : (rows : List Row) (sight : Sight) (last : Option Row) (e : Seat) (r : Row) → IsOfRow rows e → row_of e.id rows ≡ Some r → (not (sleeps sight (opening e.mark) e.due) || is_above_id last e.id) ≡ (is_awake sight r || is_above_last last r)
told rows sight last e r own is =
    ap (λ (s : Seat). not (sleeps sight (opening s.mark) s.due) || is_above_id last s.id) (own r is)
    ∙ ap (λ (b : Bool). is_awake sight r || b) (same_above last r)

none_found : (rows : List Row) (id : ℕ) → IsSome (row_of id rows) → row_of id rows ≡ None → ⊥
none_found rows id s e = let no : false ≡ true = subst IsSome e s in cc

-- a seat that sleeps and is not that of the parent of the last row is passed over
pub passed : (rows : List Row) (sight : Sight) (last : Option Row) → IsStep rows sight last → (e : Seat) (all es : List Seat) → HasLeft rows sight last all → all ≡ e ∷ es
    → (not (sleeps sight (opening e.mark) e.due) || is_above_id last e.id) ≡ false → HasLeft rows sight last es × (ready_in sight rows all ≡ ready_in sight rows es)
passed rows sight last h e all es left k a = by (row_of e.id rows) refl
  where
    mine : HasLeft rows sight last (e ∷ es)
    mine = subst (HasLeft rows sight last) k left

    by : (o : Option Row) → row_of e.id rows ≡ o → HasLeft rows sight last es × (ready_in sight rows all ≡ ready_in sight rows es)
    by None is = absurd (none_found rows e.id mine.found.0 is)
    by (Some r) is = dropped rows sight last h r e all es left k is (sym (told rows sight last e r mine.are.0 is) ∙ a)

pub own_row : (rows : List Row) (id : ℕ) (r : Row) → row_of id rows ≡ Some r → row_of r.id rows ≡ Some r
own_row rows id r is = ap (λ (n : ℕ). row_of n rows) (found_id id r rows is) ∙ is

-- ---- after a row

-- what is left of the part behind the row that came is what is left behind the row
pub advanced : (rows : List Row) (sight : Sight) (last : Option Row) → IsStep rows sight last → (r : Row) (es fs : List Seat) → HasLeft rows sight last es → ready_in sight rows es ≡ r ∷ ready_in sight rows fs → AllFound rows (ids_of fs)
    → AllByRecursion (IsOfRow rows) fs → HasLeft rows sight (Some r) fs × IsStep rows sight (Some r)
advanced rows sight last h r es fs left more there are =
    let first = first_left (comes sight rows last) r (ready_in sight rows fs) (in_order rows) (sym left.ready ∙ more) in
    let both : r ∷ ready_in sight rows fs ≡ r ∷ left_of sight rows (Some r) = sym more ∙ (left.ready ∙ left_more rows sight last r h.apart first) in
    (record { found = there; are = are; ready = tails _ _ both }, stepped rows sight last r h first)
  where
    tails : (us vs : List Row) → r ∷ us ≡ r ∷ vs → us ≡ vs
    tails us vs k = cc

-- ---- the order entered behind a row

pub filter_twice : (f g : Row → Bool) (xs : List Row) → filter g (filter f xs) ≡ filter (λ x. f x && g x) xs
filter_twice f g [] = refl
filter_twice f g (x ∷ xs) = by_test (f x) (filter_twice f g xs)
  where
    by_test : (b : Bool) → filter g (filter f xs) ≡ filter (λ y. f y && g y) xs → filter g (cond b (x ∷ filter f xs) (filter f xs)) ≡ cond (b && g x) (x ∷ filter (λ y. f y && g y) xs) (filter (λ y. f y && g y) xs)
    by_test true ih = ap (λ (ys : List Row). cond (g x) (x ∷ ys) ys) ih
    by_test false ih = ih

own_seat : (rows : List Row) (r : Row) → row_of r.id rows ≡ Some r → IsOfRow rows (seat_of r)
own_seat rows r is q e = let same : r ≡ q = cc in ap seat_of same

each_seat : (rows rest : List Row) → AllByRecursion (λ r. row_of r.id rows ≡ Some r) rest → AllByRecursion (IsOfRow rows) (map seat_of rest)
each_seat rows [] k = tt
each_seat rows (r ∷ rest) k = (own_seat rows r k.0, each_seat rows rest k.1)

pub entered : (rows : List Row) (sight : Sight) (last : Option Row) → IsStep rows sight last → HasLeft rows sight last (map seat_of (rows_behind (option_map key_of last) rows))
entered rows sight last h =
    let rest : List Row = filter (follows last) (in_order rows) in
    let ids : ids_of (map seat_of rest) ≡ map (λ (r : Row). r.id) rest = seat_ids rest in
    let each : AllByRecursion (λ r. row_of r.id rows ≡ Some r) rest =
    all_filter (λ r. row_of r.id rows ≡ Some r) (follows last) (in_order rows) (all_in_order (λ r. row_of r.id rows ≡ Some r) rows (all_found rows h.forest.rising)) in
    record {
      found = subst (AllFound rows) (sym ids) (each_there rows rest each);
      are = each_seat rows rest each;
      ready = ap (λ (l : List ℕ). filter (may_call sight rows) (rows_of rows l)) ids ∙ (ap (filter (may_call sight rows)) (same_rows rows rest each) ∙ filter_twice (follows last) (may_call sight rows) (in_order rows));
    }

all_rows : (rows : List Row) → filter (λ r. not (is_passed None (key_of r))) rows ≡ rows
all_rows [] = refl
all_rows (r ∷ rows) = ap (λ (xs : List Row). r ∷ xs) (all_rows rows)

-- the ids of all seats
pub all_seats : (rows : List Row) → ids_of (map seat_of (rows_behind None rows)) ≡ map (λ (r : Row). r.id) (in_order rows)
all_seats rows = seat_ids (rows_behind None rows) ∙ ap (map (λ (r : Row). r.id)) (all_rows (in_order rows))
