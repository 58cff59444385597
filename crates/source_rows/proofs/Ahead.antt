-- What follows for seats: their order, one among them, and the least times.
use Rattle.std.proofs.Common.{◌≡◌, length, Option, ◌≢◌, ◌⊎◌, ℕ, ℤ, int_lt, Bool, true, false, not, cond, ◌||◌, Some, None, List, [], ◌∷◌, ◌++◌, inl, inr, filter, refl, ap, sym, ◌∙◌, ap₂, arith}
use Rattle.std.proofs.lemmas.Bool.Decides.{nat_tests}
use Rattle.std.proofs.lemmas.Int.{ints}
use Rattle.std.proofs.lemmas.List.Sorted.{ranks_by}
use Rattle.std.specs.Cmp.{IsTotalOrder, IsStrictWeakOrder, then_total, on_total, nat_cmp_total, tied_itself}
use Rattle.std.specs.List.{AllByRecursion, list_any}
use Rattle.std.specs.Ordering.{is_lt, is_eq, ordering_then, ordering_reverse, int_cmp, nat_cmp}
use Rattle.std.specs.declared.cmp.Ordering.{Ordering}
use Rattle.std.specs.declared.cmp.Ordering.TheVariants.{Less, Equal, Greater}
use Rattle.source_rows.specs.Inserted.{Rises}
use Rattle.source_rows.specs.declared.seats.Seat.{Seat}
use Rattle.source_rows.specs.Seats.{seat_cmp, is_ahead, without, least_by, marks_of, is_passed, first_awake, swap, swapped}
use Rattle.std.specs.Cmp.Lexicographic.{slice_cmp}
use Rattle.std.proofs.lemmas.Map.Lookups.{exact_bytes}
use Rattle.source_rows.specs.Rows.{Key, key_cmp}
use Rattle.source_rows.proofs.Order.{key_total}
use Rattle.source_rows.proofs.Compared.{or_true}
use Rattle.source_rows.proofs.Lists.{all_of}
use Rattle.source_rows.proofs.AllMarks.{all_sleep}
use Rattle.cancel_view.specs.Marks.{opening}
use Rattle.source_rows.specs.Candidates.{sleeps}
use Rattle.source_rows.specs.declared.sight.Sight.{Sight}
use Rattle.source_rows.proofs.Inserted.{all_left, all_right, trans}

-- ---- the order

pub seat_total : IsTotalOrder seat_cmp
seat_total =
    then_total (on_total (λ (t : Seat). t.key) key_total)
    (then_total (on_total (λ (t : Seat). t.id) nat_cmp_total) (then_total (on_total (λ (t : Seat). t.mark) nat_cmp_total) (on_total (λ (t : Seat). t.due) nat_cmp_total)))

pub sooner_order : IsStrictWeakOrder is_ahead
sooner_order = ranks_by seat_total (λ (t : Seat). t)

same_number : (x y : ℕ) → nat_cmp x y ≡ Equal → x ≡ y
same_number x y h = grind (arith, nat_tests)

same_int_by : (x y : ℤ) (a b : Bool) → int_lt x y ≡ a → int_lt y x ≡ b → cond a Less (cond b Greater Equal) ≡ Equal → x ≡ y
same_int_by x y true b e f h = cc
same_int_by x y false true e f h = cc
same_int_by x y false false e f h = grind (arith, ints)

same_int : (x y : ℤ) → int_cmp x y ≡ Equal → x ≡ y
same_int x y h = same_int_by x y (int_lt x y) (int_lt y x) refl refl h

then_equal : (a b : Ordering) → ordering_then a b ≡ Equal → (a ≡ Equal) × (b ≡ Equal)
then_equal Less b h = cc
then_equal Equal b h = (refl, h)
then_equal Greater b h = cc

equal_by : (o : Ordering) → is_eq o ≡ true → o ≡ Equal
equal_by Less h = cc
equal_by Equal h = refl
equal_by Greater h = cc

less_by : (o : Ordering) → is_lt o ≡ true → o ≡ Less
less_by Less h = refl
less_by Equal h = cc
less_by Greater h = cc

-- times that the order doesn't tell apart are one
pub same_key : (a b : Key) → key_cmp a b ≡ Equal → a ≡ b
same_key a b h =
    let t = then_equal (int_cmp a.0 b.0) (slice_cmp nat_cmp a.1 b.1) h in
    ap₂ (λ (x : ℤ) (y : List ℕ). let c : Key = (x, y) in c) (same_int a.0 b.0 t.0) (exact_bytes a.1 b.1 t.1)

pub same_from_equal : (a b : Seat) → seat_cmp a b ≡ Equal → a ≡ b
same_from_equal a b h =
    let times = ordering_then (nat_cmp a.mark b.mark) (nat_cmp a.due b.due) in
    let t = then_equal (key_cmp a.key b.key) (ordering_then (nat_cmp a.id b.id) times) h in
    let u = then_equal (nat_cmp a.id b.id) times t.1 in
    let v = then_equal (nat_cmp a.mark b.mark) (nat_cmp a.due b.due) u.1 in
    let seat = λ (k : Key) (n w d : ℕ). let c : Seat = record { key = k; id = n; mark = w; due = d } in c in
    ap (λ (k : Key). seat k a.id a.mark a.due) (same_key a.key b.key t.0)
    ∙ (ap (λ (n : ℕ). seat b.key n a.mark a.due) (same_number a.id b.id u.0)
    ∙ (ap (λ (w : ℕ). seat b.key b.id w a.due) (same_number a.mark b.mark v.0)
    ∙ ap (λ (d : ℕ). seat b.key b.id b.mark d) (same_number a.due b.due v.1)))

pub equal_from_same : (a b : Seat) → a ≡ b → seat_cmp a b ≡ Equal
equal_from_same a b e = ap (seat_cmp a) (sym e) ∙ tied_itself seat_total a

pub same_time : (a b : Seat) → is_eq (seat_cmp a b) ≡ true → a ≡ b
same_time a b h = same_from_equal a b (equal_by (seat_cmp a b) h)

pub is_same : (a b : Seat) → a ≡ b → is_eq (seat_cmp a b) ≡ true
is_same a b e = ap is_eq (equal_from_same a b e)

-- ---- what each answer says

pub less_from_sooner : (a b : Seat) → is_ahead a b ≡ true → seat_cmp a b ≡ Less
less_from_sooner a b h = less_by (seat_cmp a b) h

pub greater_from_sooner : (a b : Seat) → is_ahead b a ≡ true → seat_cmp a b ≡ Greater
greater_from_sooner a b h = seat_total.antisymm a b ∙ ap ordering_reverse (less_from_sooner b a h)

pub turned : (a b : Seat) (o : Ordering) → seat_cmp a b ≡ o → seat_cmp b a ≡ ordering_reverse o
turned a b o e = seat_total.antisymm b a ∙ ap ordering_reverse e

pub less_sooner : (a b : Seat) → seat_cmp a b ≡ Less → is_ahead a b ≡ true
less_sooner a b e = ap is_lt e

pub less_back : (a b : Seat) → seat_cmp a b ≡ Less → is_ahead b a ≡ false
less_back a b e = ap is_lt (turned a b Less e)

pub less_apart : (a b : Seat) → seat_cmp a b ≡ Less → is_eq (seat_cmp a b) ≡ false
less_apart a b e = ap is_eq e

pub greater_sooner : (a b : Seat) → seat_cmp a b ≡ Greater → is_ahead a b ≡ false
greater_sooner a b e = ap is_lt e

pub greater_back : (a b : Seat) → seat_cmp a b ≡ Greater → is_ahead b a ≡ true
greater_back a b e = ap is_lt (turned a b Greater e)

pub greater_apart : (a b : Seat) → seat_cmp a b ≡ Greater → is_eq (seat_cmp a b) ≡ false
greater_apart a b e = ap is_eq e

pub equal_sooner : (a b : Seat) → seat_cmp a b ≡ Equal → is_ahead a b ≡ false
equal_sooner a b e = ap is_lt e

pub equal_back : (a b : Seat) → seat_cmp a b ≡ Equal → is_ahead b a ≡ false
equal_back a b e = ap is_lt (turned a b Equal e)

pub equal_same : (a b : Seat) → seat_cmp a b ≡ Equal → is_eq (seat_cmp a b) ≡ true
equal_same a b e = ap is_eq e

pub apart_sooner : (a b : Seat) → is_ahead a b ≡ true → is_eq (seat_cmp a b) ≡ false
apart_sooner a b h = less_apart a b (less_from_sooner a b h)

pub apart_later : (a b : Seat) → is_ahead b a ≡ true → is_eq (seat_cmp a b) ≡ false
apart_later a b h = greater_apart a b (greater_from_sooner a b h)

apart_by : (a b : Seat) (o : Ordering) → seat_cmp a b ≡ o → (o ≡ Equal → ⊥) → (is_ahead a b ≡ true) ⊎ (is_ahead b a ≡ true)
apart_by a b Less e h = inl (less_sooner a b e)
apart_by a b Equal e h = absurd (h refl)
apart_by a b Greater e h = inr (greater_back a b e)

neither_by : (a b : Seat) (o : Ordering) → seat_cmp a b ≡ o → is_lt o ≡ false → is_eq o ≡ false → is_ahead b a ≡ true
neither_by a b Less e h k = cc
neither_by a b Equal e h k = cc
neither_by a b Greater e h k = greater_back a b e

-- what neither stands before another nor is it stands behind it
pub behind : (a b : Seat) → is_ahead a b ≡ false → is_eq (seat_cmp a b) ≡ false → is_ahead b a ≡ true
behind a b h k = neither_by a b (seat_cmp a b) refl h k

-- of two rows' times one is sooner
pub apart_ids : (a b : Seat) → a.id ≢ b.id → (is_ahead a b ≡ true) ⊎ (is_ahead b a ≡ true)
apart_ids a b h = apart_by a b (seat_cmp a b) refl (λ e. h (ap (λ (t : Seat). t.id) (same_from_equal a b e)))

-- ---- one time taken out, where the times are split at one of them

pub filter_join : (p : Seat → Bool) (l r : List Seat) → filter p (l ++ r) ≡ filter p l ++ filter p r
filter_join p [] r = refl
filter_join p (x ∷ l) r = by_test (filter_join p l r) (p x)
  where
    by_test : filter p (l ++ r) ≡ filter p l ++ filter p r → (b : Bool) → cond b (x ∷ filter p (l ++ r)) (filter p (l ++ r)) ≡ cond b (x ∷ filter p l) (filter p l) ++ filter p r
    by_test ih true = ap (λ (ys : List Seat). x ∷ ys) ih
    by_test ih false = ih

-- a time takes nothing out of what it isn't among
pub without_none : (t : Seat) (xs : List Seat) → AllByRecursion (λ u. is_eq (seat_cmp t u) ≡ false) xs → without t xs ≡ xs
without_none t [] h = refl
without_none t (u ∷ xs) h = rw h.0 (ap (λ (ys : List Seat). u ∷ ys) (without_none t xs h.1))

all_later : (t k : Seat) (xs : List Seat) → is_ahead t k ≡ true → AllByRecursion (λ u. is_ahead k u ≡ true) xs → AllByRecursion (λ u. is_eq (seat_cmp t u) ≡ false) xs
all_later t k xs h s = all_of (λ u. is_ahead k u ≡ true) (λ u. is_eq (seat_cmp t u) ≡ false) (λ u e. apart_sooner t u (trans is_ahead sooner_order t k u h e)) xs s

all_sooner : (t k : Seat) (xs : List Seat) → is_ahead k t ≡ true → AllByRecursion (λ u. is_ahead u k ≡ true) xs → AllByRecursion (λ u. is_eq (seat_cmp t u) ≡ false) xs
all_sooner t k xs h s = all_of (λ u. is_ahead u k ≡ true) (λ u. is_eq (seat_cmp t u) ≡ false) (λ u e. apart_later t u (trans is_ahead sooner_order u k t e h)) xs s

pub without_left : (t : Seat) (l : List Seat) (k : Seat) (r : List Seat) → Rises is_ahead (l ++ k ∷ r) → is_ahead t k ≡ true → without t (l ++ k ∷ r) ≡ without t l ++ k ∷ r
without_left t l k r s h =
    let others : without t (k ∷ r) ≡ k ∷ r = without_none t (k ∷ r) (apart_sooner t k h, all_later t k r h (all_right is_ahead l k r s)) in
    filter_join (λ u. not (is_eq (seat_cmp t u))) l (k ∷ r) ∙ ap (λ (ys : List Seat). without t l ++ ys) others

pub without_right : (t : Seat) (l : List Seat) (k : Seat) (r : List Seat) → Rises is_ahead (l ++ k ∷ r) → is_ahead k t ≡ true → without t (l ++ k ∷ r) ≡ l ++ k ∷ without t r
without_right t l k r s h =
    let others : without t l ≡ l = without_none t l (all_sooner t k l h (all_left is_ahead l k r s)) in
    let kept : without t (k ∷ r) ≡ k ∷ without t r = rw (apart_later t k h) refl in
    filter_join (λ u. not (is_eq (seat_cmp t u))) l (k ∷ r) ∙ (ap (λ (ys : List Seat). ys ++ without t (k ∷ r)) others ∙ ap (λ (ys : List Seat). l ++ ys) kept)

pub all_apart_left : (k : Seat) (xs : List Seat) → AllByRecursion (λ u. is_ahead u k ≡ true) xs → AllByRecursion (λ u. is_eq (seat_cmp k u) ≡ false) xs
all_apart_left k xs s = all_of (λ u. is_ahead u k ≡ true) (λ u. is_eq (seat_cmp k u) ≡ false) (λ u e. apart_later k u e) xs s

pub all_apart_right : (k : Seat) (xs : List Seat) → AllByRecursion (λ u. is_ahead k u ≡ true) xs → AllByRecursion (λ u. is_eq (seat_cmp k u) ≡ false) xs
all_apart_right k xs s = all_of (λ u. is_ahead k u ≡ true) (λ u. is_eq (seat_cmp k u) ≡ false) (λ u e. apart_sooner k u e) xs s

pub without_here : (l : List Seat) (k : Seat) (r : List Seat) → Rises is_ahead (l ++ k ∷ r) → without k (l ++ k ∷ r) ≡ l ++ r
without_here l k r s =
    let front : without k l ≡ l = without_none k l (all_apart_left k l (all_left is_ahead l k r s)) in
    let back : without k r ≡ r = without_none k r (all_apart_right k r (all_right is_ahead l k r s)) in
    let gone : without k (k ∷ r) ≡ r = rw (is_same k k refl) back in
    filter_join (λ u. not (is_eq (seat_cmp k u))) l (k ∷ r) ∙ (ap (λ (ys : List Seat). ys ++ without k (k ∷ r)) front ∙ ap (λ (ys : List Seat). l ++ ys) gone)

-- ---- whether a time is there

pub any_join : (p : Seat → Bool) (l r : List Seat) → list_any p (l ++ r) ≡ (list_any p l || list_any p r)
any_join p [] r = refl
any_join p (x ∷ l) r = by_test (any_join p l r) (p x)
  where
    by_test : list_any p (l ++ r) ≡ (list_any p l || list_any p r) → (b : Bool) → (b || list_any p (l ++ r)) ≡ ((b || list_any p l) || list_any p r)
    by_test ih true = refl
    by_test ih false = ih

pub any_none : (p : Seat → Bool) (xs : List Seat) → AllByRecursion (λ u. p u ≡ false) xs → list_any p xs ≡ false
any_none p [] h = refl
any_none p (u ∷ xs) h = ap (λ (b : Bool). b || list_any p xs) h.0 ∙ any_none p xs h.1

pub or_false : (b : Bool) → (b || false) ≡ b
or_false true = refl
or_false false = refl

pub there_left : (t : Seat) (l : List Seat) (k : Seat) (r : List Seat) → Rises is_ahead (l ++ k ∷ r) → is_ahead t k ≡ true → list_any (λ u. is_eq (seat_cmp t u)) (l ++ k ∷ r) ≡ list_any (λ u. is_eq (seat_cmp t u)) l
there_left t l k r s h =
    let none : list_any (λ u. is_eq (seat_cmp t u)) (k ∷ r) ≡ false = any_none (λ u. is_eq (seat_cmp t u)) (k ∷ r) (apart_sooner t k h, all_later t k r h (all_right is_ahead l k r s)) in
    any_join (λ u. is_eq (seat_cmp t u)) l (k ∷ r) ∙ (ap (λ (b : Bool). list_any (λ u. is_eq (seat_cmp t u)) l || b) none ∙ or_false (list_any (λ u. is_eq (seat_cmp t u)) l))

pub there_right : (t : Seat) (l : List Seat) (k : Seat) (r : List Seat) → Rises is_ahead (l ++ k ∷ r) → is_ahead k t ≡ true → list_any (λ u. is_eq (seat_cmp t u)) (l ++ k ∷ r) ≡ list_any (λ u. is_eq (seat_cmp t u)) r
there_right t l k r s h =
    let none : list_any (λ u. is_eq (seat_cmp t u)) l ≡ false = any_none (λ u. is_eq (seat_cmp t u)) l (all_sooner t k l h (all_left is_ahead l k r s)) in
    any_join (λ u. is_eq (seat_cmp t u)) l (k ∷ r) ∙ (ap (λ (b : Bool). b || list_any (λ u. is_eq (seat_cmp t u)) (k ∷ r)) none ∙ ap (λ (b : Bool). b || list_any (λ u. is_eq (seat_cmp t u)) r) (apart_later t k h))

pub there_here : (t : Seat) (l : List Seat) (k : Seat) (r : List Seat) → t ≡ k → list_any (λ u. is_eq (seat_cmp t u)) (l ++ k ∷ r) ≡ true
there_here t l k r e =
    let here : list_any (λ u. is_eq (seat_cmp t u)) (k ∷ r) ≡ true = ap (λ (b : Bool). b || list_any (λ u. is_eq (seat_cmp t u)) r) (is_same t k e) in
    any_join (λ u. is_eq (seat_cmp t u)) l (k ∷ r) ∙ (ap (λ (b : Bool). list_any (λ u. is_eq (seat_cmp t u)) l || b) here ∙ or_true (list_any (λ u. is_eq (seat_cmp t u)) l))

-- ---- the first seat behind a key that does not sleep

asleep_at : (after : Option Key) (sight : Sight) (s : Seat) (o : Option ℕ) → sleeps sight (opening s.mark) s.due ≡ true → o ≡ None → (b : Bool) → cond b o (cond (sleeps sight (opening s.mark) s.due) o (Some s.id)) ≡ None
asleep_at after sight s o h e true = e
asleep_at after sight s o h e false = ap (λ (b : Bool). cond b o (Some s.id)) h ∙ e

-- where all their marks and their least time sleep, each seat does
pub none_awake : (after : Option Key) (sight : Sight) (xs : List Seat) → sleeps sight (marks_of xs) (least_by (λ s. s.due) xs) ≡ true → first_awake after sight xs ≡ None
none_awake after sight [] h = refl
none_awake after sight (s ∷ xs) h =
    let two = all_sleep sight s xs h in
    asleep_at after sight s (first_awake after sight xs) two.0 (none_awake after sight xs two.1) (is_passed after s.key)

awake_some_by : (z : ℕ) (s : Seat) (o p : Option ℕ) → (o ≡ Some z → p ≡ Some z) → (b v : Bool) → cond b o (cond v o (Some s.id)) ≡ Some z → cond b p (cond v p (Some s.id)) ≡ Some z
awake_some_by z s o p ih true v h = ih h
awake_some_by z s o p ih false true h = ih h
awake_some_by z s o p ih false false h = h

pub awake_join_some : (after : Option Key) (sight : Sight) (z : ℕ) (l r : List Seat) → first_awake after sight l ≡ Some z → first_awake after sight (l ++ r) ≡ Some z
awake_join_some after sight z [] r h = cc
awake_join_some after sight z (s ∷ l) r h = awake_some_by z s (first_awake after sight l) (first_awake after sight (l ++ r)) (awake_join_some after sight z l r) (is_passed after s.key) (sleeps sight (opening s.mark) s.due) h

awake_none_by : (s : Seat) (o p q : Option ℕ) → (o ≡ None → p ≡ q) → (b v : Bool) → cond b o (cond v o (Some s.id)) ≡ None → cond b p (cond v p (Some s.id)) ≡ q
awake_none_by s o p q ih true v h = ih h
awake_none_by s o p q ih false true h = ih h
awake_none_by s o p q ih false false h = cc

pub awake_join_none : (after : Option Key) (sight : Sight) (l r : List Seat) → first_awake after sight l ≡ None → first_awake after sight (l ++ r) ≡ first_awake after sight r
awake_join_none after sight [] r h = refl
awake_join_none after sight (s ∷ l) r h = awake_none_by s (first_awake after sight l) (first_awake after sight (l ++ r)) (first_awake after sight r) (awake_join_none after sight l r) (is_passed after s.key) (sleeps sight (opening s.mark) s.due) h

-- a key that does not stand behind one that is passed is passed
pub key_by : (o p : Ordering) → is_lt (ordering_then o p) ≡ true → (o ≡ Less) ⊎ (o ≡ Equal)
key_by Less p h = inl refl
key_by Equal p h = inr refl
key_by Greater p h = cc

lt_of : (o : Ordering) → o ≡ Less → is_lt o ≡ true
lt_of o e = ap is_lt e

pub key_order : IsStrictWeakOrder (λ (a b : Key). is_lt (key_cmp a b))
key_order = ranks_by key_total (λ (k : Key). k)

not_true : (b : Bool) → not b ≡ true → b ≡ false
not_true true h = cc
not_true false h = refl

behind_by : (a x k : Key) → is_lt (key_cmp a k) ≡ false → (key_cmp x k ≡ Less) ⊎ (key_cmp x k ≡ Equal) → (b : Bool) → is_lt (key_cmp a x) ≡ b → not b ≡ true
behind_by a x k h o false e = refl
behind_by a x k h (inl o) true e = let no = sym h ∙ trans (λ (a b : Key). is_lt (key_cmp a b)) key_order a x k e (lt_of (key_cmp x k) o) in cc
behind_by a x k h (inr o) true e = let no = sym h ∙ (ap (λ (y : Key). is_lt (key_cmp a y)) (sym (same_key x k o)) ∙ e) in cc

pub passed_by : (after : Option Key) (x k : Seat) → is_ahead x k ≡ true → is_passed after k.key ≡ true → is_passed after x.key ≡ true
passed_by None x k h p = p
passed_by (Some a) x k h p = behind_by a x.key k.key (not_true (is_lt (key_cmp a k.key)) p) (key_by (key_cmp x.key k.key) _ h) (is_lt (key_cmp a x.key)) refl

none_behind : (after : Option Key) (sight : Sight) (k : Seat) (xs : List Seat) → is_passed after k.key ≡ true → AllByRecursion (λ u. is_ahead u k ≡ true) xs → first_awake after sight xs ≡ None
none_behind after sight k [] p h = refl
none_behind after sight k (s ∷ xs) p h =
    ap (λ (b : Bool). cond b (first_awake after sight xs) (cond (sleeps sight (opening s.mark) s.due) (first_awake after sight xs) (Some s.id))) (passed_by after s k h.0 p) ∙ none_behind after sight k xs p h.1

pub awake_right : (after : Option Key) (sight : Sight) (l : List Seat) (k : Seat) (r : List Seat) → Rises is_ahead (l ++ k ∷ r) → is_passed after k.key ≡ true → first_awake after sight (l ++ k ∷ r) ≡ first_awake after sight r
awake_right after sight l k r s p =
    awake_join_none after sight l (k ∷ r) (none_behind after sight k l p (all_left is_ahead l k r s))
    ∙ ap (λ (b : Bool). cond b (first_awake after sight r) (cond (sleeps sight (opening k.mark) k.due) (first_awake after sight r) (Some k.id))) p

pub awake_here : (after : Option Key) (sight : Sight) (l : List Seat) (k : Seat) (r : List Seat) → is_passed after k.key ≡ false → sleeps sight (opening k.mark) k.due ≡ false → first_awake after sight l ≡ None → first_awake after sight (l ++ k ∷ r) ≡ Some k.id
awake_here after sight l k r p n h = awake_join_none after sight l (k ∷ r) h ∙ rw (p, n) refl

pub awake_over : (after : Option Key) (sight : Sight) (l : List Seat) (k : Seat) (r : List Seat) → is_passed after k.key ≡ false → sleeps sight (opening k.mark) k.due ≡ true → first_awake after sight l ≡ None → first_awake after sight (l ++ k ∷ r) ≡ first_awake after sight r
awake_over after sight l k r p n h = awake_join_none after sight l (k ∷ r) h ∙ rw (p, n) refl

pub awake_left : (after : Option Key) (sight : Sight) (z : ℕ) (l : List Seat) (k : Seat) (r : List Seat) → first_awake after sight l ≡ Some z → first_awake after sight (l ++ k ∷ r) ≡ Some z
awake_left after sight z l k r h = awake_join_some after sight z l (k ∷ r) h

-- ---- a seat put where another stands

pub swapped_join : (a b : Seat) (l r : List Seat) → swapped a b (l ++ r) ≡ swapped a b l ++ swapped a b r
swapped_join a b [] r = refl
swapped_join a b (x ∷ l) r = ap (λ (ys : List Seat). swap a b x ∷ ys) (swapped_join a b l r)

pub swapped_none : (a b : Seat) (xs : List Seat) → AllByRecursion (λ u. is_eq (seat_cmp a u) ≡ false) xs → swapped a b xs ≡ xs
swapped_none a b [] h = refl
swapped_none a b (x ∷ xs) h = rw h.0 (ap (λ (ys : List Seat). x ∷ ys) (swapped_none a b xs h.1))

pub swapped_left : (a b : Seat) (l : List Seat) (k : Seat) (r : List Seat) → Rises is_ahead (l ++ k ∷ r) → is_ahead a k ≡ true → swapped a b (l ++ k ∷ r) ≡ swapped a b l ++ k ∷ r
swapped_left a b l k r s h =
    swapped_join a b l (k ∷ r) ∙ ap (λ (ys : List Seat). swapped a b l ++ ys) (swapped_none a b (k ∷ r) (apart_sooner a k h, all_later a k r h (all_right is_ahead l k r s)))

pub swapped_right : (a b : Seat) (l : List Seat) (k : Seat) (r : List Seat) → Rises is_ahead (l ++ k ∷ r) → is_ahead k a ≡ true → swapped a b (l ++ k ∷ r) ≡ l ++ k ∷ swapped a b r
swapped_right a b l k r s h =
    swapped_join a b l (k ∷ r) ∙ (ap (λ (ys : List Seat). ys ++ swapped a b (k ∷ r)) (swapped_none a b l (all_sooner a k l h (all_left is_ahead l k r s)))
    ∙ ap (λ (c : Bool). l ++ cond c b k ∷ swapped a b r) (apart_later a k h))

pub swapped_here : (a b : Seat) (l : List Seat) (k : Seat) (r : List Seat) → Rises is_ahead (l ++ k ∷ r) → a ≡ k → swapped a b (l ++ k ∷ r) ≡ l ++ b ∷ r
swapped_here a b l k r s e =
    ap (λ (x : Seat). swapped x b (l ++ k ∷ r)) e
    ∙ (swapped_join k b l (k ∷ r) ∙ (ap (λ (ys : List Seat). ys ++ swapped k b (k ∷ r)) (swapped_none k b l (all_apart_left k l (all_left is_ahead l k r s)))
    ∙ (ap (λ (c : Bool). l ++ cond c b k ∷ swapped k b r) (is_same k k refl) ∙ ap (λ (ys : List Seat). l ++ b ∷ ys) (swapped_none k b r (all_apart_right k r (all_right is_ahead l k r s))))))

pub length_swapped : (a b : Seat) (xs : List Seat) → length (swapped a b xs) ≡ length xs
length_swapped a b [] = refl
length_swapped a b (x ∷ xs) = let ih = length_swapped a b xs in omega (arith, ih)

-- a swap that keeps key and id keeps what stands before what, where ids differ

same_place_by : (a b u : Seat) → b.key ≡ a.key → b.id ≡ a.id → (c : Bool) → is_eq (seat_cmp a u) ≡ c → ((cond c b u).key ≡ u.key) × ((cond c b u).id ≡ u.id)
same_place_by a b u e f true h =
    let same = same_time a u h in
    (e ∙ ap (λ (t : Seat). t.key) same, f ∙ ap (λ (t : Seat). t.id) same)
same_place_by a b u e f false h = (refl, refl)

wake_free : (k n v w : Ordering) → (n ≡ Equal → ⊥) → is_lt (ordering_then k (ordering_then n v)) ≡ is_lt (ordering_then k (ordering_then n w))
wake_free Less n v w h = refl
wake_free Greater n v w h = refl
wake_free Equal Less v w h = refl
wake_free Equal Equal v w h = absurd (h refl)
wake_free Equal Greater v w h = refl

same_ahead : (x y u v : Seat) → x.key ≡ u.key → x.id ≡ u.id → y.key ≡ v.key → y.id ≡ v.id → u.id ≢ v.id → is_ahead x y ≡ is_ahead u v
same_ahead x y u v a b c d n =
    rw (a, b, c, d) (wake_free (key_cmp u.key v.key) (nat_cmp u.id v.id) (ordering_then (nat_cmp x.mark y.mark) (nat_cmp x.due y.due)) (ordering_then (nat_cmp u.mark v.mark) (nat_cmp u.due v.due)) (λ e. n (same_number u.id v.id e)))

pub swap_ahead : (a b u v : Seat) → b.key ≡ a.key → b.id ≡ a.id → u.id ≢ v.id → is_ahead (swap a b u) (swap a b v) ≡ is_ahead u v
swap_ahead a b u v e f n =
    let x = same_place_by a b u e f (is_eq (seat_cmp a u)) refl in
    let y = same_place_by a b v e f (is_eq (seat_cmp a v)) refl in
    same_ahead (swap a b u) (swap a b v) u v x.0 x.1 y.0 y.1 n

-- two with one key by its comparison
pub one_key : (a b : Key) → is_eq (key_cmp a b) ≡ true → a ≡ b
one_key a b h = same_key a b (equal_by (key_cmp a b) h)
