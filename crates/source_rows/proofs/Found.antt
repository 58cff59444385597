-- What is found among the seats of rows is what is found among the rows.
use Rattle.std.proofs.Common.{◌≡◌, ◌⊎◌, ℕ, Bool, true, false, not, cond, Option, Some, None, List, [], ◌∷◌, ◌++◌, inl, inr, map, filter, refl, ap, sym, ◌∙◌, subst}
use Rattle.std.specs.List.{AllByRecursion}
use Rattle.std.specs.declared.cmp.Ordering.{Ordering}
use Rattle.std.specs.declared.cmp.Ordering.TheVariants.{Less, Equal, Greater}
use Rattle.std.specs.Ordering.{is_lt, is_gt, ordering_reverse}
use Rattle.std.proofs.lemmas.Cmp.{tied_itself}
use Rattle.source_rows.specs.declared.row.Row.{Row}
use Rattle.source_rows.specs.declared.seats.Seat.{Seat}
use Rattle.source_rows.specs.Band.{is_between, stands_between}
use Rattle.source_rows.specs.InOrder.{ids_of}
use Rattle.source_rows.specs.Inserted.{inserted, Rises, NeverFalls}
use Rattle.source_rows.specs.Kept.{AllApart}
use Rattle.source_rows.specs.LastTo.{stands_to, IsLastTo, IsLastRow}
use Rattle.source_rows.specs.Lists.{Pairs}
use Rattle.source_rows.specs.Order.{Apart}
use Rattle.source_rows.specs.Rows.{Key, key_cmp, key_of, row_of, in_order, stands_before}
use Rattle.source_rows.specs.Seats.{is_ahead, is_passed, seat_of, in_seats}
use Rattle.source_rows.specs.Tree.{IdsRise}
use Rattle.source_rows.specs.Walk.{behind_key, rows_behind, KeysRise}
use Rattle.source_rows.proofs.Lists.{all_of, all_both, all_back, all_true, filter_mapped, pairs_map}
use Rattle.source_rows.proofs.Inserted.{all_left}
use Rattle.source_rows.proofs.Order.{key_total, flip, pairs_in_order, sorted_in_order}
use Rattle.source_rows.proofs.Forest.{all_found}
use Rattle.source_rows.proofs.Ahead.{key_by}
use Rattle.source_rows.proofs.InSeats.{all_in_seats}
use Rattle.source_rows.proofs.AwakeRows.{seats_in_order}

-- ---- rows in order, and their seats

in_front : (x y : Row) → stands_before y x ≡ false → Apart x y → stands_before x y ≡ true
in_front x y h (inl e) = e
in_front x y h (inr e) = let no = sym h ∙ e in cc

strictly : (xs : List Row) → NeverFalls stands_before xs → Pairs Apart xs → Rises stands_before xs
strictly [] h k = tt
strictly (x ∷ xs) h k = (all_both (λ y. stands_before y x ≡ false) (Apart x) (λ y. stands_before x y ≡ true) (λ y a b. in_front x y a b) xs h.0 k.0, strictly xs h.1 k.1)

-- each seat stands before the next ones by its key alone
pub keys_rise : (rows : List Row) → AllApart rows → KeysRise (in_seats rows)
keys_rise rows h =
    subst KeysRise (sym (seats_in_order rows h))
    (pairs_map (λ x y. stands_before x y ≡ true) (λ a b. is_lt (key_cmp a.key b.key) ≡ true) seat_of (λ x y e. e) (in_order rows) (strictly (in_order rows) (sorted_in_order rows) (pairs_in_order Apart flip rows h)))

pub walked : (after : Option Key) (rows : List Row) → AllApart rows → behind_key after (in_seats rows) ≡ map seat_of (rows_behind after rows)
walked after rows h =
    ap (behind_key after) (seats_in_order rows h)
    ∙ filter_mapped (λ s. not (is_passed after s.key)) (λ r. not (is_passed after (key_of r))) seat_of (in_order rows) (all_true (λ r. not (is_passed after (key_of r)) ≡ not (is_passed after (key_of r))) (λ r. refl) (in_order rows))

pub seat_ids : (rows : List Row) → ids_of (map seat_of rows) ≡ map (λ (r : Row). r.id) rows
seat_ids [] = refl
seat_ids (r ∷ rows) = ap (λ (xs : List ℕ). r.id ∷ xs) (seat_ids rows)

pub ids_between : (first last : Key) (rows : List Row) → AllApart rows → ids_of (filter (is_between first last) (in_seats rows)) ≡ map (λ (r : Row). r.id) (filter (stands_between first last) (in_order rows))
ids_between first last rows h =
    ap (λ (l : List Seat). ids_of (filter (is_between first last) l)) (seats_in_order rows h)
    ∙ (ap ids_of (filter_mapped (is_between first last) (stands_between first last) seat_of (in_order rows) (all_true (λ r. stands_between first last r ≡ stands_between first last r) (λ r. refl) (in_order rows)))
    ∙ seat_ids (filter (stands_between first last) (in_order rows)))

-- ---- the last one up to a key

out_by : (P : Seat → Type 0) (a x : Seat) (xs : List Seat) → (AllByRecursion P (inserted is_ahead a xs) → P a × AllByRecursion P xs) → (b : Bool) → AllByRecursion P (cond b (a ∷ x ∷ xs) (x ∷ inserted is_ahead a xs)) → P a × AllByRecursion P (x ∷ xs)
out_by P a x xs ih true h = (h.0, h.1)
out_by P a x xs ih false h = let t = ih h.1 in (t.0, (h.0, t.1))

out_inserted : (P : Seat → Type 0) (a : Seat) (xs : List Seat) → AllByRecursion P (inserted is_ahead a xs) → P a × AllByRecursion P xs
out_inserted P a [] h = (h.0, tt)
out_inserted P a (x ∷ xs) h = out_by P a x xs (out_inserted P a xs) (is_ahead a x) h

-- what holds of all seats holds of each row's
out_seats : (P : Seat → Type 0) (rows : List Row) → AllByRecursion P (in_seats rows) → AllByRecursion (λ r. P (seat_of r)) rows
out_seats P [] h = tt
out_seats P (r ∷ rows) h = let t = out_inserted P (seat_of r) (in_seats rows) h in (t.0, out_seats P rows t.1)

-- a seat is that of the row of its id
abbrev pub IsOwn : List Row → Seat → Type 0
IsOwn rows s = (r : Row) × (row_of s.id rows ≡ Some r) × (seat_of r ≡ s)

own_seats : (rows : List Row) → IdsRise rows → AllByRecursion (IsOwn rows) (in_seats rows)
own_seats rows h = all_in_seats (IsOwn rows) rows (all_of (λ r. row_of r.id rows ≡ Some r) (λ r. IsOwn rows (seat_of r)) (λ r e. (r, e, refl)) rows (all_found rows h))

back_by : (o : Ordering) → (o ≡ Less) ⊎ (o ≡ Equal) → is_lt (ordering_reverse o) ≡ false
back_by o (inl e) = rw e refl
back_by o (inr e) = rw e refl

-- a seat does not stand before one that is ahead of it
not_before : (u s : Seat) → is_ahead u s ≡ true → is_lt (key_cmp s.key u.key) ≡ false
not_before u s h = ap is_lt (key_total.antisymm s.key u.key) ∙ back_by (key_cmp u.key s.key) (key_by (key_cmp u.key s.key) _ h)

turned_by : (o : Ordering) → is_gt o ≡ is_lt (ordering_reverse o)
turned_by Less = refl
turned_by Equal = refl
turned_by Greater = refl

turned : (a b : Key) → is_gt (key_cmp a b) ≡ is_lt (key_cmp b a)
turned a b = turned_by (key_cmp a b) ∙ ap is_lt (sym (key_total.antisymm b a))

all_joined : (P : Seat → Type 0) (xs ys : List Seat) → AllByRecursion P xs → AllByRecursion P ys → AllByRecursion P (xs ++ ys)
all_joined P [] ys h k = k
all_joined P (x ∷ xs) ys h k = (h.0, all_joined P xs ys h.1 k)

-- no seat that does not stand behind the key stands behind the last one
none_later : (key : Key) (seats : List Seat) (s : Seat) → Rises is_ahead seats → IsLastTo key seats s → AllByRecursion (λ u. stands_to key u ≡ true → is_lt (key_cmp s.key u.key) ≡ false) seats
none_later key seats s rises h =
    let P : Seat → Type 0 = λ u. stands_to key u ≡ true → is_lt (key_cmp s.key u.key) ≡ false in
    subst (AllByRecursion P) (sym h.are)
    (all_joined P h.before (s ∷ h.behind)
    (all_of (λ u. is_ahead u s ≡ true) P (λ u e t. not_before u s e) h.before (all_left is_ahead h.before s h.behind (subst (Rises is_ahead) h.are rises)))
    ((λ t. ap is_lt (tied_itself key_total s.key)), all_of (λ u. stands_to key u ≡ false) P (λ u e t. let no = sym e ∙ t in cc) h.behind h.none))

pub last_row : (key : Key) (rows : List Row) (s : Seat) (r : Row) → IdsRise rows → Rises is_ahead (in_seats rows) → IsLastTo key (in_seats rows) s → row_of s.id rows ≡ Some r → IsLastRow key rows r
last_row key rows s r ids rises h e =
    let own = (all_back (IsOwn rows) h.before (s ∷ h.behind) (subst (AllByRecursion (IsOwn rows)) h.are (own_seats rows ids))).0 in
    let found : Some r ≡ Some own.0 = sym e ∙ own.1 in
    let same : own.0 ≡ r = cc in
    let seat : seat_of r ≡ s = ap seat_of (sym same) ∙ own.2 in
    let later = out_seats (λ u. stands_to key u ≡ true → is_lt (key_cmp s.key u.key) ≡ false) rows (none_later key (in_seats rows) s rises h) in
    record {
      own = ap (λ (u : Seat). row_of u.id rows) seat ∙ e;
      here = turned (key_of r) key ∙ not_by (is_lt (key_cmp key (key_of r))) (ap (stands_to key) seat ∙ h.here);
      last = all_of (λ x. stands_to key (seat_of x) ≡ true → is_lt (key_cmp s.key (key_of x)) ≡ false) (λ x. is_gt (key_cmp (key_of x) key) ≡ false → is_lt (key_cmp (key_of r) (key_of x)) ≡ false)
          (λ x k g. ap (λ (u : Seat). is_lt (key_cmp u.key (key_of x))) seat ∙ k (ap not (sym (turned (key_of x) key) ∙ g))) rows later;
    }
  where
    not_by : (b : Bool) → not b ≡ true → b ≡ false
    not_by true k = cc
    not_by false k = refl

-- the row of the last seat is there
pub has_last : (key : Key) (rows : List Row) (s : Seat) → IdsRise rows → IsLastTo key (in_seats rows) s → row_of s.id rows ≡ None → ⊥
has_last key rows s ids h e =
    let own = (all_back (IsOwn rows) h.before (s ∷ h.behind) (subst (AllByRecursion (IsOwn rows)) h.are (own_seats rows ids))).0 in
    let no : None ≡ Some own.0 = sym e ∙ own.1 in cc

pub no_last : (key : Key) (rows : List Row) → AllByRecursion (λ u. stands_to key u ≡ false) (in_seats rows) → AllByRecursion (λ r. is_gt (key_cmp (key_of r) key) ≡ true) rows
no_last key rows h =
    all_of (λ r. stands_to key (seat_of r) ≡ false) (λ r. is_gt (key_cmp (key_of r) key) ≡ true) (λ r e. turned (key_of r) key ∙ by (is_lt (key_cmp key (key_of r))) e) rows (out_seats (λ u. stands_to key u ≡ false) rows h)
  where
    by : (b : Bool) → not b ≡ false → b ≡ true
    by true k = refl
    by false k = cc
