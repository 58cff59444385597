-- What holds of seats in two lists, one behind the other.
use Rattle.std.proofs.Common.{◌≡◌, ◌∙◌, ◌≤◌, ◌+◌, ◌⊎◌, ℕ, zero, suc, Bool, true, false, not, cond, ◌||◌, max, inl, inr, Option, Some, None, IfSome, IfNone, List, [], ◌∷◌, ◌++◌, length, refl, sym, ap, subst, arith, append_assoc, length-append}
use Rattle.std.proofs.lemmas.Cmp.{tied_itself}
use Rattle.std.specs.List.{AllByRecursion, list_any}
use Rattle.std.specs.declared.cmp.Ordering.{Ordering}
use Rattle.std.specs.declared.cmp.Ordering.TheVariants.{Less, Equal, Greater}
use Rattle.std.specs.Ordering.{is_lt, is_eq}
use Rattle.source_rows.specs.declared.seats.Seat.{Seat}
use Rattle.source_rows.specs.Inserted.{inserted, Rises}
use Rattle.source_rows.specs.LastTo.{stands_to, IsLastTo}
use Rattle.source_rows.specs.Rows.{Key}
use Rattle.source_rows.specs.SeatOrder.{seen_together, ArePassed, AreBehind, IsLastKey}
use Rattle.source_rows.specs.Seats.{seat_cmp, is_ahead, is_passed, without, swap, swapped, fewest, IsLow}
use Rattle.source_rows.proofs.Ahead.{sooner_order, less_sooner, greater_back, same_from_equal, same_time, passed_by, filter_join, without_none, any_join, any_none, or_false, swapped_join, swapped_none, all_apart_left, all_apart_right}
use Rattle.source_rows.proofs.Inserted.{put_behind, inserted_left, all_left, asym}
use Rattle.source_rows.proofs.LastTo.{all_joined}
use Rattle.source_rows.proofs.Lists.{all_of, all_front, all_map}
use Rattle.source_rows.proofs.Order.{key_total}
use Rattle.source_rows.proofs.Parted.{append_nil}

pub rises_front : (l r : List Seat) → Rises is_ahead (l ++ r) → Rises is_ahead l
rises_front [] r h = tt
rises_front (x ∷ l) r h = (all_front (λ y. is_ahead x y ≡ true) l r h.0, rises_front l r h.1)

pub rises_behind : (l r : List Seat) → Rises is_ahead (l ++ r) → Rises is_ahead r
rises_behind [] r h = h
rises_behind (x ∷ l) r h = rises_behind l r h.1

-- ---- on which side a seat stands

-- what is passed stands before what is not
pub passed_ahead : (bound : Option Key) (u s : Seat) → is_passed bound u.key ≡ true → is_passed bound s.key ≡ false → is_ahead u s ≡ true
passed_ahead bound u s p q = by (seat_cmp u s) refl
  where
    by : (o : Ordering) → seat_cmp u s ≡ o → is_ahead u s ≡ true
    by Less e = less_sooner u s e
    by Equal e = let no = sym p ∙ (ap (λ (t : Seat). is_passed bound t.key) (same_from_equal u s e) ∙ q) in cc
    by Greater e = let no = sym q ∙ passed_by bound s u (greater_back u s e) p in cc

-- a seat that is not passed stands behind those that are
pub after_passed : (bound : Option Key) (s : Seat) (l : List Seat) → is_passed bound s.key ≡ false → ArePassed bound l → AllByRecursion (λ u. is_ahead u s ≡ true) l
after_passed bound s l q h = all_of (λ u. is_passed bound u.key ≡ true) (λ u. is_ahead u s ≡ true) (λ u p. passed_ahead bound u s p q) l h

-- one that is passed stands before those that are not
pub before_others : (bound : Option Key) (s : Seat) (r : List Seat) → is_passed bound s.key ≡ true → AreBehind bound r → AllByRecursion (λ u. is_ahead s u ≡ true) r
before_others bound s r p h = all_of (λ u. is_passed bound u.key ≡ false) (λ u. is_ahead s u ≡ true) (λ u q. passed_ahead bound s u p q) r h

-- none stands behind the last
pub bound_passed : (o : Option Key) (l : List Seat) → Rises is_ahead l → IfSome o (IsLastKey l) → IfNone o (l ≡ []) → ArePassed o l
bound_passed None l rises some none = subst (ArePassed None) (sym none) tt
bound_passed (Some key) l rises h none = rw h.is (subst (ArePassed (Some h.seat.key)) (sym h.are) (all_joined (λ u. is_passed (Some h.seat.key) u.key ≡ true) h.others (h.seat ∷ []) front (itself, tt)))
  where
    itself : is_passed (Some h.seat.key) h.seat.key ≡ true
    itself = ap (λ (o : Ordering). not (is_lt o)) (tied_itself key_total h.seat.key)

    front : ArePassed (Some h.seat.key) h.others
    front = all_of (λ u. is_ahead u h.seat ≡ true) (λ u. is_passed (Some h.seat.key) u.key ≡ true) (λ u a. passed_by (Some h.seat.key) u h.seat a itself) h.others (all_left is_ahead h.others h.seat [] (subst (Rises is_ahead) h.are rises))

-- ---- a seat put in, on the side on which it stands

pub inserted_behind : (a : Seat) (l r : List Seat) → AllByRecursion (λ u. is_ahead u a ≡ true) l → inserted is_ahead a (l ++ r) ≡ l ++ inserted is_ahead a r
inserted_behind a [] r h = refl
inserted_behind a (x ∷ l) r h = put_behind is_ahead a x (l ++ r) (asym is_ahead sooner_order x a h.0) ∙ ap (λ (ys : List Seat). x ∷ ys) (inserted_behind a l r h.1)

pub inserted_front : (a : Seat) (l r : List Seat) → AllByRecursion (λ u. is_ahead a u ≡ true) r → inserted is_ahead a (l ++ r) ≡ inserted is_ahead a l ++ r
inserted_front a l [] h = ap (inserted is_ahead a) (append_nil l) ∙ sym (append_nil (inserted is_ahead a l))
inserted_front a l (k ∷ r) h = inserted_left is_ahead a l k r h.0

-- ---- a seat taken out of its side

pub without_behind : (t : Seat) (l r : List Seat) → AllByRecursion (λ u. is_ahead u t ≡ true) l → without t (l ++ r) ≡ l ++ without t r
without_behind t l r h = filter_join (λ u. not (is_eq (seat_cmp t u))) l r ∙ ap (λ (ys : List Seat). ys ++ without t r) (without_none t l (all_apart_left t l h))

pub without_front : (t : Seat) (l r : List Seat) → AllByRecursion (λ u. is_ahead t u ≡ true) r → without t (l ++ r) ≡ without t l ++ r
without_front t l r h = filter_join (λ u. not (is_eq (seat_cmp t u))) l r ∙ ap (λ (ys : List Seat). without t l ++ ys) (without_none t r (all_apart_right t r h))

pub there_behind : (t : Seat) (l r : List Seat) → AllByRecursion (λ u. is_ahead u t ≡ true) l → list_any (λ u. is_eq (seat_cmp t u)) (l ++ r) ≡ list_any (λ u. is_eq (seat_cmp t u)) r
there_behind t l r h = any_join (λ u. is_eq (seat_cmp t u)) l r ∙ ap (λ (b : Bool). b || list_any (λ u. is_eq (seat_cmp t u)) r) (any_none (λ u. is_eq (seat_cmp t u)) l (all_apart_left t l h))

pub there_front : (t : Seat) (l r : List Seat) → AllByRecursion (λ u. is_ahead t u ≡ true) r → list_any (λ u. is_eq (seat_cmp t u)) (l ++ r) ≡ list_any (λ u. is_eq (seat_cmp t u)) l
there_front t l r h =
    any_join (λ u. is_eq (seat_cmp t u)) l r ∙ (ap (λ (b : Bool). list_any (λ u. is_eq (seat_cmp t u)) l || b) (any_none (λ u. is_eq (seat_cmp t u)) r (all_apart_right t r h)) ∙ or_false (list_any (λ u. is_eq (seat_cmp t u)) l))

-- ---- a seat put where another stands, on its side

pub swapped_behind : (a b : Seat) (l r : List Seat) → AllByRecursion (λ u. is_ahead u a ≡ true) l → swapped a b (l ++ r) ≡ l ++ swapped a b r
swapped_behind a b l r h = swapped_join a b l r ∙ ap (λ (ys : List Seat). ys ++ swapped a b r) (swapped_none a b l (all_apart_left a l h))

pub swapped_front : (a b : Seat) (l r : List Seat) → AllByRecursion (λ u. is_ahead a u ≡ true) r → swapped a b (l ++ r) ≡ swapped a b l ++ r
swapped_front a b l r h = swapped_join a b l r ∙ ap (λ (ys : List Seat). swapped a b l ++ ys) (swapped_none a b r (all_apart_right a r h))

-- ---- the last that does not stand behind a key

pub last_behind : (key : Key) (l r : List Seat) (s : Seat) → IsLastTo key r s → IsLastTo key (l ++ r) s
last_behind key l r s h = record {
  before = l ++ h.before;
  behind = h.behind;
  are = ap (λ (x : List Seat). l ++ x) h.are ∙ sym (append_assoc l h.before (s ∷ h.behind));
  here = h.here;
  none = h.none;
}

pub last_front : (key : Key) (l r : List Seat) (s : Seat) → AllByRecursion (λ u. stands_to key u ≡ false) r → IsLastTo key l s → IsLastTo key (l ++ r) s
last_front key l r s none h = record {
  before = h.before;
  behind = h.behind ++ r;
  are = ap (λ (x : List Seat). x ++ r) h.are ∙ append_assoc h.before (s ∷ h.behind) r;
  here = h.here;
  none = all_joined (λ u. stands_to key u ≡ false) h.behind r h.none none;
}

-- ---- how high

-- two low trees, seen together, are low
pub low_together : (v w : List Seat × ℕ) → IsLow v → IsLow w → IsLow (seen_together v w)
low_together v w l m = by (higher v.1 w.1)
  where
    long : length (v.0 ++ w.0) ≡ length v.0 + length w.0
    long = omega (arith, length-append v.0 w.0)

    higher : (a b : ℕ) → (max a b ≡ a) ⊎ (max a b ≡ b)
    higher zero b = inr (omega arith)
    higher (suc a) zero = inl (omega arith)
    higher (suc a) (suc b) = up (higher a b)
      where
        up : (max a b ≡ a) ⊎ (max a b ≡ b) → (max (suc a) (suc b) ≡ suc a) ⊎ (max (suc a) (suc b) ≡ suc b)
        up (inl e) = inl (omega (arith, e))
        up (inr e) = inr (omega (arith, e))

    by : (max v.1 w.1 ≡ v.1) ⊎ (max v.1 w.1 ≡ w.1) → IsLow (seen_together v w)
    by (inl e) = (omega (arith, long, e, l.0), subst (λ n. fewest n ≤ length (v.0 ++ w.0)) (sym e) (omega (arith, long, l.1)))
    by (inr e) = (omega (arith, long, e, m.0), subst (λ n. fewest n ≤ length (v.0 ++ w.0)) (sym e) (omega (arith, long, m.1)))

-- ---- a swap keeps the side

swap_key : (a b u : Seat) → b.key ≡ a.key → (v : Bool) → is_eq (seat_cmp a u) ≡ v → (cond v b u).key ≡ u.key
swap_key a b u e true h = e ∙ ap (λ (t : Seat). t.key) (same_time a u h)
swap_key a b u e false h = refl

pub sides_swapped : (P : Key → Bool) (v : Bool) (a b : Seat) (l : List Seat) → b.key ≡ a.key → AllByRecursion (λ u. P u.key ≡ v) l → AllByRecursion (λ u. P u.key ≡ v) (swapped a b l)
sides_swapped P v a b l e h = all_map (λ u. P u.key ≡ v) (λ u. P u.key ≡ v) (swap a b) (λ u p. ap P (swap_key a b u e (is_eq (seat_cmp a u)) refl) ∙ p) l h
