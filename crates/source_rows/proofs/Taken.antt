-- Taking rows away that stand next to each other.
use Rattle.std.proofs.Common.{◌≡◌, ℕ, ◌<◌, ◌≤◌, ◌==◌, cond, Bool, true, false, not, Some, List, [], ◌∷◌, ◌⊎◌, inl, inr, length, filter, refl, ap, sym, ◌∙◌, arith, subst}
use Rattle.std.specs.List.{AllByRecursion}
use Rattle.std.specs.Ordering.{is_lt, is_gt}
use Rattle.source_rows.specs.declared.row.Row.{Row}
use Rattle.source_rows.specs.Rows.{Key, key_cmp, key_of, row_of, has_id, is_under}
use Rattle.source_rows.specs.Tree.{IdsRise}
use Rattle.source_rows.specs.Order.{Apart}
use Rattle.source_rows.specs.Kept.{AllApart}
use Rattle.source_rows.specs.LastTo.{IsLastRow}
use Rattle.source_rows.specs.Removal.{AreDistinct, StandNear}
use Rattle.source_rows.proofs.Compared.{are_same}
use Rattle.source_rows.proofs.Lists.{all_of, all_and, all_filter, pairs_filter, pairs_and, each_with_each}
use Rattle.source_rows.proofs.Order.{flip}
use Rattle.source_rows.proofs.Forest.{found}

-- ---- rows that stand apart

abbrev pub Other : Row → Row → Type 0
Other r q = (r ≡ q) ⊎ (Apart r q × (q.id ≡ r.id → ⊥))

first_other : (r q : Row) → (r.id < q.id) × Apart r q → Other r q
first_other r q h = let less = h.0 in inr (h.1, λ e. absurd (omega (arith, e, less)))

last_other : (r q : Row) → (r.id < q.id) × Apart r q → Other q r
last_other r q h = let less = h.0 in inr (flip r q h.1, λ e. absurd (omega (arith, e, less)))

pub others : (rows : List Row) (r : Row) → IdsRise rows → AllApart rows → row_of r.id rows ≡ Some r → AllByRecursion (Other r) rows
others rows r h k e =
    let both = pairs_and (λ x q. x.id < q.id) Apart rows h k in
    found (λ x. AllByRecursion (Other x) rows) r.id r rows (each_with_each (λ x q. (x.id < q.id) × Apart x q) Other (λ x. inl refl) first_other last_other rows both) e

-- ---- one more row taken away

absorb_by : (p k : Row → Bool) (q : Row) (rows : List Row) → (k q ≡ false → p q ≡ false) → filter p (filter k rows) ≡ filter p rows → (b : Bool) → k q ≡ b → filter p (cond b (q ∷ filter k rows) (filter k rows)) ≡ filter p (q ∷ rows)
absorb_by p k q rows h ih true e = ap (λ (xs : List Row). cond (p q) (q ∷ xs) xs) ih
absorb_by p k q rows h ih false e = rw (h e) ih

absorb : (p k : Row → Bool) (rows : List Row) → AllByRecursion (λ q. k q ≡ false → p q ≡ false) rows → filter p (filter k rows) ≡ filter p rows
absorb p k [] h = refl
absorb p k (q ∷ rows) h = absorb_by p k q rows h.0 (absorb p k rows h.1) (k q) refl

not_true : (b : Bool) → not b ≡ false → b ≡ true
not_true true h = refl
not_true false h = cc

goes_too : (id : ℕ) (r : Row) → is_under id r ≡ true → (q : Row) → Other r q → not (has_id r.id q) ≡ false → not (is_under id q) ≡ false
goes_too id r u q (inl e) h = rw (subst (λ (x : Row). is_under id x ≡ true) e u) refl
goes_too id r u q (inr o) h = absurd (o.1 (are_same q.id r.id (not_true (has_id r.id q) h)))

pub record Removing (id : ℕ) (key : Key) (rows all : List Row) : Type 0 where
  pub distinct : AreDistinct rows
  pub near : StandNear id key rows
  pub left : filter (λ r. not (is_under id r)) rows ≡ filter (λ r. not (is_under id r)) all

near_filter : (id : ℕ) (key : Key) (p : Row → Bool) (rows : List Row) → StandNear id key rows → StandNear id key (filter p rows)
near_filter id key p rows n = record {
  behind = all_filter (λ q. is_under id q ≡ true → is_gt (key_cmp (key_of q) key) ≡ false) p rows n.behind;
  between = all_filter (λ q. AllByRecursion (λ x. is_under id q ≡ true → is_lt (key_cmp (key_of x) (key_of q)) ≡ false → is_gt (key_cmp (key_of x) key) ≡ false → is_under id x ≡ true) (filter p rows)) p rows
      (all_of (λ q. AllByRecursion (λ x. is_under id q ≡ true → is_lt (key_cmp (key_of x) (key_of q)) ≡ false → is_gt (key_cmp (key_of x) key) ≡ false → is_under id x ≡ true) rows)
      (λ q. AllByRecursion (λ x. is_under id q ≡ true → is_lt (key_cmp (key_of x) (key_of q)) ≡ false → is_gt (key_cmp (key_of x) key) ≡ false → is_under id x ≡ true) (filter p rows))
      (λ q h. all_filter (λ x. is_under id q ≡ true → is_lt (key_cmp (key_of x) (key_of q)) ≡ false → is_gt (key_cmp (key_of x) key) ≡ false → is_under id x ≡ true) p rows h) rows n.between);
}

pub next : (id : ℕ) (key : Key) (rows all : List Row) (r : Row) → Removing id key rows all → row_of r.id rows ≡ Some r → is_under id r ≡ true → Removing id key (filter (λ q. not (has_id r.id q)) rows) all
next id key rows all r m e u =
    let p = λ (q : Row). not (has_id r.id q) in
    let far = others rows r m.distinct.rising m.distinct.apart e in
    record {
      distinct = record {
        rising = pairs_filter (λ x q. x.id < q.id) p rows m.distinct.rising;
        apart = pairs_filter Apart p rows m.distinct.apart;
      };
      near = near_filter id key p rows m.near;
      left = absorb (λ q. not (is_under id q)) p rows (all_of (Other r) (λ q. p q ≡ false → not (is_under id q) ≡ false) (λ q o. goes_too id r u q o) rows far) ∙ m.left;
    }

shorter_at : (p : Row → Bool) (rows : List Row) → length (filter p rows) ≤ length rows
shorter_at p [] = omega arith
shorter_at p (q ∷ rows) = short_by (p q) (shorter_at p rows)
  where
    short_by : (b : Bool) → length (filter p rows) ≤ length rows → length (cond b (q ∷ filter p rows) (filter p rows)) ≤ length (q ∷ rows)
    short_by true h = omega (arith, h)
    short_by false h = omega (arith, h)

shorter_by : (id : ℕ) (q x : Row) (rows : List Row) (b : Bool) → (q.id == id) ≡ b → (row_of id rows ≡ Some x → length (filter (λ r. not (has_id id r)) rows) < length rows) → cond b (Some q) (row_of id rows) ≡ Some x → length (filter (λ r. not (has_id id r)) (q ∷ rows)) < length (q ∷ rows)
shorter_by id q x rows true e ih h = let low = shorter_at (λ r. not (has_id id r)) rows in rw e (omega (arith, low))
shorter_by id q x rows false e ih h = let low = ih h in rw e (omega (arith, low))

pub shorter : (id : ℕ) (x : Row) (rows : List Row) → row_of id rows ≡ Some x → length (filter (λ r. not (has_id id r)) rows) < length rows
shorter id x [] h = cc
shorter id x (q ∷ rows) h = shorter_by id q x rows (q.id == id) refl (shorter id x rows) h

pub all_stay : (p : Row → Bool) (rows : List Row) → AllByRecursion (λ r. p r ≡ false) rows → filter (λ r. not (p r)) rows ≡ rows
all_stay p [] h = refl
all_stay p (r ∷ rows) h = rw h.0 (ap (λ (xs : List Row). r ∷ xs) (all_stay p rows h.1))

-- ---- the last row up to a key

none_by : (id : ℕ) (P : Row → Type 0) (rows : List Row) → ((x : Row) → P x → is_under id x ≡ true → ⊥) → AllByRecursion P rows → AllByRecursion (λ x. is_under id x ≡ false) rows
none_by id P rows f h = all_of P (λ x. is_under id x ≡ false) (λ x k. no_by x k (is_under id x) refl) rows h
  where
    no_by : (x : Row) → P x → (b : Bool) → is_under id x ≡ b → is_under id x ≡ false
    no_by x k true e = absurd (f x k e)
    no_by x k false e = e

-- where each row stands behind the key none is under the id
pub none_up_to : (id : ℕ) (key : Key) (rows : List Row) → StandNear id key rows → AllByRecursion (λ x. is_gt (key_cmp (key_of x) key) ≡ true) rows → AllByRecursion (λ x. is_under id x ≡ false) rows
none_up_to id key rows n h =
    none_by id (λ x. (is_under id x ≡ true → is_gt (key_cmp (key_of x) key) ≡ false) × (is_gt (key_cmp (key_of x) key) ≡ true)) rows
    (λ x k u. let never = sym k.1 ∙ k.0 u in cc)
    (all_and (λ x. is_under id x ≡ true → is_gt (key_cmp (key_of x) key) ≡ false) (λ x. is_gt (key_cmp (key_of x) key) ≡ true) rows n.behind h)

-- where the last row up to the key is not under the id, none is
pub last_not_under : (id : ℕ) (key : Key) (rows : List Row) (y : Row) → StandNear id key rows → IsLastRow key rows y → is_under id y ≡ false → AllByRecursion (λ x. is_under id x ≡ false) rows
last_not_under id key rows y n h u =
    let both = all_and (λ x. is_under id x ≡ true → is_gt (key_cmp (key_of x) key) ≡ false) (λ x. is_gt (key_cmp (key_of x) key) ≡ false → is_lt (key_cmp (key_of y) (key_of x)) ≡ false) rows n.behind h.last in
    none_by id (λ x. ((is_under id x ≡ true → is_gt (key_cmp (key_of x) key) ≡ false) × (is_gt (key_cmp (key_of x) key) ≡ false → is_lt (key_cmp (key_of y) (key_of x)) ≡ false)) × Between x) rows
    (λ x k v. let t = found (λ z. is_under id x ≡ true → is_lt (key_cmp (key_of z) (key_of x)) ≡ false → is_gt (key_cmp (key_of z) key) ≡ false → is_under id z ≡ true) y.id y rows k.1 h.own in
    let up = t v (k.0.1 (k.0.0 v)) h.here in let never = sym up ∙ u in cc)
    (all_and (λ x. (is_under id x ≡ true → is_gt (key_cmp (key_of x) key) ≡ false) × (is_gt (key_cmp (key_of x) key) ≡ false → is_lt (key_cmp (key_of y) (key_of x)) ≡ false)) Between rows both n.between)
  where
    Between : Row → Type 0
    Between x = AllByRecursion (λ z. is_under id x ≡ true → is_lt (key_cmp (key_of z) (key_of x)) ≡ false → is_gt (key_cmp (key_of z) key) ≡ false → is_under id z ≡ true) rows
