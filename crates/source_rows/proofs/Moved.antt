-- The rows of a tree whose root gets a priority and an order number.
use Rattle.std.proofs.Common.{◌≡◌, ℕ, ℤ, ◌<◌, ◌≤◌, ◌+◌, ◌^◌, ◌==◌, Some, Bool, true, false, cond, ◌||◌, List, [], ◌∷◌, inl, inr, map, refl, ap, sym, ◌∙◌, arith, subst}
use Rattle.std.specs.Prelude.{slice_index, slice_set}
use Rattle.std.specs.List.{AllByRecursion, list_any}
use Rattle.std.specs.declared.cmp.Ordering.{Ordering}
use Rattle.std.specs.Ordering.{is_lt, ordering_then, nat_cmp}
use Rattle.std.specs.Cmp.{int_cmp_total, nat_cmp_total}
use Rattle.std.specs.Cmp.Lexicographic.{slice_cmp}
use Rattle.std.proofs.lemmas.Cmp.{tied_itself}
use Rattle.source_rows.specs.declared.row.Row.{Row}
use Rattle.source_rows.specs.Rows.{key_cmp, key_of, row_of, stands_before, is_under, moved}
use Rattle.source_rows.specs.Row.{no_number}
use Rattle.source_rows.specs.Order.{Apart}
use Rattle.source_rows.specs.Kept.{AllApart, IsBelow, IsSound}
use Rattle.source_rows.specs.Moves.{moved_row}
use Rattle.source_rows.proofs.Kept.{apart_paths}
use Rattle.source_rows.proofs.Kin.{Shares, IsPath, Kin}
use Rattle.source_rows.proofs.Compared.{same_self, or_parts, apart_above, keeps}
use Rattle.source_rows.proofs.Lists.{all_map, all_with, pairs_map, pairs_with}
use Rattle.source_rows.proofs.Order.{flip}
use Rattle.source_rows.proofs.Edits.{rise_map}
use Rattle.source_rows.proofs.Replanted.{moved_id, moved_level, forest_moved}
use Rattle.source_rows.proofs.Placing.{Changes}

-- ---- one row, moved

pub is_moved : (id : ℕ) (z : ℤ) (n : ℕ) (r : Row) → is_under id r ≡ true → moved id z n r ≡ moved_row id z n r
is_moved id z n r e = ap (λ (b : Bool). cond b (moved_row id z n r) r) e

pub not_moved : (id : ℕ) (z : ℤ) (n : ℕ) (r : Row) → is_under id r ≡ false → moved id z n r ≡ r
not_moved id z n r e = ap (λ (b : Bool). cond b (moved_row id z n r) r) e

pub moved_lineage : (id : ℕ) (z : ℤ) (n : ℕ) (r : Row) → (moved id z n r).lineage ≡ r.lineage
moved_lineage id z n r = keeps (λ q. q.lineage) (is_under id r) (moved_row id z n r) r refl

pub moved_under : (id : ℕ) (z : ℤ) (n : ℕ) (r : Row) (k : ℕ) → is_under k (moved id z n r) ≡ is_under k r
moved_under id z n r k = ap (list_any (λ i. i == k)) (moved_lineage id z n r)

-- ---- its path

set_four : (n : ℕ) (path : List ℕ) → (p : IsPath path) → slice_set path 0 n ≡ n ∷ p.b ∷ p.c ∷ p.d ∷ []
set_four n path p = ap (λ (q : List ℕ). slice_set q 0 n) p.is

path_moved : (n : ℕ) (path : List ℕ) → IsPath path → IsPath (slice_set path 0 n)
path_moved n path p = record { a = n; b = p.b; c = p.c; d = p.d; is = set_four n path p; b_fits = p.b_fits; c_fits = p.c_fits; d_fits = p.d_fits }

path_front : (n : ℕ) (path : List ℕ) → IsPath path → slice_index (slice_set path 0 n) 0 ≡ n
path_front n path p = ap (λ (q : List ℕ). slice_index q 0) (set_four n path p)

path_has : (n : ℕ) (path : List ℕ) → IsPath path → list_any (λ i. i == n) (slice_set path 0 n) ≡ true
path_has n path p = ap (list_any (λ i. i == n)) (set_four n path p) ∙ rw (same_self n) refl

path_below : (n : ℕ) (path : List ℕ) → IsPath path → IsBelow n path → IsBelow (n + 1) (slice_set path 0 n)
path_below n path p h = λ k le f.
    let none = ap (list_any (λ i. i == k)) (sym p.is) ∙ h k (omega arith) f in
    let rest = (or_parts (p.a == k) (list_any (λ i. i == k) (p.b ∷ p.c ∷ p.d ∷ [])) none).1 in
    let first : (n == k) ≡ false = apart_above n k (omega arith) in
    ap (list_any (λ i. i == k)) (set_four n path p) ∙ (ap (λ (b : Bool). b || list_any (λ i. i == k) (p.b ∷ p.c ∷ p.d ∷ [])) first ∙ rest)

below_more : (n : ℕ) (path : List ℕ) → IsBelow n path → IsBelow (n + 1) path
below_more n path h = λ k le f. h k (omega arith) f

-- ---- pairs of rows

same_front : (z : ℤ) (n : ℕ) (ps qs : List ℕ) → key_cmp (z, n ∷ ps) (z, n ∷ qs) ≡ slice_cmp nat_cmp ps qs
same_front z n ps qs = ap (λ (o : Ordering). ordering_then o (slice_cmp nat_cmp (n ∷ ps) (n ∷ qs))) (tied_itself int_cmp_total z) ∙ ap (λ (o : Ordering). ordering_then o (slice_cmp nat_cmp ps qs)) (tied_itself nat_cmp_total n)

-- two rows of the tree stand as they stood
stand_same : (id : ℕ) (z : ℤ) (n : ℕ) (r q : Row) → IsPath r.path → IsPath q.path → Shares r q → stands_before (moved_row id z n r) (moved_row id z n q) ≡ stands_before r q
stand_same id z n r q s t e =
    let heads : s.a ≡ t.a = ap (λ (p : List ℕ). slice_index p 0) (sym s.is) ∙ (e.1 ∙ ap (λ (p : List ℕ). slice_index p 0) t.is) in
    let old : key_cmp (key_of r) (key_of q) ≡ slice_cmp nat_cmp (s.b ∷ s.c ∷ s.d ∷ []) (t.b ∷ t.c ∷ t.d ∷ []) =
    ap (λ (p : List ℕ). key_cmp (r.priority, p) (q.priority, q.path)) s.is
    ∙ (ap (λ (p : List ℕ). key_cmp (r.priority, s.a ∷ s.b ∷ s.c ∷ s.d ∷ []) (q.priority, p)) t.is
    ∙ (ap (λ (y : ℤ). key_cmp (y, s.a ∷ s.b ∷ s.c ∷ s.d ∷ []) (q.priority, t.a ∷ t.b ∷ t.c ∷ t.d ∷ [])) e.0
    ∙ (ap (λ (m : ℕ). key_cmp (q.priority, m ∷ s.b ∷ s.c ∷ s.d ∷ []) (q.priority, t.a ∷ t.b ∷ t.c ∷ t.d ∷ [])) heads
    ∙ same_front q.priority t.a (s.b ∷ s.c ∷ s.d ∷ []) (t.b ∷ t.c ∷ t.d ∷ [])))) in
    let new : key_cmp (z, slice_set r.path 0 n) (z, slice_set q.path 0 n) ≡ slice_cmp nat_cmp (s.b ∷ s.c ∷ s.d ∷ []) (t.b ∷ t.c ∷ t.d ∷ []) =
    ap (λ (p : List ℕ). key_cmp (z, p) (z, slice_set q.path 0 n)) (set_four n r.path s)
    ∙ (ap (λ (p : List ℕ). key_cmp (z, n ∷ s.b ∷ s.c ∷ s.d ∷ []) (z, p)) (set_four n q.path t)
    ∙ same_front z n (s.b ∷ s.c ∷ s.d ∷ []) (t.b ∷ t.c ∷ t.d ∷ [])) in
    ap is_lt (new ∙ sym old)

apart_same : (r q s t : Row) → stands_before s t ≡ stands_before r q → stands_before t s ≡ stands_before q r → Apart r q → Apart s t
apart_same r q s t e f (inl h) = inl (e ∙ h)
apart_same r q s t e f (inr h) = inr (f ∙ h)

both_share : (x r q : Row) → Shares x r → Shares x q → Shares r q
both_share x r q h k = (sym h.0 ∙ k.0, sym h.1 ∙ k.1)

-- a moved row stands apart from every row as it was
new_apart : (id : ℕ) (z : ℤ) (n : ℕ) (r q : Row) → n < no_number → IsPath r.path → IsBelow n q.path → Apart (moved_row id z n r) q
new_apart id z n r q f p b = apart_paths (moved_row id z n r) q n (path_has n r.path p) (b n (omega arith) f)

module_new : (x : Row) (z : ℤ) (n : ℕ) → n < no_number → (r q : Row) → Kin x n r → Kin x n q → is_under x.id r ≡ true → Apart (moved x.id z n r) q
module_new x z n f r q k m e = subst (λ (y : Row). Apart y q) (sym (is_moved x.id z n r e)) (new_apart x.id z n r q f k.path m.below)

moved_apart_by : (x : Row) (z : ℤ) (n : ℕ) → n < no_number → (r q : Row) → Kin x n r → Kin x n q → Apart r q → (u v : Bool) → is_under x.id r ≡ u → is_under x.id q ≡ v → Apart (cond u (moved_row x.id z n r) r) (cond v (moved_row x.id z n q) q)
moved_apart_by x z n f r q k m h true true e g =
    let s = both_share x r q (k.shares e) (m.shares g) in
    apart_same r q (moved_row x.id z n r) (moved_row x.id z n q) (stand_same x.id z n r q k.path m.path s) (stand_same x.id z n q r m.path k.path (sym s.0, sym s.1)) h
moved_apart_by x z n f r q k m h true false e g = new_apart x.id z n r q f k.path m.below
moved_apart_by x z n f r q k m h false true e g = flip (moved_row x.id z n q) r (new_apart x.id z n q r f m.path k.below)
moved_apart_by x z n f r q k m h false false e g = h

moved_apart : (x : Row) (z : ℤ) (n : ℕ) → n < no_number → (r q : Row) → Kin x n r → Kin x n q → Apart r q → Apart (moved x.id z n r) (moved x.id z n q)
moved_apart x z n f r q k m h = moved_apart_by x z n f r q k m h (is_under x.id r) (is_under x.id q) refl refl

pub changes : (x : Row) (z : ℤ) (n : ℕ) (rows : List Row) → n < no_number → AllByRecursion (Kin x n) rows → AllApart rows → Changes (is_under x.id) (moved x.id z n) rows
changes x z n rows f k h = record {
  passes = λ r. moved_under x.id z n r x.id;
  stays = λ r e. not_moved x.id z n r e;
  apart = h;
  changed = pairs_with Apart (λ r q. Apart (moved x.id z n r) (moved x.id z n q)) (Kin x n) (moved_apart x z n f) rows k h;
  new = all_with (λ r q. is_under x.id r ≡ true → Apart (moved x.id z n r) q) (Kin x n) (λ r q a b e. module_new x z n f r q a b e) rows rows k k;
}

-- ---- what holds of the rows still holds

below_moved_by : (x : Row) (z : ℤ) (n : ℕ) (r : Row) → Kin x n r → (b : Bool) → IsBelow (n + 1) (cond b (moved_row x.id z n r) r).path
below_moved_by x z n r k true = path_below n r.path k.path k.below
below_moved_by x z n r k false = below_more n r.path k.below

order_below : (id : ℕ) (z : ℤ) (n : ℕ) (r : Row) → r.order < n → (moved id z n r).order < n + 1
order_below id z n r h = below_by (is_under id r) (r.id == id)
  where
    below_by : (u v : Bool) → (cond u (record r { priority = z; order = cond v n r.order; path = slice_set r.path 0 n }) r).order < n + 1
    below_by true true = omega arith
    below_by true false = omega (arith, h)
    below_by false v = omega (arith, h)

pub sound_moved : (x : Row) (z : ℤ) (rows : List Row) (i n levels : ℕ) → n < 2 ^ 63 → AllByRecursion (Kin x n) rows → row_of x.id rows ≡ Some x → x.level ≡ 1 → IsSound rows i n levels → IsSound (map (moved x.id z n) rows) i (n + 1) levels
sound_moved x z rows i n levels f k is root s =
    let g = moved x.id z n in
    record {
      below = all_map (Kin x n) (λ r. IsBelow (n + 1) r.path) g (λ r m. below_moved_by x z n r m (is_under x.id r)) rows k;
      fresh = all_map (λ r. r.id < i) (λ r. r.id < i) g (λ r less. let e = moved_id x.id z n r in omega arith) rows s.fresh;
      rising = rise_map g (moved_id x.id z n) rows s.rising;
      apart = pairs_map (λ r q. Apart (g r) (g q)) Apart g (λ r q a. a) rows (changes x z n rows (omega (arith, f)) k s.apart).changed;
      within = all_map (λ r. r.level ≤ levels) (λ r. r.level ≤ levels) g (λ r le. let e = moved_level x.id z n r in omega arith) rows s.within;
      some = s.some;
      few = s.few;
      numbered = all_map (λ r. r.order < n) (λ r. r.order < n + 1) g (λ r less. order_below x.id z n r less) rows s.numbered;
      numbers = omega (arith, f);
      forest = forest_moved x z n rows f is root s.numbered s.forest;
    }
