-- Rows still stand in trees where a root gets a priority and an order number.
use Rattle.std.proofs.Common.{◌≡◌, ◌≢◌, ℕ, ℤ, ◌<◌, ◌≤◌, ◌^◌, ◌==◌, cond, Bool, true, false, ◌||◌, Option, Some, None, List, [], ◌∷◌, ◌⊎◌, inl, inr, map, refl, ap, sym, ◌∙◌, arith, subst}
use Rattle.std.specs.Prelude.{slice_set}
use Rattle.std.specs.List.{AllByRecursion}
use Rattle.source_rows.specs.declared.row.Row.{Row}
use Rattle.source_rows.specs.Row.{no_number, root_path, path_under}
use Rattle.source_rows.specs.Rows.{row_of, is_under, moved}
use Rattle.source_rows.specs.Moves.{moved_row}
use Rattle.source_rows.specs.Tree.{IdsRise, OrdersDiffer, IsRoot, IsChildOf, HasPlace, IsForest}
use Rattle.source_rows.proofs.Compared.{same_self, are_same, not_same, keeps}
use Rattle.source_rows.proofs.Lists.{all_both, all_and, all_map}
use Rattle.source_rows.proofs.Forest.{InForest, Shaped, members, shaped, found, same_id, under_child, under_root}
use Rattle.source_rows.proofs.Edits.{rise_map, found_map}

pub moved_id : (id : ℕ) (z : ℤ) (n : ℕ) (r : Row) → (moved id z n r).id ≡ r.id
moved_id id z n r = keeps (λ q. q.id) (is_under id r) (moved_row id z n r) r refl

pub moved_level : (id : ℕ) (z : ℤ) (n : ℕ) (r : Row) → (moved id z n r).level ≡ r.level
moved_level id z n r = keeps (λ q. q.level) (is_under id r) (moved_row id z n r) r refl

moved_parent : (id : ℕ) (z : ℤ) (n : ℕ) (r : Row) → (moved id z n r).parent ≡ r.parent
moved_parent id z n r = keeps (λ q. q.parent) (is_under id r) (moved_row id z n r) r refl

-- the order number is the new one for the root alone
order_is : (id : ℕ) (z : ℤ) (n : ℕ) (r : Row) → ((r.id ≡ id) × ((moved id z n r).order ≡ n)) ⊎ ((moved id z n r).order ≡ r.order)
order_is id z n r = order_by (is_under id r) (r.id == id) refl
  where
    order_by : (u v : Bool) → (r.id == id) ≡ v → ((r.id ≡ id) × ((cond u (record r { priority = z; order = cond v n r.order; path = slice_set r.path 0 n }) r).order ≡ n)) ⊎ ((cond u (record r { priority = z; order = cond v n r.order; path = slice_set r.path 0 n }) r).order ≡ r.order)
    order_by true true e = inl (are_same r.id id e, refl)
    order_by true false e = inr refl
    order_by false v e = inr refl

differ_at : (id : ℕ) (z : ℤ) (n : ℕ) (r q : Row) → r.id < q.id → r.order < n → q.order < n → r.order ≢ q.order → (moved id z n r).order ≢ (moved id z n q).order
differ_at id z n r q less a b h = differ_by (order_is id z n r) (order_is id z n q)
  where
    differ_by : ((r.id ≡ id) × ((moved id z n r).order ≡ n)) ⊎ ((moved id z n r).order ≡ r.order) → ((q.id ≡ id) × ((moved id z n q).order ≡ n)) ⊎ ((moved id z n q).order ≡ q.order) → (moved id z n r).order ≢ (moved id z n q).order
    differ_by (inl s) (inl t) = λ e. let u = s.0 in let v = t.0 in absurd (omega (arith, less, u, v))
    differ_by (inl s) (inr t) = λ e. let u = s.1 in absurd (omega (arith, b, u, t, e))
    differ_by (inr s) (inl t) = λ e. let v = t.1 in absurd (omega (arith, a, s, v, e))
    differ_by (inr s) (inr t) = λ e. h (sym s ∙ (e ∙ t))

differ_moved : (id : ℕ) (z : ℤ) (n : ℕ) (rows : List Row) → IdsRise rows → AllByRecursion (λ r. r.order < n) rows → OrdersDiffer rows → OrdersDiffer (map (moved id z n) rows)
differ_moved id z n [] a b h = tt
differ_moved id z n (r ∷ rows) a b h = (
  all_map (λ q. (moved id z n r).order ≢ (moved id z n q).order) (λ q. (moved id z n r).order ≢ q.order) (moved id z n) (λ q d. d) rows
      (all_both (λ q. (r.id < q.id) × (q.order < n)) (λ q. r.order ≢ q.order) (λ q. (moved id z n r).order ≢ (moved id z n q).order) (λ q k d. differ_at id z n r q k.0 b.0 k.1 d) rows (all_and (λ q. r.id < q.id) (λ q. q.order < n) rows a.0 b.1) h.0),
  differ_moved id z n rows a.1 b.1 h.1,
)

-- ---- the place in the tree

root_moved : (id : ℕ) (z : ℤ) (n : ℕ) (r : Row) → IsRoot r → (u : Bool) → is_under id r ≡ u → IsRoot (cond u (moved_row id z n r) r)
root_moved id z n r p false e = p
root_moved id z n r p true e =
    let same : (r.id == id) ≡ true = ap (λ (m : ℕ). m == id) (under_root id r p e) ∙ same_self id in
    record {
      level = p.level;
      lineage = p.lineage;
      path = ap (λ (x : List ℕ). slice_set x 0 n) p.path ∙ ap (λ (b : Bool). root_path (cond b n r.order)) (sym same);
    }

path_set : (l k : ℕ) (xs ys : List ℕ) (o n : ℕ) → l ≡ k → xs ≡ ys → slice_set (path_under k ys o) 0 n ≡ path_under k (slice_set ys 0 n) o → slice_set (path_under l xs o) 0 n ≡ path_under l (slice_set xs 0 n) o
path_set l k xs ys o n e f h = rw (e, f) h

paths_moved : (q : Row) (o n : ℕ) → Shaped q → q.level ≤ 3 → slice_set (path_under q.level q.path o) 0 n ≡ path_under q.level (slice_set q.path 0 n) o
paths_moved q o n (inl s) h = path_set q.level 1 q.path (q.order ∷ no_number ∷ no_number ∷ no_number ∷ []) o n s.0 s.2 refl
paths_moved q o n (inr (inl s)) h = path_set q.level 2 q.path (s.1 ∷ q.order ∷ no_number ∷ no_number ∷ []) o n s.2 s.4 refl
paths_moved q o n (inr (inr (inl s))) h = path_set q.level 3 q.path (s.2 ∷ s.3 ∷ q.order ∷ no_number ∷ []) o n s.4 s.6 refl
paths_moved q o n (inr (inr (inr s))) h = let at = s.6 in absurd (omega (arith, at, h))

child_moved_by : (id : ℕ) (z : ℤ) (n : ℕ) (q r : Row) → IsChildOf q r → Shaped q → r.level ≤ 4 → (r.id == id) ≡ false → (u v : Bool) → u ≡ v → IsChildOf (cond v (moved_row id z n q) q) (cond u (moved_row id z n r) r)
child_moved_by id z n q r c s most other false false e = c
child_moved_by id z n q r c s most other true true e =
    let up = c.level in
    record {
      level = c.level;
      lineage = c.lineage;
      path = ap (λ (x : List ℕ). slice_set x 0 n) c.path ∙ (paths_moved q r.order n s (omega (arith, up, most)) ∙ ap (λ (b : Bool). path_under q.level (slice_set q.path 0 n) (cond b n r.order)) (sym other));
      priority = refl;
    }
child_moved_by id z n q r c s most other true false e = cc
child_moved_by id z n q r c s most other false true e = cc

or_false : (a b : Bool) → b ≡ false → (a || b) ≡ a
or_false true b e = refl
or_false false b e = e

no_root : (q r : Row) → IsChildOf q r → Shaped q → r.level ≡ 1 → ⊥
no_root q r c (inl s) e = let up = c.level in let at = s.0 in omega (arith, up, at, e)
no_root q r c (inr (inl s)) e = let up = c.level in let at = s.2 in omega (arith, up, at, e)
no_root q r c (inr (inr (inl s))) e = let up = c.level in let at = s.4 in omega (arith, up, at, e)
no_root q r c (inr (inr (inr s))) e = let up = c.level in let at = s.6 in omega (arith, up, at, e)

child_moved : (rows : List Row) → AllByRecursion (InForest rows) rows → (x : Row) (z : ℤ) (n : ℕ) → InForest rows x → x.level ≡ 1 → (q r : Row) → InForest rows q → InForest rows r → IsChildOf q r → IsChildOf (moved x.id z n q) (moved x.id z n r)
child_moved rows all x z n g root q r h f c =
    let s = shaped rows all q h in
    let other : (r.id == x.id) ≡ false = not_same r.id x.id (λ e. no_root q r c s (ap (λ (y : Row). y.level) (same_id rows r x f g e) ∙ root)) in
    child_moved_by x.id z n q r c s f.level other (is_under x.id r) (is_under x.id q) (under_child x.id q r c f.level s ∙ or_false (is_under x.id q) (r.id == x.id) other)

place_moved : (rows : List Row) → AllByRecursion (InForest rows) rows → (x : Row) (z : ℤ) (n : ℕ) → InForest rows x → x.level ≡ 1 → (r : Row) (o : Option ℕ) → InForest rows r → HasPlace rows o r → HasPlace (map (moved x.id z n) rows) o (moved x.id z n r)
place_moved rows all x z n g root r None f p = root_moved x.id z n r p (is_under x.id r) refl
place_moved rows all x z n g root r (Some id) f w =
    (moved x.id z n w.0, found_map (moved x.id z n) (moved_id x.id z n) id w.0 rows w.1, child_moved rows all x z n g root w.0 r (found (InForest rows) id w.0 rows all w.1) f w.2)

numbers_moved : (id : ℕ) (z : ℤ) (n : ℕ) (r : Row) → n < 2 ^ 63 → r.order < 2 ^ 63 → (moved id z n r).order < 2 ^ 63
numbers_moved id z n r h k = elim (order_is id z n r) [ inl s ↦ let e = s.1 in omega (arith, h, e) | inr e ↦ omega (arith, k, e) ]

pub forest_moved : (x : Row) (z : ℤ) (n : ℕ) (rows : List Row) → n < 2 ^ 63 → row_of x.id rows ≡ Some x → x.level ≡ 1 → AllByRecursion (λ r. r.order < n) rows → IsForest rows → IsForest (map (moved x.id z n) rows)
forest_moved x z n rows small is root numbered f =
    let all = members rows f in
    let g = found (InForest rows) x.id x rows all is in
    record {
      rising = rise_map (moved x.id z n) (moved_id x.id z n) rows f.rising;
      placed = all_map (InForest rows) (λ r. HasPlace (map (moved x.id z n) rows) r.parent r) (moved x.id z n)
          (λ r h. subst (λ (o : Option ℕ). HasPlace (map (moved x.id z n) rows) o (moved x.id z n r)) (sym (moved_parent x.id z n r)) (place_moved rows all x z n g root r r.parent h h.place)) rows all;
      differ = differ_moved x.id z n rows f.rising numbered f.differ;
      numbers = all_map (λ r. r.order < 2 ^ 63) (λ r. r.order < 2 ^ 63) (moved x.id z n) (λ r k. numbers_moved x.id z n r small k) rows f.numbers;
      levels = all_map (λ r. r.level ≤ 4) (λ r. r.level ≤ 4) (moved x.id z n) (λ r k. let e = moved_level x.id z n r in omega (arith, k, e)) rows f.levels;
    }
