use Rattle.std.proofs.Common.{◌≡◌, ℕ, ◌<◌, ◌≤◌, ◌+◌, ◌^◌, ◌==◌, Bool, true, false, zero, suc, cond, Option, Some, None, List, [], ◌∷◌, ◌++◌, inl, inr, map, refl, ap, sym, ◌∙◌, arith, subst}
use Rattle.std.specs.List.{AllByRecursion, list_any}
use Rattle.std.specs.declared.cmp.Ordering.{Ordering}
use Rattle.std.specs.declared.cmp.Ordering.TheVariants.{Less, Equal, Greater}
use Rattle.std.specs.Ordering.{is_lt, ordering_then, ordering_reverse, int_cmp, nat_cmp}
use Rattle.std.specs.Cmp.Lexicographic.{slice_cmp}
use Rattle.std.specs.Prelude.{slice_index}
use Rattle.loop_script.specs.declared.SourceSpec.{SourceSpec}
use Rattle.source_rows.specs.declared.row.Row.{Row}
use Rattle.source_rows.specs.Rows.{Key, key_cmp, key_of, stands_before, row_of, has_id, changed}
use Rattle.source_rows.specs.Row.{no_number, path_under, child_row}
use Rattle.source_rows.specs.Order.{Apart}
use Rattle.source_rows.specs.New.{IsNew}
use Rattle.source_rows.specs.Kept.{IsBelow, IsSound}
use Rattle.source_rows.specs.Tree.{IdsRise, HasPlace}
use Rattle.source_rows.proofs.Compared.{same_self, are_same, not_same, apart_above, or_true, or_parts, keeps, nat_equal}
use Rattle.source_rows.proofs.Lists.{all_of, all_push, all_map, pairs_push, pairs_map}
use Rattle.source_rows.proofs.Order.{key_total, flip}
use Rattle.source_rows.proofs.Edits.{Stays, rise_map, forest_push, forest_map, numbers_more}

-- ---- paths with different numbers

then_equal : (a b : Ordering) → ordering_then a b ≡ Equal → (a ≡ Equal) × (b ≡ Equal)
then_equal Less b h = cc
then_equal Equal b h = (refl, h)
then_equal Greater b h = cc

same_path : (p q : List ℕ) → slice_cmp nat_cmp p q ≡ Equal → p ≡ q
same_path [] [] h = refl
same_path [] (y ∷ q) h = cc
same_path (x ∷ p) [] h = cc
same_path (x ∷ p) (y ∷ q) h =
    let t = then_equal (nat_cmp x y) (slice_cmp nat_cmp p q) h in
    let e = nat_equal x y t.0 in
    let f = same_path p q t.1 in
    cc

apart_by : (r q : Row) (o : Ordering) → key_cmp (key_of r) (key_of q) ≡ o → (o ≡ Equal → ⊥) → Apart r q
apart_by r q Less e h = inl (ap is_lt e)
apart_by r q Equal e h = absurd (h refl)
apart_by r q Greater e h = inr (ap is_lt (key_total.antisymm (key_of q) (key_of r) ∙ ap ordering_reverse e))

-- rows of different paths stand apart
pub apart_paths : (r q : Row) (n : ℕ) → list_any (λ i. i == n) r.path ≡ true → list_any (λ i. i == n) q.path ≡ false → Apart r q
apart_paths r q n h k = apart_by r q (key_cmp (key_of r) (key_of q)) refl
    (λ e. let t = then_equal (int_cmp r.priority q.priority) (slice_cmp nat_cmp r.path q.path) e in
    let f = same_path r.path q.path t.1 in
    let never = sym h ∙ (ap (list_any (λ i. i == n)) f ∙ k) in cc)

pub all_apart : (r : Row) (n : ℕ) (rows : List Row) → n < no_number → list_any (λ i. i == n) r.path ≡ true → AllByRecursion (λ q. IsBelow n q.path) rows → AllByRecursion (Apart r) rows
all_apart r n rows f h k = all_of (λ q. IsBelow n q.path) (Apart r) (λ q b. apart_paths r q n h (b n (omega arith) f)) rows k

-- ---- rows that stand apart

pub equal_not : (r q : Row) → key_cmp (key_of r) (key_of q) ≡ Equal → Apart r q → ⊥
equal_not r q e (inl h) = let never = sym h ∙ ap is_lt e in cc
equal_not r q e (inr h) = let never = sym h ∙ ap is_lt (key_total.antisymm (key_of q) (key_of r) ∙ ap ordering_reverse e) in cc

-- ---- a new row

pub sound-push : (rows : List Row) (i n : ℕ) (r : Row) (levels : ℕ) → n < 2 ^ 63 → IsSound rows i n levels → IsNew r n → r.id ≡ i → r.level ≤ levels → r.order ≡ n → HasPlace rows r.parent r → IsSound (rows ++ r ∷ []) (i + 1) (n + 1) levels
sound-push rows i n r levels f s new is h order place =
    let few = s.few in
    let ids = subst (λ (m : ℕ). AllByRecursion (λ q. q.id < m) rows) (sym is) s.fresh in
    record {
      below = all_push (λ q. IsBelow (n + 1) q.path) rows r (all_of (λ q. IsBelow n q.path) (λ q. IsBelow (n + 1) q.path) (λ q h k a b. h k (omega arith) b) rows s.below) new.below;
      rising = pairs_push (λ q x. q.id < x.id) rows r s.rising ids;
      apart = pairs_push Apart rows r s.apart (all_of (Apart r) (λ q. Apart q r) (λ q a. flip r q a) rows (all_apart r n rows (omega (arith, f)) new.has s.below));
      within = all_push (λ q. q.level ≤ levels) rows r s.within h;
      fresh = all_push (λ q. q.id < i + 1) rows r (all_of (λ q. q.id < i) (λ q. q.id < i + 1) (λ q less. omega (arith, less)) rows s.fresh) (omega (arith, is));
      some = s.some;
      few = s.few;
      numbered = all_push (λ q. q.order < n + 1) rows r (numbers_more n rows s.numbered) (omega (arith, order));
      numbers = omega (arith, f);
      forest = forest_push rows n r s.forest ids s.numbered order f (omega (arith, h, few)) place;
    }

-- ---- a child's path

no_index : (path : List ℕ) (i k : ℕ) → 0 < k → list_any (λ j. j == k) path ≡ false → (slice_index path i == k) ≡ false
no_index [] i k h e = apart_above 0 k h
no_index (x ∷ path) zero k h e = (or_parts (x == k) (list_any (λ j. j == k) path) e).0
no_index (x ∷ path) (suc i) k h e = no_index path i k h (or_parts (x == k) (list_any (λ j. j == k) path) e).1

apart_fill : (k : ℕ) → k < no_number → (no_number == k) ≡ false
apart_fill k h = not_same no_number k (λ e. omega (arith, e, h))

path_has : (level : ℕ) (path : List ℕ) (n : ℕ) → list_any (λ j. j == n) (path_under level path n) ≡ true
path_has level path n = has_by (level == 1) (level == 2) (slice_index path 0) (slice_index path 1) (slice_index path 2) n
  where
    has_by : (u v : Bool) (a b c n : ℕ) → list_any (λ j. j == n) (cond u (a ∷ n ∷ no_number ∷ no_number ∷ []) (cond v (a ∷ b ∷ n ∷ no_number ∷ []) (a ∷ b ∷ c ∷ n ∷ []))) ≡ true
    has_by true v a b c n = rw (same_self n) (or_true (a == n))
    has_by false true a b c n = rw (same_self n, or_true (b == n)) (or_true (a == n))
    has_by false false a b c n = rw (same_self n, or_true (c == n), or_true (b == n)) (or_true (a == n))

path_below : (level : ℕ) (path : List ℕ) (n k : ℕ) → n < k → k < no_number → list_any (λ j. j == k) path ≡ false → list_any (λ j. j == k) (path_under level path n) ≡ false
path_below level path n k h f e =
    below_by (level == 1) (level == 2) (slice_index path 0) (slice_index path 1) (slice_index path 2) n k
    (no_index path 0 k (omega arith) e) (no_index path 1 k (omega arith) e) (no_index path 2 k (omega arith) e) (apart_above n k h) (apart_fill k f)
  where
    below_by : (u v : Bool) (a b c n k : ℕ) → (a == k) ≡ false → (b == k) ≡ false → (c == k) ≡ false → (n == k) ≡ false → (no_number == k) ≡ false
        → list_any (λ j. j == k) (cond u (a ∷ n ∷ no_number ∷ no_number ∷ []) (cond v (a ∷ b ∷ n ∷ no_number ∷ []) (a ∷ b ∷ c ∷ n ∷ []))) ≡ false
    below_by true v a b c n k p q r s t = rw (p, s, t) refl
    below_by false true a b c n k p q r s t = rw (p, q, s, t) refl
    below_by false false a b c n k p q r s t = rw (p, q, r, s) refl

pub child_new : (parent : Row) (spec : SourceSpec) (now id n : ℕ) → n < no_number → IsBelow n parent.path → IsNew (child_row parent spec now id n) n
child_new parent spec now id n f h = record {
  has = path_has parent.level parent.path n;
  below = λ k a b. path_below parent.level parent.path n k (omega arith) b (h k (omega arith) b);
}

-- ---- a change that leaves a row in its place

same_before : (g : Row → Row) → Stays g → (r q : Row) → stands_before (g r) (g q) ≡ stands_before r q
same_before g h r q = ap (λ (k : Key). is_lt (key_cmp k (key_of (g q)))) (h.key r) ∙ ap (λ (k : Key). is_lt (key_cmp (key_of r) k)) (h.key q)

apart_map : (g : Row → Row) → Stays g → (r q : Row) → Apart r q → Apart (g r) (g q)
apart_map g h r q (inl e) = inl (same_before g h r q ∙ e)
apart_map g h r q (inr e) = inr (same_before g h q r ∙ e)

pub sound_map : (g : Row → Row) → Stays g → (rows : List Row) (i n l : ℕ) → IsSound rows i n l → IsSound (map g rows) i n l
sound_map g h rows i n l k = record {
  below = all_map (λ r. IsBelow n r.path) (λ r. IsBelow n r.path) g (λ r b. subst (λ (key : Key). IsBelow n key.1) (sym (h.key r)) b) rows k.below;
  fresh = all_map (λ r. r.id < i) (λ r. r.id < i) g (λ r less. let j = h.id r in omega arith) rows k.fresh;
  rising = rise_map g h.id rows k.rising;
  apart = pairs_map Apart Apart g (apart_map g h) rows k.apart;
  within = all_map (λ r. r.level ≤ l) (λ r. r.level ≤ l) g (λ r less. let j = h.level r in omega arith) rows k.within;
  numbered = all_map (λ r. r.order < n) (λ r. r.order < n) g (λ r less. let j = h.order r in omega arith) rows k.numbered;
  numbers = k.numbers;
  forest = forest_map g h rows k.forest;
  some = k.some;
  few = k.few;
}

-- ---- one row changed

above_not : (id : ℕ) (r : Row) (f g : Row → Row) (rows : List Row) → r.id ≡ id → AllByRecursion (λ q. r.id < q.id) rows → changed id f rows ≡ changed id g rows
above_not id r f g [] e h = refl
above_not id r f g (q ∷ rows) e h =
    let less = h.0 in
    let apart : (q.id == id) ≡ false = not_same q.id id (λ t. omega (arith, t, less, e)) in
    rw apart (ap (λ (xs : List Row). q ∷ xs) (above_not id r f g rows e h.1))

change_by : (id : ℕ) (x q : Row) (f : Row → Row) (rows : List Row) (b : Bool) → (q.id == id) ≡ b → AllByRecursion (λ z. q.id < z.id) rows → (row_of id rows ≡ Some x → changed id (λ _. f x) rows ≡ changed id f rows) → cond b (Some q) (row_of id rows) ≡ Some x
    → cond b (f x) q ∷ changed id (λ _. f x) rows ≡ cond b (f q) q ∷ changed id f rows
change_by id x q f rows true e less ih h =
    let same : q ≡ x = cc in
    let is : q.id ≡ id = are_same q.id id e in
    ap (λ (r : Row). f r ∷ changed id (λ _. f x) rows) (sym same) ∙ ap (λ (xs : List Row). f q ∷ xs) (above_not id q (λ _. f x) f rows is less)
change_by id x q f rows false e less ih h = ap (λ (xs : List Row). q ∷ xs) (ih h)

pub one_changed : (id : ℕ) (x : Row) (f : Row → Row) (rows : List Row) → IdsRise rows → row_of id rows ≡ Some x → changed id (λ _. f x) rows ≡ changed id f rows
one_changed id x f [] r h = refl
one_changed id x f (q ∷ rows) r h = change_by id x q f rows (q.id == id) refl r.0 (one_changed id x f rows r.1) h

found_id_by : (id : ℕ) (x q : Row) (b : Bool) (o : Option Row) → (q.id == id) ≡ b → (o ≡ Some x → x.id ≡ id) → cond b (Some q) o ≡ Some x → x.id ≡ id
found_id_by id x q true o e ih h =
    let same : q ≡ x = cc in
    let is : q.id ≡ id = are_same q.id id e in
    subst (λ (r : Row). r.id ≡ id) same is
found_id_by id x q false o e ih h = ih h

pub found_id : (id : ℕ) (x : Row) (rows : List Row) → row_of id rows ≡ Some x → x.id ≡ id
found_id id x [] h = cc
found_id id x (q ∷ rows) h = found_id_by id x q (q.id == id) (row_of id rows) refl (found_id id x rows) h

none_by : (id : ℕ) (q : Row) (f : Row → Row) (rows : List Row) (b : Bool) → (row_of id rows ≡ None → changed id f rows ≡ rows) → cond b (Some q) (row_of id rows) ≡ None → cond b (f q) q ∷ changed id f rows ≡ q ∷ rows
none_by id q f rows true ih h = cc
none_by id q f rows false ih h = ap (λ (xs : List Row). q ∷ xs) (ih h)

pub none_changed : (id : ℕ) (f : Row → Row) (rows : List Row) → row_of id rows ≡ None → changed id f rows ≡ rows
none_changed id f [] h = refl
none_changed id f (q ∷ rows) h = none_by id q f rows (q.id == id) (none_changed id f rows) h

-- a change of one row that leaves it in its place
abbrev pub at_id : ℕ → (Row → Row) → Row → Row
at_id id f r = cond (has_id id r) (f r) r

pub stays_at : (id : ℕ) (f : Row → Row) → Stays f → Stays (at_id id f)
stays_at id f h = record {
  key = λ r. keeps key_of (has_id id r) (f r) r (h.key r);
  id = λ r. keeps (λ q. q.id) (has_id id r) (f r) r (h.id r);
  level = λ r. keeps (λ q. q.level) (has_id id r) (f r) r (h.level r);
  order = λ r. keeps (λ q. q.order) (has_id id r) (f r) r (h.order r);
  parent = λ r. keeps (λ q. q.parent) (has_id id r) (f r) r (h.parent r);
  lineage = λ r. keeps (λ q. q.lineage) (has_id id r) (f r) r (h.lineage r);
}

-- what a put of the found row, changed, does
pub put_one : (id : ℕ) (x : Row) (f : Row → Row) → (f x).id ≡ x.id → (rows new : List Row) → IdsRise rows → row_of id rows ≡ Some x → new ≡ changed (f x).id (λ _. f x) rows → new ≡ changed id f rows
put_one id x f h rows new r k e =
    let same : (f x).id ≡ id = h ∙ found_id id x rows k in
    e ∙ (ap (λ (i : ℕ). changed i (λ _. f x) rows) same ∙ one_changed id x f rows r k)
