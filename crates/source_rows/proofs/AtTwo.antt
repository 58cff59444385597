-- What is under a row goes by parents; at two levels it is the row with its children.
use Rattle.std.proofs.Common.{◌≡◌, ℕ, ℤ, ◌≤◌, ◌+◌, ◌==◌, ◌||◌, Bool, true, false, not, cond, Option, Some, None, is_some, List, [], ◌∷◌, inl, inr, map, filter, slice_set, refl, ap, sym, ◌∙◌, arith}
use Rattle.std.specs.List.{AllByRecursion, list_any}
use Rattle.source_rows.specs.declared.row.Row.{Row}
use Rattle.source_rows.specs.declared.fault.RowsFault.{RowsFault}
use Rattle.source_rows.specs.declared.fault.RowsFault.TheVariants.{IsChild}
use Rattle.source_rows.specs.Rows.{RowSet, row_of, is_under, in_order, stands_before, moved, child_fault, priority_fault, destroyed, reprioritised}
use Rattle.source_rows.specs.Inserted.{inserted}
use Rattle.source_rows.specs.Tree.{IsForest, IsRoot, HasPlace, parent_of}
use Rattle.source_rows.specs.TwoLevels.{IsWithinLevels, is_named, goes_with, destroyed_pair, moved_pair, reprioritised_pair, child_refused, before_at_two, in_order_at_two, is_above_under}
use Rattle.source_rows.proofs.Compared.{are_same, not_same, are_not, some_same}
use Rattle.source_rows.proofs.Lists.{all_of, all_both, all_filter}
use Rattle.source_rows.proofs.Order.{all_in_order}
use Rattle.source_rows.proofs.Forest.{InForest, Shaped, members, shaped, found, any_child, under_child}
use Rattle.source_rows.proofs.Post.{two_levels}

-- ---- under an id is what has it, or whose parent is under it

four_times : (b : Bool) → (b || (b || (b || (b || false)))) ≡ b
four_times true = refl
four_times false = refl

-- a root's lineage has no other id than its own
pub any_root : (f : ℕ → Bool) (r : Row) → IsRoot r → list_any f r.lineage ≡ f r.id
any_root f r p = ap (list_any f) p.lineage ∙ four_times (f r.id)

by_place : (rows : List Row) → AllByRecursion (InForest rows) rows → (id : ℕ) (r : Row) → InForest rows r → (o : Option ℕ) → HasPlace rows o r
    → is_under id r ≡ (is_above_under id (parent_of rows o) || r.id == id)
by_place rows all id r f None p = any_root (λ i. i == id) r p
by_place rows all id r f (Some parent) w =
    under_child id w.0 r w.2 f.level (shaped rows all w.0 (found (InForest rows) parent w.0 rows all w.1))
    ∙ ap (λ (o : Option Row). is_above_under id o || r.id == id) (sym w.1)

pub by_parents : (rows : List Row) → IsForest rows → (id : ℕ) → AllByRecursion (λ r. is_under id r ≡ (is_above_under id (parent_of rows r.parent) || r.id == id)) rows
by_parents rows forest id =
    let all = members rows forest in
    all_of (InForest rows) (λ r. is_under id r ≡ (is_above_under id (parent_of rows r.parent) || r.id == id)) (λ r f. by_place rows all id r f r.parent f.place) rows all

-- ---- the same at two levels

pub or_turned : (a b : Bool) → (a || b) ≡ (b || a)
or_turned true true = refl
or_turned true false = refl
or_turned false true = refl
or_turned false false = refl

-- a row that is found has the id
id_by : (id : ℕ) (x r : Row) (o : Option Row) (b : Bool) → (r.id == id) ≡ b → (o ≡ Some x → x.id ≡ id) → cond b (Some r) o ≡ Some x → x.id ≡ id
id_by id x r o true t ih e = ap (λ (q : Row). q.id) (sym (some_same r x e)) ∙ are_same r.id id t
id_by id x r o false t ih e = ih e

id_of : (id : ℕ) (x : Row) (rows : List Row) → row_of id rows ≡ Some x → x.id ≡ id
id_of id x [] e = cc
id_of id x (r ∷ rows) e = id_by id x r (row_of id rows) (r.id == id) refl (id_of id x rows) e

-- a row over another one at the second level is a root
is_root_by : (rows : List Row) → AllByRecursion (InForest rows) rows → (q : Row) (o : Option ℕ) → HasPlace rows o q → q.level ≤ 1 → IsRoot q
is_root_by rows all q None p h = p
is_root_by rows all q (Some id) w h = absurd (no_parent (shaped rows all w.0 (found (InForest rows) id w.0 rows all w.1)))
  where
    no_parent : Shaped w.0 → ⊥
    no_parent (inl s) = let up = w.2.level in let at = s.0 in omega (arith, up, at, h)
    no_parent (inr (inl s)) = let up = w.2.level in let at = s.2 in omega (arith, up, at, h)
    no_parent (inr (inr (inl s))) = let up = w.2.level in let at = s.4 in omega (arith, up, at, h)
    no_parent (inr (inr (inr s))) = let up = w.2.level in let at = s.6 in omega (arith, up, at, h)

-- at the second level some id on a row's lineage passes where its own does or its parent's
pub any_at_two : (f : ℕ → Bool) (rows : List Row) → AllByRecursion (InForest rows) rows → (r : Row) → InForest rows r → r.level ≤ 2 → (id : ℕ) → HasPlace rows (Some id) r
    → list_any f r.lineage ≡ (f r.id || f id)
any_at_two f rows all r h low id w =
    let g = found (InForest rows) id w.0 rows all w.1 in
    let up = w.2.level in
    let root = is_root_by rows all w.0 w.0.parent g.place (omega (arith, up, low)) in
    any_child f w.0 r w.2 h.level (shaped rows all w.0 g)
    ∙ (ap (λ (b : Bool). b || f r.id) (any_root f w.0 root ∙ ap f (id_of id w.0 rows w.1)) ∙ or_turned (f id) (f r.id))

two_by_place : (rows : List Row) → AllByRecursion (InForest rows) rows → (id : ℕ) (r : Row) → InForest rows r → r.level ≤ 2 → (o : Option ℕ) → HasPlace rows o r
    → is_under id r ≡ (r.id == id || is_named id o)
two_by_place rows all id r f h None p = any_root (λ i. i == id) r p ∙ or_turned false (r.id == id)
two_by_place rows all id r f h (Some parent) w = any_at_two (λ i. i == id) rows all r f h parent w

pub under_two : (rows : List Row) → IsForest rows → IsWithinLevels 2 rows → (id : ℕ) → AllByRecursion (λ r. is_under id r ≡ goes_with id r) rows
under_two rows forest low id =
    let all = members rows forest in
    all_both (InForest rows) (λ r. r.level ≤ 2) (λ r. is_under id r ≡ goes_with id r) (λ r f h. two_by_place rows all id r f h r.parent f.place) rows all low

-- ---- why an edit is refused

-- a row with no parent is at the first level, any other below it
level_by : (rows : List Row) → AllByRecursion (InForest rows) rows → (r : Row) (o : Option ℕ) → HasPlace rows o r → (r.level == 1) ≡ not (is_some o)
level_by rows all r None p = ap (λ (n : ℕ). n == 1) p.level
level_by rows all r (Some id) w = not_same r.level 1 (below (shaped rows all w.0 (found (InForest rows) id w.0 rows all w.1)))
  where
    below : Shaped w.0 → r.level ≡ 1 → ⊥
    below (inl s) e = let up = w.2.level in let at = s.0 in omega (arith, up, at, e)
    below (inr (inl s)) e = let up = w.2.level in let at = s.2 in omega (arith, up, at, e)
    below (inr (inr (inl s))) e = let up = w.2.level in let at = s.4 in omega (arith, up, at, e)
    below (inr (inr (inr s))) e = let up = w.2.level in let at = s.6 in omega (arith, up, at, e)

either_way : (b : Bool) (x y : Option RowsFault) → cond (not b) x y ≡ cond b y x
either_way true x y = refl
either_way false x y = refl

root_of : (rows : List Row) → AllByRecursion (InForest rows) rows → (r : Row) → InForest rows r → priority_fault (Some r) ≡ child_refused (Some r)
root_of rows all r f = ap (λ (b : Bool). cond b None (Some IsChild)) (level_by rows all r r.parent f.place) ∙ either_way (is_some r.parent) None (Some IsChild)

roots_by : (rows : List Row) → AllByRecursion (InForest rows) rows → (id : ℕ) (o : Option Row) → row_of id rows ≡ o → priority_fault o ≡ child_refused o
roots_by rows all id None e = refl
roots_by rows all id (Some r) e = root_of rows all r (found (InForest rows) id r rows all e)

pub roots : (rows : List Row) → IsForest rows → (id : ℕ) → priority_fault (row_of id rows) ≡ child_refused (row_of id rows)
roots rows forest id = roots_by rows (members rows forest) id (row_of id rows) refl

-- at two levels a row with a parent is at the last
last_by : (n : ℕ) (b : Bool) → n ≤ 2 → 1 ≤ n → (n == 1) ≡ not b → (n == 2) ≡ b
last_by n true h k e = let other : n ≡ 1 → ⊥ = are_not n 1 e in let two : n ≡ 2 = omega (arith, h, k, other) in ap (λ (m : ℕ). m == 2) two
last_by n false h k e = ap (λ (m : ℕ). m == 2) (are_same n 1 e)

some_level : (r : Row) → Shaped r → 1 ≤ r.level
some_level r (inl s) = let at = s.0 in omega (arith, at)
some_level r (inr (inl s)) = let at = s.2 in omega (arith, at)
some_level r (inr (inr (inl s))) = let at = s.4 in omega (arith, at)
some_level r (inr (inr (inr s))) = let at = s.6 in omega (arith, at)

child_of : (rows : List Row) → AllByRecursion (InForest rows) rows → (r : Row) → InForest rows r → r.level ≤ 2 → child_fault 2 (Some r) ≡ child_refused (Some r)
child_of rows all r f h = ap (λ (b : Bool). cond b (Some IsChild) None) (last_by r.level (is_some r.parent) h (some_level r (shaped rows all r f)) (level_by rows all r r.parent f.place))

children_by : (rows : List Row) → AllByRecursion (InForest rows) rows → IsWithinLevels 2 rows → (id : ℕ) (o : Option Row) → row_of id rows ≡ o → child_fault 2 o ≡ child_refused o
children_by rows all low id None e = refl
children_by rows all low id (Some r) e = child_of rows all r (found (InForest rows) id r rows all e) (found (λ q. q.level ≤ 2) id r rows low e)

pub children : (rows : List Row) → IsForest rows → IsWithinLevels 2 rows → (id : ℕ) → child_fault 2 (row_of id rows) ≡ child_refused (row_of id rows)
children rows forest low id = children_by rows (members rows forest) low id (row_of id rows) refl

-- ---- the edits

filter_by : (x : Row) (a b : Bool) (xs ys : List Row) → a ≡ b → xs ≡ ys → cond a (x ∷ xs) xs ≡ cond b (x ∷ ys) ys
filter_by x a b xs ys e f = rw (e, f) refl

pub filter_same : (p q : Row → Bool) (rows : List Row) → AllByRecursion (λ r. p r ≡ q r) rows → filter p rows ≡ filter q rows
filter_same p q [] h = refl
filter_same p q (r ∷ rows) h = filter_by r (p r) (q r) (filter p rows) (filter q rows) h.0 (filter_same p q rows h.1)

pub destroyed_two : (s : RowSet) → IsForest s.rows → IsWithinLevels 2 s.rows → (id : ℕ) → destroyed id s ≡ destroyed_pair id s
destroyed_two s forest low id =
    ap (λ (rows : List Row). record s { rows = rows })
    (filter_same (λ r. not (is_under id r)) (λ r. not (goes_with id r)) s.rows
    (all_of (λ r. is_under id r ≡ goes_with id r) (λ r. not (is_under id r) ≡ not (goes_with id r)) (λ r e. ap (λ (b : Bool). not b) e) s.rows (under_two s.rows forest low id)))

join_by : (a b : Row) (xs ys : List Row) → a ≡ b → xs ≡ ys → a ∷ xs ≡ b ∷ ys
join_by a b xs ys e f = rw (e, f) refl

map_same : (f g : Row → Row) (rows : List Row) → AllByRecursion (λ r. f r ≡ g r) rows → map f rows ≡ map g rows
map_same f g [] h = refl
map_same f g (r ∷ rows) h = join_by (f r) (g r) (map f rows) (map g rows) h.0 (map_same f g rows h.1)

pub reprioritised_two : (s : RowSet) → IsForest s.rows → IsWithinLevels 2 s.rows → (id : ℕ) (priority : ℤ) → reprioritised id priority s ≡ reprioritised_pair id priority s
reprioritised_two s forest low id priority =
    ap (λ (rows : List Row). record s { rows = rows; next_order = s.next_order + 1 })
    (map_same (moved id priority s.next_order) (moved_pair id priority s.next_order) s.rows
    (all_of (λ r. is_under id r ≡ goes_with id r) (λ r. moved id priority s.next_order r ≡ moved_pair id priority s.next_order r)
    (λ r e. ap (λ (b : Bool). cond b (record r { priority = priority; order = cond (r.id == id) s.next_order r.order; path = slice_set r.path 0 s.next_order }) r) e)
    s.rows (under_two s.rows forest low id)))

-- ---- the order

inserted_by : (r x : Row) (a b : Bool) (xs ys zs : List Row) → a ≡ b → ys ≡ zs → cond a (r ∷ x ∷ xs) (x ∷ ys) ≡ cond b (r ∷ x ∷ xs) (x ∷ zs)
inserted_by r x a b xs ys zs e f = rw (e, f) refl

inserted_same : (f g : Row → Row → Bool) (r : Row) (rows : List Row) → AllByRecursion (λ q. f r q ≡ g r q) rows → inserted f r rows ≡ inserted g r rows
inserted_same f g r [] h = refl
inserted_same f g r (x ∷ xs) h = inserted_by r x (f r x) (g r x) xs (inserted f r xs) (inserted g r xs) h.0 (inserted_same f g r xs h.1)

pub order_same : (whole rows : List Row) → AllByRecursion (λ r. AllByRecursion (λ q. stands_before r q ≡ before_at_two whole r q) rows) rows → in_order rows ≡ in_order_at_two whole rows
order_same whole [] h = refl
order_same whole (r ∷ rows) h =
    inserted_same stands_before (before_at_two whole) r (in_order rows) (all_in_order (λ q. stands_before r q ≡ before_at_two whole r q) rows h.0.1)
    ∙ ap (inserted (before_at_two whole) r)
    (order_same whole rows (all_of (λ x. AllByRecursion (λ q. stands_before x q ≡ before_at_two whole x q) (r ∷ rows)) (λ x. AllByRecursion (λ q. stands_before x q ≡ before_at_two whole x q) rows) (λ x k. k.1) rows h.1))

-- what any two of the rows have, any two of those that pass have
pub each_passed : (R : Row → Row → Type 0) (p : Row → Bool) (rows : List Row) → AllByRecursion (λ r. AllByRecursion (R r) rows) rows → AllByRecursion (λ r. AllByRecursion (R r) (filter p rows)) (filter p rows)
each_passed R p rows h =
    all_filter (λ r. AllByRecursion (R r) (filter p rows)) p rows (all_of (λ r. AllByRecursion (R r) rows) (λ r. AllByRecursion (R r) (filter p rows)) (λ r k. all_filter (R r) p rows k) rows h)

pub ordered_two : (rows : List Row) → IsForest rows → IsWithinLevels 2 rows → (p : Row → Bool) → in_order (filter p rows) ≡ in_order_at_two rows (filter p rows)
ordered_two rows forest low p = order_same rows (filter p rows) (each_passed (λ r q. stands_before r q ≡ before_at_two rows r q) p rows (two_levels rows forest low))
