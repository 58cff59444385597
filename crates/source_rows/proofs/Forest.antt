-- What follows for rows that stand in trees.
use Rattle.std.proofs.Common.{◌≡◌, ◌≢◌, ℕ, ◌<◌, ◌≤◌, ◌^◌, ◌==◌, zero, suc, cond, Bool, true, false, ◌||◌, Option, Some, None, List, [], ◌∷◌, ◌⊎◌, inl, inr, refl, ap, sym, ◌∙◌, arith, subst}
use Rattle.std.specs.List.{AllByRecursion, list_any}
use Rattle.source_rows.specs.declared.row.Row.{Row}
use Rattle.source_rows.specs.Row.{no_number, root_lineage, lineage_under, path_under}
use Rattle.source_rows.specs.Rows.{row_of, is_under}
use Rattle.source_rows.specs.Tree.{IdsRise, OrdersDiffer, IsRoot, IsChildOf, HasPlace, IsForest}
use Rattle.source_rows.proofs.Compared.{or_true, some_same}
use Rattle.source_rows.proofs.Compared.{same_self, are_same, not_same}
use Rattle.source_rows.proofs.Lists.{all_both, each_with_each}

-- ---- a row that is found

-- what holds of all rows holds of the one that is found
found_by : (P : Row → Type 0) (r x : Row) (b : Bool) (o : Option Row) → P r → (o ≡ Some x → P x) → cond b (Some r) o ≡ Some x → P x
found_by P r x true o h ih e = let same : r ≡ x = cc in subst P same h
found_by P r x false o h ih e = ih e

pub found : (P : Row → Type 0) (id : ℕ) (x : Row) (rows : List Row) → AllByRecursion P rows → row_of id rows ≡ Some x → P x
found P id x [] h e = cc
found P id x (r ∷ rows) h e = found_by P r x (r.id == id) (row_of id rows) h.0 (found P id x rows h.1) e

-- ---- each row is found by its id

later_found : (q : Row) (rows : List Row) (r : Row) → q.id < r.id → row_of r.id rows ≡ Some r → row_of r.id (q ∷ rows) ≡ Some r
later_found q rows r h e =
    let apart : (q.id == r.id) ≡ false = not_same q.id r.id (λ s. absurd (omega (arith, s, h))) in
    rw apart e

later_all : (q : Row) (rows xs : List Row) → AllByRecursion (λ r. q.id < r.id) xs → AllByRecursion (λ r. row_of r.id rows ≡ Some r) xs → AllByRecursion (λ r. row_of r.id (q ∷ rows) ≡ Some r) xs
later_all q rows xs h k = all_both (λ r. q.id < r.id) (λ r. row_of r.id rows ≡ Some r) (λ r. row_of r.id (q ∷ rows) ≡ Some r) (λ r less e. later_found q rows r less e) xs h k

pub all_found : (rows : List Row) → IdsRise rows → AllByRecursion (λ r. row_of r.id rows ≡ Some r) rows
all_found [] h = tt
all_found (r ∷ rows) h = (rw (same_self r.id) refl, later_all r rows rows h.0 (all_found rows h.1))

-- ---- an order number is one row's

pub one_order : (rows : List Row) → OrdersDiffer rows → AllByRecursion (λ r. AllByRecursion (λ x. r.order ≡ x.order → r ≡ x) rows) rows
one_order rows h = each_with_each (λ r x. r.order ≢ x.order) (λ r x. r.order ≡ x.order → r ≡ x) (λ r e. refl) (λ r x apart e. absurd (apart e)) (λ r x apart e. absurd (apart (sym e))) rows h

-- ---- a row of a forest

pub record InForest (rows : List Row) (r : Row) : Type 0 where
  pub place : HasPlace rows r.parent r
  pub is : row_of r.id rows ≡ Some r
  pub number : r.order < 2 ^ 63
  pub level : r.level ≤ 4
  pub one : AllByRecursion (λ x. r.order ≡ x.order → r ≡ x) rows

members_by : (rows xs : List Row) → AllByRecursion (λ r. HasPlace rows r.parent r) xs → AllByRecursion (λ r. row_of r.id rows ≡ Some r) xs → AllByRecursion (λ r. r.order < 2 ^ 63) xs → AllByRecursion (λ r. r.level ≤ 4) xs → AllByRecursion (λ r. AllByRecursion (λ x. r.order ≡ x.order → r ≡ x) rows) xs → AllByRecursion (InForest rows) xs
members_by rows [] a b c d e = tt
members_by rows (r ∷ xs) a b c d e = (record { place = a.0; is = b.0; number = c.0; level = d.0; one = e.0 }, members_by rows xs a.1 b.1 c.1 d.1 e.1)

pub members : (rows : List Row) → IsForest rows → AllByRecursion (InForest rows) rows
members rows f = members_by rows rows f.placed (all_found rows f.rising) f.numbers f.levels (one_order rows f.differ)

pub same_id : (rows : List Row) (r q : Row) → InForest rows r → InForest rows q → r.id ≡ q.id → r ≡ q
same_id rows r q f g e = let s = sym f.is ∙ (ap (λ (n : ℕ). row_of n rows) e ∙ g.is) in some_same r q s

pub same_order : (rows : List Row) (r q : Row) → InForest rows r → InForest rows q → r.order ≡ q.order → r ≡ q
same_order rows r q f g e = found (λ x. r.order ≡ x.order → r ≡ x) q.id q rows f.one g.is e

-- from each row up to its root
pub climb : (rows : List Row) (C : Row → Type 0) → AllByRecursion (InForest rows) rows
    → ((r : Row) → InForest rows r → IsRoot r → C r)
    → ((q r : Row) → InForest rows q → InForest rows r → IsChildOf q r → C q → C r)
    → (n : ℕ) (r : Row) (o : Option ℕ) → HasPlace rows o r → r.level ≤ n → InForest rows r → C r
climb rows C all root child n r None p h f = root r f p
climb rows C all root child zero r (Some id) w h f = let up = w.2.level in absurd (omega (arith, up, h))
climb rows C all root child (suc n) r (Some id) w h f =
    let q = w.0 in
    let g = found (InForest rows) id q rows all w.1 in
    let up = w.2.level in
    child q r g f w.2 (climb rows C all root child n q q.parent g.place (omega (arith, up, h)) g)

pub each : (rows : List Row) (C : Row → Type 0) → AllByRecursion (InForest rows) rows
    → ((r : Row) → InForest rows r → IsRoot r → C r)
    → ((q r : Row) → InForest rows q → InForest rows r → IsChildOf q r → C q → C r)
    → (r : Row) → InForest rows r → C r
each rows C all root child r f = climb rows C all root child 4 r r.parent f.place f.level f

-- ---- the lineage and the path of each level

abbrev pub One : Row → Type 0
One r = (r.level ≡ 1) × (r.lineage ≡ r.id ∷ r.id ∷ r.id ∷ r.id ∷ []) × (r.path ≡ r.order ∷ no_number ∷ no_number ∷ no_number ∷ [])

abbrev pub Two : Row → Type 0
Two r = (a : ℕ) × (n : ℕ) × (r.level ≡ 2) × (r.lineage ≡ a ∷ r.id ∷ r.id ∷ r.id ∷ []) × (r.path ≡ n ∷ r.order ∷ no_number ∷ no_number ∷ []) × (n < 2 ^ 63)

abbrev pub Three : Row → Type 0
Three r = (a : ℕ) × (b : ℕ) × (n : ℕ) × (m : ℕ) × (r.level ≡ 3) × (r.lineage ≡ a ∷ b ∷ r.id ∷ r.id ∷ []) × (r.path ≡ n ∷ m ∷ r.order ∷ no_number ∷ []) × (n < 2 ^ 63) × (m < 2 ^ 63)

abbrev pub Four : Row → Type 0
Four r = (a : ℕ) × (b : ℕ) × (c : ℕ) × (n : ℕ) × (m : ℕ) × (k : ℕ) × (r.level ≡ 4) × (r.lineage ≡ a ∷ b ∷ c ∷ r.id ∷ []) × (r.path ≡ n ∷ m ∷ k ∷ r.order ∷ []) × (n < 2 ^ 63) × (m < 2 ^ 63) × (k < 2 ^ 63)

abbrev pub Shaped : Row → Type 0
Shaped r = One r ⊎ (Two r ⊎ (Three r ⊎ Four r))

root_shape : (rows : List Row) (r : Row) → InForest rows r → IsRoot r → Shaped r
root_shape rows r f p = inl (p.level, p.lineage, p.path)

pub lineage_same : (k l : ℕ) (x y : List ℕ) (i j : ℕ) → k ≡ l → x ≡ y → i ≡ j → lineage_under k x i ≡ lineage_under l y j
lineage_same k l x y i j a b c = rw (a, b, c) refl

pub path_same : (k l : ℕ) (x y : List ℕ) (i j : ℕ) → k ≡ l → x ≡ y → i ≡ j → path_under k x i ≡ path_under l y j
path_same k l x y i j a b c = rw (a, b, c) refl

lineage_is : (l k : ℕ) (xs ys : List ℕ) (id : ℕ) → l ≡ k → xs ≡ ys → lineage_under l xs id ≡ lineage_under k ys id
lineage_is l k xs ys id e f = lineage_same l k xs ys id id e f refl

pub path_is : (l k : ℕ) (xs ys : List ℕ) (id : ℕ) → l ≡ k → xs ≡ ys → path_under l xs id ≡ path_under k ys id
path_is l k xs ys id e f = path_same l k xs ys id id e f refl

child_shape : (rows : List Row) (q r : Row) → InForest rows q → InForest rows r → IsChildOf q r → Shaped q → Shaped r
child_shape rows q r g f c (inl s) =
    let up = c.level in let at = s.0 in
    inr (inl (q.id, q.order, omega (arith, up, at), c.lineage ∙ lineage_is q.level 1 q.lineage (q.id ∷ q.id ∷ q.id ∷ q.id ∷ []) r.id s.0 s.1, c.path ∙ path_is q.level 1 q.path (q.order ∷ no_number ∷ no_number ∷ no_number ∷ []) r.order s.0 s.2, g.number))
child_shape rows q r g f c (inr (inl s)) =
    let up = c.level in let at = s.2 in
    inr (inr (inl (s.0, q.id, s.1, q.order, omega (arith, up, at), c.lineage ∙ lineage_is q.level 2 q.lineage (s.0 ∷ q.id ∷ q.id ∷ q.id ∷ []) r.id s.2 s.3, c.path ∙ path_is q.level 2 q.path (s.1 ∷ q.order ∷ no_number ∷ no_number ∷ []) r.order s.2 s.4, s.5, g.number)))
child_shape rows q r g f c (inr (inr (inl s))) =
    let up = c.level in let at = s.4 in
    inr (inr (inr (s.0, s.1, q.id, s.2, s.3, q.order, omega (arith, up, at), c.lineage ∙ lineage_is q.level 3 q.lineage (s.0 ∷ s.1 ∷ q.id ∷ q.id ∷ []) r.id s.4 s.5, c.path ∙ path_is q.level 3 q.path (s.2 ∷ s.3 ∷ q.order ∷ no_number ∷ []) r.order s.4 s.6, s.7, s.8, g.number)))
child_shape rows q r g f c (inr (inr (inr s))) = let up = c.level in let at = s.6 in let most = f.level in absurd (omega (arith, up, at, most))

pub shaped : (rows : List Row) → AllByRecursion (InForest rows) rows → (r : Row) → InForest rows r → Shaped r
shaped rows all r f = each rows Shaped all (root_shape rows) (child_shape rows) r f

-- ---- what is under a row

or_one : (u v : Bool) → (u || (v || (v || (v || false)))) ≡ ((u || (u || (u || (u || false)))) || v)
or_one true v = refl
or_one false true = refl
or_one false false = refl

or_two : (u w v : Bool) → (u || (w || (v || (v || false)))) ≡ ((u || (w || (w || (w || false)))) || v)
or_two true w v = refl
or_two false true v = refl
or_two false false true = refl
or_two false false false = refl

or_three : (u w x v : Bool) → (u || (w || (x || (v || false)))) ≡ ((u || (w || (x || (x || false)))) || v)
or_three true w x v = refl
or_three false true x v = refl
or_three false false true v = refl
or_three false false false true = refl
or_three false false false false = refl

any_of : (f : ℕ → Bool) (xs ys : List ℕ) → xs ≡ ys → list_any f xs ≡ list_any f ys
any_of f xs ys e = ap (list_any f) e

-- what some id on a child's lineage passes, its own does, or one on its parent's
pub any_child : (f : ℕ → Bool) (q r : Row) → IsChildOf q r → r.level ≤ 4 → Shaped q → list_any f r.lineage ≡ (list_any f q.lineage || f r.id)
any_child f q r c most (inl s) =
    any_of f r.lineage (q.id ∷ r.id ∷ r.id ∷ r.id ∷ []) (c.lineage ∙ lineage_is q.level 1 q.lineage (q.id ∷ q.id ∷ q.id ∷ q.id ∷ []) r.id s.0 s.1)
    ∙ (or_one (f q.id) (f r.id) ∙ sym (ap (λ (b : Bool). b || f r.id) (any_of f q.lineage (q.id ∷ q.id ∷ q.id ∷ q.id ∷ []) s.1)))
any_child f q r c most (inr (inl s)) =
    any_of f r.lineage (s.0 ∷ q.id ∷ r.id ∷ r.id ∷ []) (c.lineage ∙ lineage_is q.level 2 q.lineage (s.0 ∷ q.id ∷ q.id ∷ q.id ∷ []) r.id s.2 s.3)
    ∙ (or_two (f s.0) (f q.id) (f r.id) ∙ sym (ap (λ (b : Bool). b || f r.id) (any_of f q.lineage (s.0 ∷ q.id ∷ q.id ∷ q.id ∷ []) s.3)))
any_child f q r c most (inr (inr (inl s))) =
    any_of f r.lineage (s.0 ∷ s.1 ∷ q.id ∷ r.id ∷ []) (c.lineage ∙ lineage_is q.level 3 q.lineage (s.0 ∷ s.1 ∷ q.id ∷ q.id ∷ []) r.id s.4 s.5)
    ∙ (or_three (f s.0) (f s.1) (f q.id) (f r.id) ∙ sym (ap (λ (b : Bool). b || f r.id) (any_of f q.lineage (s.0 ∷ s.1 ∷ q.id ∷ q.id ∷ []) s.5)))
any_child f q r c most (inr (inr (inr s))) = let up = c.level in let at = s.6 in absurd (omega (arith, up, at, most))

-- under an id is what has it, or whose parent is under it
pub under_child : (id : ℕ) (q r : Row) → IsChildOf q r → r.level ≤ 4 → Shaped q → is_under id r ≡ (is_under id q || (r.id == id))
under_child id q r c most s = any_child (λ i. i == id) q r c most s

or_up : (a b : Bool) → a ≡ true → (a || b) ≡ true
or_up true b h = refl
or_up false b h = cc

or_down : (a b : Bool) → (a || b) ≡ true → (a ≡ true) ⊎ (b ≡ true)
or_down true b h = inl refl
or_down false b h = inr h

pub under_up : (id : ℕ) (q r : Row) → IsChildOf q r → r.level ≤ 4 → Shaped q → is_under id q ≡ true → is_under id r ≡ true
under_up id q r c most s h = under_child id q r c most s ∙ or_up (is_under id q) (r.id == id) h

pub under_down : (id : ℕ) (q r : Row) → IsChildOf q r → r.level ≤ 4 → Shaped q → is_under id r ≡ true → (is_under id q ≡ true) ⊎ (r.id ≡ id)
under_down id q r c most s h = elim (or_down (is_under id q) (r.id == id) (sym (under_child id q r c most s) ∙ h)) [ inl t ↦ inl t | inr t ↦ inr (are_same r.id id t) ]

or_four : (u : Bool) → (u || (u || (u || (u || false)))) ≡ true → u ≡ true
or_four true h = refl
or_four false h = cc

pub under_root : (id : ℕ) (r : Row) → IsRoot r → is_under id r ≡ true → r.id ≡ id
under_root id r p h = are_same r.id id (or_four (r.id == id) (sym (any_of (λ i. i == id) r.lineage (root_lineage r.id) p.lineage) ∙ h))

pub under_self : (r : Row) → Shaped r → is_under r.id r ≡ true
under_self r (inl s) = any_of (λ i. i == r.id) r.lineage (r.id ∷ r.id ∷ r.id ∷ r.id ∷ []) s.1 ∙ rw (same_self r.id) refl
under_self r (inr (inl s)) = any_of (λ i. i == r.id) r.lineage (s.0 ∷ r.id ∷ r.id ∷ r.id ∷ []) s.3 ∙ rw (same_self r.id) (or_true (s.0 == r.id))
under_self r (inr (inr (inl s))) = any_of (λ i. i == r.id) r.lineage (s.0 ∷ s.1 ∷ r.id ∷ r.id ∷ []) s.5 ∙ rw (same_self r.id, or_true (s.1 == r.id)) (or_true (s.0 == r.id))
under_self r (inr (inr (inr s))) = any_of (λ i. i == r.id) r.lineage (s.0 ∷ s.1 ∷ s.2 ∷ r.id ∷ []) s.7 ∙ rw (same_self r.id, or_true (s.2 == r.id), or_true (s.1 == r.id)) (or_true (s.0 == r.id))
