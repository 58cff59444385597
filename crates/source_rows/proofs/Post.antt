-- What the order means for trees.
use Rattle.std.proofs.Common.{◌≡◌, ℕ, ℤ, ◌<◌, ◌≤◌, ◌^◌, true, false, Option, Some, None, List, [], ◌∷◌, ◌⊎◌, inl, inr, refl, ap, sym, ◌∙◌, arith, subst}
use Rattle.std.proofs.lemmas.Bool.Decides.{nat_tests}
use Rattle.std.specs.List.{AllByRecursion}
use Rattle.std.specs.declared.cmp.Ordering.{Ordering}
use Rattle.std.specs.declared.cmp.Ordering.TheVariants.{Less, Equal, Greater}
use Rattle.std.specs.Ordering.{is_lt, is_gt, ordering_then, ordering_reverse, int_cmp, nat_cmp}
use Rattle.std.specs.Cmp.{int_cmp_total, nat_cmp_total}
use Rattle.std.specs.Cmp.Lexicographic.{slice_cmp, nat_list_cmp_total}
use Rattle.std.proofs.lemmas.Cmp.{tied_itself}
use Rattle.source_rows.specs.declared.row.Row.{Row}
use Rattle.source_rows.specs.Row.{no_number, root_path}
use Rattle.source_rows.specs.Rows.{row_of, is_under, stands_before, key_cmp}
use Rattle.source_rows.specs.Tree.{IsForest, IsOneTree, IsPostOrder, HasPlace, IsChildOf, NotBehind, Fills, order_or, parent_of, side_of, two_level_key}
use Rattle.source_rows.proofs.Compared.{some_same}
use Rattle.source_rows.proofs.Lists.{all_of, all_and, all_with}
use Rattle.source_rows.proofs.Forest.{InForest, Shaped, members, shaped, found, path_is}
use Rattle.source_rows.proofs.Paths.{under, under_path}
use Rattle.source_rows.proofs.Kin.{IsPath, path_of}
use Rattle.source_rows.proofs.Tree.{between, post}

pairs : (rows : List Row) (T : Row → Row → Type 0) → AllByRecursion (InForest rows) rows → ((r q : Row) → InForest rows r → InForest rows q → T r q) → AllByRecursion (λ r. AllByRecursion (λ q. T r q) rows) rows
pairs rows T all h = all_with T (InForest rows) h rows rows all all

pub one_tree : (rows : List Row) → IsForest rows → IsOneTree rows
one_tree rows f =
    let all = members rows f in
    pairs rows (λ r q. is_under r.id q ≡ true → q.priority ≡ r.priority) all (λ r q g h u. (under rows all r g q h u).priority)

-- ---- orderings

pub flip_by : (c : Ordering) → is_lt (ordering_reverse c) ≡ is_gt c
flip_by Less = refl
flip_by Equal = refl
flip_by Greater = refl

pub back_by : (c : Ordering) → is_gt (ordering_reverse c) ≡ is_lt c
back_by Less = refl
back_by Equal = refl
back_by Greater = refl

not_before : (p q : List ℕ) → NotBehind p q → is_lt (slice_cmp nat_cmp q p) ≡ false
not_before p q h = ap is_lt (nat_list_cmp_total.antisymm q p) ∙ (flip_by (slice_cmp nat_cmp p q) ∙ h)

not_behind : (p q : List ℕ) → is_lt (slice_cmp nat_cmp p q) ≡ false → NotBehind q p
not_behind p q h = ap is_gt (nat_list_cmp_total.antisymm q p) ∙ (back_by (slice_cmp nat_cmp p q) ∙ h)

same_priority : (a b : ℤ) (o : Ordering) → a ≡ b → ordering_then (int_cmp a b) o ≡ o
same_priority a b o e = rw (sym e, tied_itself int_cmp_total a) refl

-- ---- a row stands behind those under it

fills_at : (l k : ℕ) (p q x y : List ℕ) → l ≡ k → p ≡ q → x ≡ y → Fills k q y → Fills l p x
fills_at l k p q x y e f g h = rw (e, f, g) h

fills : (r : Row) (x : List ℕ) → Shaped r → IsPath x → Fills r.level r.path x
fills r x (inl s) n = fills_at r.level 1 r.path (r.order ∷ no_number ∷ no_number ∷ no_number ∷ []) x (n.a ∷ n.b ∷ n.c ∷ n.d ∷ []) s.0 s.2 n.is (refl, n.b_fits, (refl, n.c_fits, (refl, n.d_fits, tt)))
fills r x (inr (inl s)) n = fills_at r.level 2 r.path (s.1 ∷ r.order ∷ no_number ∷ no_number ∷ []) x (n.a ∷ n.b ∷ n.c ∷ n.d ∷ []) s.2 s.4 n.is (refl, n.c_fits, (refl, n.d_fits, tt))
fills r x (inr (inr (inl s))) n = fills_at r.level 3 r.path (s.2 ∷ s.3 ∷ r.order ∷ no_number ∷ []) x (n.a ∷ n.b ∷ n.c ∷ n.d ∷ []) s.4 s.6 n.is (refl, n.d_fits, tt)
fills r x (inr (inr (inr s))) n = fills_at r.level 4 r.path (s.3 ∷ s.4 ∷ s.5 ∷ r.order ∷ []) x (n.a ∷ n.b ∷ n.c ∷ n.d ∷ []) s.6 s.8 n.is tt

pub children_first : (rows : List Row) → AllByRecursion (InForest rows) rows → (r q : Row) → InForest rows r → InForest rows q → is_under r.id q ≡ true → stands_before r q ≡ false
children_first rows all r q f g h =
    let u = under rows all r f q g h in
    let behind = post r.level r.path q.path u.path (fills r q.path (shaped rows all r f) (path_of q g.number (shaped rows all q g))) in
    ap is_lt (same_priority r.priority q.priority (slice_cmp nat_cmp r.path q.path) (sym u.priority)) ∙ not_before q.path r.path behind

-- ---- what stands between

not_less : (c o : Ordering) → is_lt (ordering_then c o) ≡ false → (c ≡ Greater) ⊎ ((c ≡ Equal) × (is_lt o ≡ false))
not_less Less o h = cc
not_less Equal o h = inr (refl, h)
not_less Greater o h = inl refl

not_greater : (c o : Ordering) → c ≡ Less → is_lt (ordering_then c o) ≡ false → ⊥
not_greater c o e h = let never : true ≡ false = sym (ap (λ (x : Ordering). is_lt (ordering_then x o)) e) ∙ h in cc

after_equal : (c o : Ordering) → c ≡ Equal → is_lt (ordering_then c o) ≡ false → is_lt o ≡ false
after_equal c o e h = sym (ap (λ (x : Ordering). is_lt (ordering_then x o)) e) ∙ h

squeezed : (a b c : ℤ) (p q x : List ℕ) → b ≡ a → is_lt (ordering_then (int_cmp c b) (slice_cmp nat_cmp x q)) ≡ false → is_lt (ordering_then (int_cmp a c) (slice_cmp nat_cmp p x)) ≡ false → NotBehind q x × NotBehind x p
squeezed a b c p q x e h k = elim (not_less (int_cmp c b) (slice_cmp nat_cmp x q) h) [
  | inl t ↦ absurd (not_greater (int_cmp a c) (slice_cmp nat_cmp p x) (turned Greater t) k)
  | inr t ↦ (not_behind x q t.1, not_behind p x (after_equal (int_cmp a c) (slice_cmp nat_cmp p x) (turned Equal t.0) k))
]
  where
    turned : (o : Ordering) → int_cmp c b ≡ o → int_cmp a c ≡ ordering_reverse o
    turned o t = ap (λ (z : ℤ). int_cmp z c) (sym e) ∙ (int_cmp_total.antisymm b c ∙ ap ordering_reverse t)

pub together : (rows : List Row) → AllByRecursion (InForest rows) rows → (r q x : Row) → InForest rows r → InForest rows q → InForest rows x → is_under r.id q ≡ true → stands_before x q ≡ false → stands_before r x ≡ false → is_under r.id x ≡ true
together rows all r q x f g i h k j =
    let u = under rows all r f q g h in
    let s = squeezed r.priority q.priority x.priority r.path q.path x.path u.priority k j in
    under_path rows all r f x i (between r.level r.path q.path x.path u.path s.0 s.1)

-- ---- siblings

less_here : (a b : ℕ) (o : Ordering) → a < b → is_lt (ordering_then (nat_cmp a b) o) ≡ true
less_here a b o h = let less : nat_cmp a b ≡ Less = grind (arith, nat_tests) in rw less refl

paths_less : (p q x y : List ℕ) → p ≡ x → q ≡ y → is_lt (slice_cmp nat_cmp x y) ≡ true → is_lt (slice_cmp nat_cmp p q) ≡ true
paths_less p q x y e f h = rw (e, f) h

children_less : (w r q : Row) → IsChildOf w r → IsChildOf w q → r.level ≤ 4 → Shaped w → r.order < q.order → is_lt (slice_cmp nat_cmp r.path q.path) ≡ true
children_less w r q c d most (inl s) h =
    paths_less r.path q.path (w.order ∷ r.order ∷ no_number ∷ no_number ∷ []) (w.order ∷ q.order ∷ no_number ∷ no_number ∷ [])
    (c.path ∙ path_is w.level 1 w.path (w.order ∷ no_number ∷ no_number ∷ no_number ∷ []) r.order s.0 s.2) (d.path ∙ path_is w.level 1 w.path (w.order ∷ no_number ∷ no_number ∷ no_number ∷ []) q.order s.0 s.2)
    (rw (tied_itself nat_cmp_total w.order) (less_here r.order q.order Equal h))
children_less w r q c d most (inr (inl s)) h =
    paths_less r.path q.path (s.1 ∷ w.order ∷ r.order ∷ no_number ∷ []) (s.1 ∷ w.order ∷ q.order ∷ no_number ∷ [])
    (c.path ∙ path_is w.level 2 w.path (s.1 ∷ w.order ∷ no_number ∷ no_number ∷ []) r.order s.2 s.4) (d.path ∙ path_is w.level 2 w.path (s.1 ∷ w.order ∷ no_number ∷ no_number ∷ []) q.order s.2 s.4)
    (rw (tied_itself nat_cmp_total s.1, tied_itself nat_cmp_total w.order) (less_here r.order q.order Equal h))
children_less w r q c d most (inr (inr (inl s))) h =
    paths_less r.path q.path (s.2 ∷ s.3 ∷ w.order ∷ r.order ∷ []) (s.2 ∷ s.3 ∷ w.order ∷ q.order ∷ [])
    (c.path ∙ path_is w.level 3 w.path (s.2 ∷ s.3 ∷ w.order ∷ no_number ∷ []) r.order s.4 s.6) (d.path ∙ path_is w.level 3 w.path (s.2 ∷ s.3 ∷ w.order ∷ no_number ∷ []) q.order s.4 s.6)
    (rw (tied_itself nat_cmp_total s.2, tied_itself nat_cmp_total s.3, tied_itself nat_cmp_total w.order) (less_here r.order q.order Equal h))
children_less w r q c d most (inr (inr (inr s))) h = let up = c.level in let at = s.6 in absurd (omega (arith, up, at, most))

sibling_paths : (rows : List Row) → AllByRecursion (InForest rows) rows → (r q : Row) (o : Option ℕ) → HasPlace rows o r → HasPlace rows o q → r.level ≤ 4 → r.order < q.order → is_lt (slice_cmp nat_cmp r.path q.path) ≡ true
sibling_paths rows all r q None p s most h =
    paths_less r.path q.path (root_path r.order) (root_path q.order) p.path s.path (less_here r.order q.order Equal h)
sibling_paths rows all r q (Some id) p s most h =
    let one : s.0 ≡ p.0 = some_same s.0 p.0 (sym s.1 ∙ p.1) in
    children_less p.0 r q p.2 (subst (λ (w : Row). IsChildOf w q) one s.2) most (shaped rows all p.0 (found (InForest rows) id p.0 rows all p.1)) h

siblings : (rows : List Row) → AllByRecursion (InForest rows) rows → (r q : Row) → InForest rows r → InForest rows q → r.parent ≡ q.parent → r.priority ≡ q.priority → r.order < q.order → stands_before r q ≡ true
siblings rows all r q f g e same less =
    ap is_lt (same_priority r.priority q.priority (slice_cmp nat_cmp r.path q.path) same)
    ∙ sibling_paths rows all r q r.parent f.place (subst (λ (o : Option ℕ). HasPlace rows o q) (sym e) g.place) f.level less

pub post_order : (rows : List Row) → IsForest rows → IsPostOrder rows
post_order rows f =
    let all = members rows f in
    record {
      children_first = pairs rows (λ r q. is_under r.id q ≡ true → stands_before r q ≡ false) all (children_first rows all);
      together = pairs rows (λ r q. AllByRecursion (λ x. is_under r.id q ≡ true → stands_before x q ≡ false → stands_before r x ≡ false → is_under r.id x ≡ true) rows) all
          (λ r q g h. all_of (InForest rows) (λ x. is_under r.id q ≡ true → stands_before x q ≡ false → stands_before r x ≡ false → is_under r.id x ≡ true) (λ x i. together rows all r q x g h i) rows all);
      siblings = pairs rows (λ r q. r.parent ≡ q.parent → r.priority ≡ q.priority → r.order < q.order → stands_before r q ≡ true) all (siblings rows all);
    }

-- ---- two levels

abbrev TwoForm : Row → List ℕ → Type 0
TwoForm r key = ((r.path ≡ r.order ∷ no_number ∷ no_number ∷ no_number ∷ []) × (key ≡ r.order ∷ 1 ∷ r.order ∷ []))
    ⊎ ((n : ℕ) × (r.path ≡ n ∷ r.order ∷ no_number ∷ no_number ∷ []) × (key ≡ n ∷ 0 ∷ r.order ∷ []))

abbrev numbers_at : List Row → Option ℕ → Row → List ℕ
numbers_at rows o r = order_or r.order (parent_of rows o) ∷ side_of o ∷ r.order ∷ []

child_form : (rows : List Row) (r w : Row) (id : ℕ) → row_of id rows ≡ Some w → IsChildOf w r → r.level ≤ 2 → Shaped w → TwoForm r (numbers_at rows (Some id) r)
child_form rows r w id e c h (inl s) = inr (w.order, c.path ∙ path_is w.level 1 w.path (w.order ∷ no_number ∷ no_number ∷ no_number ∷ []) r.order s.0 s.2, ap (λ (o : Option Row). order_or r.order o ∷ 0 ∷ r.order ∷ []) e)
child_form rows r w id e c h (inr (inl s)) = let up = c.level in let at = s.2 in absurd (omega (arith, up, at, h))
child_form rows r w id e c h (inr (inr (inl s))) = let up = c.level in let at = s.4 in absurd (omega (arith, up, at, h))
child_form rows r w id e c h (inr (inr (inr s))) = let up = c.level in let at = s.6 in absurd (omega (arith, up, at, h))

two_form : (rows : List Row) → AllByRecursion (InForest rows) rows → (r : Row) (o : Option ℕ) → HasPlace rows o r → r.level ≤ 2 → TwoForm r (numbers_at rows o r)
two_form rows all r None p h = inl (p.path, refl)
two_form rows all r (Some id) w h = child_form rows r w.0 id w.1 w.2 h (shaped rows all w.0 (found (InForest rows) id w.0 rows all w.1))

both_roots : (c : Ordering) → ordering_then c Equal ≡ ordering_then c (ordering_then c Equal)
both_roots Less = refl
both_roots Equal = refl
both_roots Greater = refl

lists_same : (p q x y s t u v : List ℕ) → p ≡ s → q ≡ t → x ≡ u → y ≡ v → slice_cmp nat_cmp s t ≡ slice_cmp nat_cmp u v → slice_cmp nat_cmp p q ≡ slice_cmp nat_cmp x y
lists_same p q x y s t u v a b c d h = rw (a, b, c, d) h

forms_same : (r q : Row) (x y : List ℕ) → r.order < 2 ^ 63 → q.order < 2 ^ 63 → TwoForm r x → TwoForm q y → slice_cmp nat_cmp r.path q.path ≡ slice_cmp nat_cmp x y
forms_same r q x y h k (inl a) (inl b) =
    lists_same r.path q.path x y (r.order ∷ no_number ∷ no_number ∷ no_number ∷ []) (q.order ∷ no_number ∷ no_number ∷ no_number ∷ []) (r.order ∷ 1 ∷ r.order ∷ []) (q.order ∷ 1 ∷ q.order ∷ []) a.0 b.0 a.1 b.1 (both_roots (nat_cmp r.order q.order))
forms_same r q x y h k (inl a) (inr b) =
    let more : nat_cmp no_number q.order ≡ Greater = above q.order k in
    lists_same r.path q.path x y (r.order ∷ no_number ∷ no_number ∷ no_number ∷ []) (b.0 ∷ q.order ∷ no_number ∷ no_number ∷ []) (r.order ∷ 1 ∷ r.order ∷ []) (b.0 ∷ 0 ∷ q.order ∷ []) a.0 b.1 a.1 b.2 (rw more refl)
  where
    above : (n : ℕ) → n < 2 ^ 63 → nat_cmp no_number n ≡ Greater
    above n h = grind (arith, nat_tests)
forms_same r q x y h k (inr a) (inl b) =
    let less : nat_cmp r.order no_number ≡ Less = below r.order h in
    lists_same r.path q.path x y (a.0 ∷ r.order ∷ no_number ∷ no_number ∷ []) (q.order ∷ no_number ∷ no_number ∷ no_number ∷ []) (a.0 ∷ 0 ∷ r.order ∷ []) (q.order ∷ 1 ∷ q.order ∷ []) a.1 b.0 a.2 b.1 (rw less refl)
  where
    below : (n : ℕ) → n < 2 ^ 63 → nat_cmp n no_number ≡ Less
    below n h = grind (arith, nat_tests)
forms_same r q x y h k (inr a) (inr b) =
    lists_same r.path q.path x y (a.0 ∷ r.order ∷ no_number ∷ no_number ∷ []) (b.0 ∷ q.order ∷ no_number ∷ no_number ∷ []) (a.0 ∷ 0 ∷ r.order ∷ []) (b.0 ∷ 0 ∷ q.order ∷ []) a.1 b.1 a.2 b.2 refl

pub two_levels : (rows : List Row) → IsForest rows → AllByRecursion (λ r. r.level ≤ 2) rows
    → AllByRecursion (λ r. AllByRecursion (λ q. stands_before r q ≡ is_lt (key_cmp (two_level_key rows r) (two_level_key rows q))) rows) rows
two_levels rows f low =
    let all = members rows f in
    let both = all_and (InForest rows) (λ r. r.level ≤ 2) rows all low in
    all_of (λ r. InForest rows r × (r.level ≤ 2)) (λ r. AllByRecursion (λ q. stands_before r q ≡ is_lt (key_cmp (two_level_key rows r) (two_level_key rows q))) rows)
    (λ r g. all_of (λ q. InForest rows q × (q.level ≤ 2)) (λ q. stands_before r q ≡ is_lt (key_cmp (two_level_key rows r) (two_level_key rows q)))
    (λ q h. ap (λ (o : Ordering). is_lt (ordering_then (int_cmp r.priority q.priority) o))
    (forms_same r q (numbers_at rows r.parent r) (numbers_at rows q.parent q) g.0.number h.0.number (two_form rows all r r.parent g.0.place g.1) (two_form rows all q q.parent h.0.place h.1))) rows both) rows both
