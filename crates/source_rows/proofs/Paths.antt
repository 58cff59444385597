-- The paths of rows that stand in trees.
use Rattle.std.proofs.Common.{◌≡◌, ℕ, ◌<◌, ◌≤◌, ◌+◌, ◌==◌, zero, suc, true, List, [], ◌∷◌, ◌++◌, ◌⊎◌, inl, inr, length, refl, ap, sym, ◌∙◌, arith, subst}
use Rattle.std.specs.Prelude.{slice_index}
use Rattle.std.proofs.lemmas.Bool.{cases_order}
use Rattle.std.specs.List.{AllByRecursion}
use Rattle.source_rows.specs.declared.row.Row.{Row}
use Rattle.source_rows.specs.Row.{no_number}
use Rattle.source_rows.specs.Rows.{is_under}
use Rattle.source_rows.specs.Tree.{IsRoot, IsChildOf, starts}
use Rattle.source_rows.proofs.Compared.{same_self, are_same, and_both}
use Rattle.source_rows.proofs.Forest.{InForest, Shaped, each, shaped, path_is, same_id, same_order, under_up, under_down, under_root, under_self}

-- ---- beginnings

pub starts_with : (l : ℕ) (p xs ys : List ℕ) → l ≤ length p → starts l (p ++ xs) (p ++ ys) ≡ true
starts_with zero p xs ys h = refl
starts_with (suc l) [] xs ys h = absurd (omega (arith, h))
starts_with (suc l) (a ∷ p) xs ys h = rw (same_self a) (starts_with l p xs ys (omega (arith, h)))

pub starts_trans : (l : ℕ) (p x y : List ℕ) → starts l p x ≡ true → starts l x y ≡ true → starts l p y ≡ true
starts_trans zero p x y h k = refl
starts_trans (suc l) [] x y h k = cc
starts_trans (suc l) (a ∷ p) [] y h k = cc
starts_trans (suc l) (a ∷ p) (b ∷ x) [] h k = cc
starts_trans (suc l) (a ∷ p) (b ∷ x) (c ∷ y) h k =
    let t = and_both (a == b) (starts l p x) h in
    let u = and_both (b == c) (starts l x y) k in
    let ac : (a == c) ≡ true = ap (λ (n : ℕ). n == c) (are_same a b t.0) ∙ u.0 in
    rw ac (starts_trans l p x y t.1 u.1)

pub starts_back : (l : ℕ) (p x : List ℕ) → starts l p x ≡ true → starts l x p ≡ true
starts_back zero p x h = refl
starts_back (suc l) [] x h = cc
starts_back (suc l) (a ∷ p) [] h = cc
starts_back (suc l) (a ∷ p) (b ∷ x) h =
    let t = and_both (a == b) (starts l p x) h in
    let ba : (b == a) ≡ true = ap (λ (n : ℕ). n == a) (sym (are_same a b t.0)) ∙ same_self a in
    rw ba (starts_back l p x t.1)

-- the last of them
pub starts_last : (l : ℕ) (p x : List ℕ) → starts (suc l) p x ≡ true → slice_index p l ≡ slice_index x l
starts_last l [] x h = cc
starts_last l (a ∷ p) [] h = cc
starts_last zero (a ∷ p) (b ∷ x) h = are_same a b (and_both (a == b) (starts zero p x) h).0
starts_last (suc l) (a ∷ p) (b ∷ x) h = starts_last l p x (and_both (a == b) (starts (suc l) p x) h).1

starts_at : (l : ℕ) (p q x y : List ℕ) → p ≡ x → q ≡ y → starts l x y ≡ true → starts l p q ≡ true
starts_at l p q x y e f h = rw (e, f) h

pub starts_self : (l : ℕ) (r : Row) → l ≤ 4 → Shaped r → starts l r.path r.path ≡ true
starts_self l r h (inl s) = starts_at l r.path r.path (r.order ∷ no_number ∷ no_number ∷ no_number ∷ []) (r.order ∷ no_number ∷ no_number ∷ no_number ∷ []) s.2 s.2 (starts_with l (r.order ∷ no_number ∷ no_number ∷ no_number ∷ []) [] [] h)
starts_self l r h (inr (inl s)) = starts_at l r.path r.path (s.1 ∷ r.order ∷ no_number ∷ no_number ∷ []) (s.1 ∷ r.order ∷ no_number ∷ no_number ∷ []) s.4 s.4 (starts_with l (s.1 ∷ r.order ∷ no_number ∷ no_number ∷ []) [] [] h)
starts_self l r h (inr (inr (inl s))) = starts_at l r.path r.path (s.2 ∷ s.3 ∷ r.order ∷ no_number ∷ []) (s.2 ∷ s.3 ∷ r.order ∷ no_number ∷ []) s.6 s.6 (starts_with l (s.2 ∷ s.3 ∷ r.order ∷ no_number ∷ []) [] [] h)
starts_self l r h (inr (inr (inr s))) = starts_at l r.path r.path (s.3 ∷ s.4 ∷ s.5 ∷ r.order ∷ []) (s.3 ∷ s.4 ∷ s.5 ∷ r.order ∷ []) s.8 s.8 (starts_with l (s.3 ∷ s.4 ∷ s.5 ∷ r.order ∷ []) [] [] h)

pub starts_child : (l : ℕ) (q r : Row) → IsChildOf q r → r.level ≤ 4 → l ≤ q.level → Shaped q → starts l q.path r.path ≡ true
starts_child l q r c most h (inl s) =
    let at = s.0 in
    starts_at l q.path r.path (q.order ∷ no_number ∷ no_number ∷ no_number ∷ []) (q.order ∷ r.order ∷ no_number ∷ no_number ∷ []) s.2 (c.path ∙ path_is q.level 1 q.path (q.order ∷ no_number ∷ no_number ∷ no_number ∷ []) r.order s.0 s.2)
    (starts_with l (q.order ∷ []) (no_number ∷ no_number ∷ no_number ∷ []) (r.order ∷ no_number ∷ no_number ∷ []) (omega (arith, at, h)))
starts_child l q r c most h (inr (inl s)) =
    let at = s.2 in
    starts_at l q.path r.path (s.1 ∷ q.order ∷ no_number ∷ no_number ∷ []) (s.1 ∷ q.order ∷ r.order ∷ no_number ∷ []) s.4 (c.path ∙ path_is q.level 2 q.path (s.1 ∷ q.order ∷ no_number ∷ no_number ∷ []) r.order s.2 s.4)
    (starts_with l (s.1 ∷ q.order ∷ []) (no_number ∷ no_number ∷ []) (r.order ∷ no_number ∷ []) (omega (arith, at, h)))
starts_child l q r c most h (inr (inr (inl s))) =
    let at = s.4 in
    starts_at l q.path r.path (s.2 ∷ s.3 ∷ q.order ∷ no_number ∷ []) (s.2 ∷ s.3 ∷ q.order ∷ r.order ∷ []) s.6 (c.path ∙ path_is q.level 3 q.path (s.2 ∷ s.3 ∷ q.order ∷ no_number ∷ []) r.order s.4 s.6)
    (starts_with l (s.2 ∷ s.3 ∷ q.order ∷ []) (no_number ∷ []) (r.order ∷ []) (omega (arith, at, h)))
starts_child l q r c most h (inr (inr (inr s))) = let up = c.level in let at = s.6 in absurd (omega (arith, up, at, most))

-- ---- a row under another has its priority, and a path that goes on from its path

pub record Under (a r : Row) : Type 0 where
  pub level : a.level ≤ r.level
  pub priority : r.priority ≡ a.priority
  pub path : starts a.level a.path r.path ≡ true

self_under : (rows : List Row) (a r : Row) → AllByRecursion (InForest rows) rows → InForest rows a → r ≡ a → Under a r
self_under rows a r all g e = subst (Under a) (sym e) (record { level = omega arith; priority = refl; path = starts_self a.level a g.level (shaped rows all a g) })

pub under : (rows : List Row) → AllByRecursion (InForest rows) rows → (a : Row) → InForest rows a → (r : Row) → InForest rows r → is_under a.id r ≡ true → Under a r
under rows all a g = each rows (λ r. is_under a.id r ≡ true → Under a r) all
    (λ r f p h. self_under rows a r all g (same_id rows r a f g (under_root a.id r p h)))
    (λ q r fq f c ih h. elim (under_down a.id q r c f.level (shaped rows all q fq) h) [
      | inl t ↦ let u = ih t in let low = u.level in let up = c.level in
          record { level = omega (arith, low, up); priority = c.priority ∙ u.priority; path = starts_trans a.level a.path q.path r.path u.path (starts_child a.level q r c f.level u.level (shaped rows all q fq)) }
      | inr t ↦ self_under rows a r all g (same_id rows r a f g t)
    ])

-- ---- and no other row has such a path

from_shape : (l k : ℕ) (p q x : List ℕ) → l ≡ k → p ≡ q → starts l p x ≡ true → starts k q x ≡ true
from_shape l k p q x e f h = rw (sym e, sym f) h

own_number : (a : Row) (x : List ℕ) → Shaped a → starts a.level a.path x ≡ true → (k : ℕ) × (a.level ≡ suc k) × (a.order ≡ slice_index x k)
own_number a x (inl s) h = (0, s.0, starts_last 0 (a.order ∷ no_number ∷ no_number ∷ no_number ∷ []) x (from_shape a.level 1 a.path (a.order ∷ no_number ∷ no_number ∷ no_number ∷ []) x s.0 s.2 h))
own_number a x (inr (inl s)) h = (1, s.2, starts_last 1 (s.1 ∷ a.order ∷ no_number ∷ no_number ∷ []) x (from_shape a.level 2 a.path (s.1 ∷ a.order ∷ no_number ∷ no_number ∷ []) x s.2 s.4 h))
own_number a x (inr (inr (inl s))) h = (2, s.4, starts_last 2 (s.2 ∷ s.3 ∷ a.order ∷ no_number ∷ []) x (from_shape a.level 3 a.path (s.2 ∷ s.3 ∷ a.order ∷ no_number ∷ []) x s.4 s.6 h))
own_number a x (inr (inr (inr s))) h = (3, s.6, starts_last 3 (s.3 ∷ s.4 ∷ s.5 ∷ a.order ∷ []) x (from_shape a.level 4 a.path (s.3 ∷ s.4 ∷ s.5 ∷ a.order ∷ []) x s.6 s.8 h))

-- the own number stands at the own level, and behind it the path is filled up
own_at : (r : Row) (k : ℕ) → Shaped r → r.level ≡ suc k → slice_index r.path k ≡ r.order
own_at r k (inl s) h = ap (λ (p : List ℕ). slice_index p k) s.2 ∙ at_one k (omega (arith, h, s.0))
  where
    at_one : (k : ℕ) → k ≡ 0 → slice_index (r.order ∷ no_number ∷ no_number ∷ no_number ∷ []) k ≡ r.order
    at_one k e = rw e refl
own_at r k (inr (inl s)) h = ap (λ (p : List ℕ). slice_index p k) s.4 ∙ at_two k s.1 (omega (arith, h, s.2))
  where
    at_two : (k n : ℕ) → k ≡ 1 → slice_index (n ∷ r.order ∷ no_number ∷ no_number ∷ []) k ≡ r.order
    at_two k n e = rw e refl
own_at r k (inr (inr (inl s))) h = ap (λ (p : List ℕ). slice_index p k) s.6 ∙ at_three k s.2 s.3 (omega (arith, h, s.4))
  where
    at_three : (k n m : ℕ) → k ≡ 2 → slice_index (n ∷ m ∷ r.order ∷ no_number ∷ []) k ≡ r.order
    at_three k n m e = rw e refl
own_at r k (inr (inr (inr s))) h = ap (λ (p : List ℕ). slice_index p k) s.8 ∙ at_four k s.3 s.4 s.5 (omega (arith, h, s.6))
  where
    at_four : (k n m i : ℕ) → k ≡ 3 → slice_index (n ∷ m ∷ i ∷ r.order ∷ []) k ≡ r.order
    at_four k n m i e = rw e refl

fill_one : (n k : ℕ) → 1 ≤ k → k < 4 → slice_index (n ∷ no_number ∷ no_number ∷ no_number ∷ []) k ≡ no_number
fill_one n zero h f = absurd (omega (arith, h))
fill_one n (suc zero) h f = refl
fill_one n (suc (suc zero)) h f = refl
fill_one n (suc (suc (suc zero))) h f = refl
fill_one n (suc (suc (suc (suc k)))) h f = absurd (omega (arith, f))

fill_two : (n m k : ℕ) → 2 ≤ k → k < 4 → slice_index (n ∷ m ∷ no_number ∷ no_number ∷ []) k ≡ no_number
fill_two n m zero h f = absurd (omega (arith, h))
fill_two n m (suc zero) h f = absurd (omega (arith, h))
fill_two n m (suc (suc zero)) h f = refl
fill_two n m (suc (suc (suc zero))) h f = refl
fill_two n m (suc (suc (suc (suc k)))) h f = absurd (omega (arith, f))

fill_three : (n m i k : ℕ) → 3 ≤ k → k < 4 → slice_index (n ∷ m ∷ i ∷ no_number ∷ []) k ≡ no_number
fill_three n m i k h f = rw (the_last k h f) refl
  where
    the_last : (k : ℕ) → 3 ≤ k → k < 4 → k ≡ 3
    the_last k h f = omega arith

filled : (r : Row) (k : ℕ) → Shaped r → r.level ≤ k → k < 4 → slice_index r.path k ≡ no_number
filled r k (inl s) h f = ap (λ (p : List ℕ). slice_index p k) s.2 ∙ fill_one r.order k (omega (arith, h, s.0)) f
filled r k (inr (inl s)) h f = ap (λ (p : List ℕ). slice_index p k) s.4 ∙ fill_two s.1 r.order k (omega (arith, h, s.2)) f
filled r k (inr (inr (inl s))) h f = ap (λ (p : List ℕ). slice_index p k) s.6 ∙ fill_three s.2 s.3 r.order k (omega (arith, h, s.4)) f
filled r k (inr (inr (inr s))) h f = absurd (omega (arith, h, f, s.6))

too_short : (rows : List Row) (a r : Row) (k : ℕ) → InForest rows a → Shaped r → a.level ≡ suc k → a.order ≡ slice_index r.path k → r.level ≤ k → ⊥
too_short rows a r k g s e own h =
    let most = g.level in
    let small = g.number in
    let full = own ∙ filled r k s h (omega (arith, e, most)) in
    absurd (omega (arith, full, small))

at_level : (rows : List Row) (a r : Row) (k : ℕ) → AllByRecursion (InForest rows) rows → InForest rows a → InForest rows r → a.level ≡ suc k → a.order ≡ slice_index r.path k → r.level ≡ suc k → is_under a.id r ≡ true
at_level rows a r k all g f e own h =
    let same = same_order rows r a f g (sym (own_at r k (shaped rows all r f) h) ∙ sym own) in
    subst (λ (x : Row). is_under a.id x ≡ true) (sym same) (under_self a (shaped rows all a g))

under_by : (rows : List Row) → AllByRecursion (InForest rows) rows → (a : Row) → InForest rows a → (q r : Row) → InForest rows q → InForest rows r → IsChildOf q r → (starts a.level a.path q.path ≡ true → is_under a.id q ≡ true) → starts a.level a.path r.path ≡ true
    → (k : ℕ) → a.level ≡ suc k → a.order ≡ slice_index r.path k → (r.level ≤ k) ⊎ ((r.level ≡ suc k) ⊎ (a.level ≤ q.level)) → is_under a.id r ≡ true
under_by rows all a g q r fq f c ih h k e own (inl less) = absurd (too_short rows a r k g (shaped rows all r f) e own less)
under_by rows all a g q r fq f c ih h k e own (inr (inl same)) = at_level rows a r k all g f e own same
under_by rows all a g q r fq f c ih h k e own (inr (inr more)) =
    let s = shaped rows all q fq in
    under_up a.id q r c f.level s (ih (starts_trans a.level a.path r.path q.path h (starts_back a.level q.path r.path (starts_child a.level q r c f.level more s))))

levels_of : (rows : List Row) (a q r : Row) (k : ℕ) → a.level ≡ suc k → r.level ≡ q.level + 1 → (r.level ≤ k) ⊎ ((r.level ≡ suc k) ⊎ (a.level ≤ q.level))
levels_of rows a q r k e up = tell r.level q.level a.level k e up
  where
    tell : (r q a k : ℕ) → a ≡ suc k → r ≡ q + 1 → (r ≤ k) ⊎ ((r ≡ suc k) ⊎ (a ≤ q))
    tell r q a k e up = elim (cases_order r (suc k)) [ inl same ↦ inr (inl same) | inr (inl less) ↦ inl (omega (arith, less)) | inr (inr more) ↦ inr (inr (omega (arith, more, e, up))) ]

pub under_path : (rows : List Row) → AllByRecursion (InForest rows) rows → (a : Row) → InForest rows a → (r : Row) → InForest rows r → starts a.level a.path r.path ≡ true → is_under a.id r ≡ true
under_path rows all a g = each rows (λ r. starts a.level a.path r.path ≡ true → is_under a.id r ≡ true) all
    (λ r f p h. let w = own_number a r.path (shaped rows all a g) h in root_case r f p h w.0 w.1 w.2)
    (λ q r fq f c ih h. let w = own_number a r.path (shaped rows all a g) h in
    under_by rows all a g q r fq f c ih h w.0 w.1 w.2 (levels_of rows a q r w.0 w.1 c.level))
  where
    root_case : (r : Row) → InForest rows r → IsRoot r → starts a.level a.path r.path ≡ true → (k : ℕ) → a.level ≡ suc k → a.order ≡ slice_index r.path k → is_under a.id r ≡ true
    root_case r f p h zero e own = at_level rows a r 0 all g f e own p.level
    root_case r f p h (suc k) e own = let at = p.level in absurd (too_short rows a r (suc k) g (shaped rows all r f) e own (omega (arith, at)))

-- ---- of two rows one at most is under the other

pub one_under : (rows : List Row) → AllByRecursion (InForest rows) rows → (a r : Row) → InForest rows a → InForest rows r → is_under a.id r ≡ true → is_under r.id a ≡ true → a ≡ r
one_under rows all a r f g h k =
    let down = under rows all a f r g h in
    let up = under rows all r g a f k in
    let mine = own_number a r.path (shaped rows all a f) down.path in
    let its = own_number r r.path (shaped rows all r g) (starts_self r.level r g.level (shaped rows all r g)) in
    same_order rows a r f g (numbers mine.0 its.0 mine.1 its.1 mine.2 its.2 down.level up.level)
  where
    numbers : (i j : ℕ) → a.level ≡ suc i → r.level ≡ suc j → a.order ≡ slice_index r.path i → r.order ≡ slice_index r.path j → a.level ≤ r.level → r.level ≤ a.level → a.order ≡ r.order
    numbers i j e u m n down up = let same : i ≡ j = omega (arith, e, u, down, up) in m ∙ (ap (slice_index r.path) same ∙ sym n)
