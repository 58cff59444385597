-- What calls in progress and sources below do to a source, by parents alone, at all four levels.
use Rattle.std.proofs.Common.{◌≡◌, ◌⊎◌, inl, inr, ℕ, zero, suc, ◌+◌, ◌≤◌, ◌==◌, ◌&&◌, ◌||◌, Bool, true, false, not, cond, Option, Some, None, List, [], ◌∷◌, ◌++◌, length, map, filter, refl, ap, sym, ◌∙◌, arith, subst}
use Rattle.std.specs.List.{AllByRecursion, list_any}
use Rattle.std.specs.Option.{option_map_or}
use Rattle.std.specs.Ordering.{is_lt}
use Rattle.std.proofs.lemmas.List.{length_push}
use Rattle.source_rows.specs.declared.row.Row.{Row}
use Rattle.source_rows.specs.Row.{path_under}
use Rattle.source_rows.specs.Rows.{row_of, is_under, in_order, stands_before, key_cmp}
use Rattle.source_rows.specs.Inserted.{inserted}
use Rattle.source_rows.specs.Tree.{IsForest, IsRoot, IsChildOf, HasPlace, parent_of}
use Rattle.source_rows.specs.TwoLevels.{is_named, is_child_of}
use Rattle.source_rows.proofs.Compared.{are_same, same_self, or_true, and_both, some_same}
use Rattle.source_rows.proofs.Lists.{all_of, all_with}
use Rattle.source_rows.proofs.Order.{all_in_order}
use Rattle.source_rows.proofs.Kept.{found_id}
use Rattle.source_rows.proofs.Forest.{InForest, members, shaped, found, each, same_id, any_child, path_is, under_up, under_down, under_root, under_self}
use Rattle.source_rows.proofs.AtTwo.{or_turned, any_root, filter_same, each_passed}
use Rattle.context_core.proofs.Found.{or_left}
use Rattle.context_core.specs.Ready.{Own, is_blocked, is_free, is_callable, is_ready, is_most_urgent, selected}
use Rattle.context_core.specs.TwoLevels.{is_busy}
use Rattle.context_core.specs.FourLevels.{is_blocked_within, is_blocked_at_four, is_ready_within, is_ready_at_four, ready_at_four, numbers_within, filled, before_at_four, in_order_at_four, selected_at_four}
use Rattle.context_core.proofs.Cutoff.{any_same}

abbrev All : List Row → Type 0
All rows = AllByRecursion (InForest rows) rows

some_level : (rows : List Row) → All rows → (r : Row) → InForest rows r → 1 ≤ r.level
some_level rows all r f = each rows (λ r. 1 ≤ r.level) all (λ r f p. let at = p.level in omega (arith, at)) (λ q r g f c h. let up = c.level in omega (arith, up, h)) r f

or_down : (a b : Bool) → (a || b) ≡ true → (a ≡ true) ⊎ (b ≡ true)
or_down true b h = inl refl
or_down false b h = inr h

-- ---- what is blocked

blocked_root : (rows : List Row) → All rows → (busy : List ℕ) (r : Row) → InForest rows r → (o : Option ℕ) → HasPlace rows o r → r.level ≤ 1 → is_blocked busy r ≡ is_busy busy r.id
blocked_root rows all busy r f None p l = any_root (is_busy busy) r p
blocked_root rows all busy r f (Some id) w l = let up = w.2.level in absurd (omega (arith, up, l, some_level rows all w.0 (found (InForest rows) id w.0 rows all w.1)))

blocked_up : (rows : List Row) → All rows → (busy : List ℕ) (n : ℕ) → ((q : Row) → InForest rows q → q.level ≤ suc n → is_blocked busy q ≡ is_blocked_within n busy rows q) → (r : Row) → InForest rows r → (o : Option ℕ) → HasPlace rows o r → r.level ≤ suc (suc n)
    → is_blocked busy r ≡ (is_busy busy r.id || option_map_or (is_blocked_within n busy rows) (parent_of rows o) false)
blocked_up rows all busy n ih r f None p l = any_root (is_busy busy) r p ∙ or_turned false (is_busy busy r.id)
blocked_up rows all busy n ih r f (Some id) w l =
    let g = found (InForest rows) id w.0 rows all w.1 in
    let up = w.2.level in
    any_child (is_busy busy) w.0 r w.2 f.level (shaped rows all w.0 g)
    ∙ (ap (λ (b : Bool). b || is_busy busy r.id) (ih w.0 g (omega (arith, up, l)))
    ∙ (or_turned (is_blocked_within n busy rows w.0) (is_busy busy r.id) ∙ ap (λ (o : Option Row). is_busy busy r.id || option_map_or (is_blocked_within n busy rows) o false) (sym w.1)))

blocked_is : (rows : List Row) → All rows → (busy : List ℕ) (n : ℕ) (r : Row) → InForest rows r → r.level ≤ suc n → is_blocked busy r ≡ is_blocked_within n busy rows r
blocked_is rows all busy zero r f l = blocked_root rows all busy r f r.parent f.place l
blocked_is rows all busy (suc n) r f l = blocked_up rows all busy n (λ q g k. blocked_is rows all busy n q g k) r f r.parent f.place l

blocked_one : (rows : List Row) → All rows → (busy : List ℕ) (r : Row) → InForest rows r → is_blocked busy r ≡ is_blocked_at_four busy rows r
blocked_one rows all busy r f = blocked_is rows all busy 3 r f f.level

pub blocked_four : (rows : List Row) → IsForest rows → (busy : List ℕ) → AllByRecursion (λ r. is_blocked busy r ≡ is_blocked_at_four busy rows r) rows
blocked_four rows forest busy =
    let all = members rows forest in
    all_of (InForest rows) (λ r. is_blocked busy r ≡ is_blocked_at_four busy rows r) (λ r f. blocked_one rows all busy r f) rows all

-- ---- the numbers from the root down

-- the path of a row has them, as many as its level
abbrev AreNumbers : Row → List ℕ → Type 0
AreNumbers r numbers = (length numbers ≡ r.level) × (r.path ≡ filled 4 numbers)

filled_more : (numbers : List ℕ) (order : ℕ) → 1 ≤ length numbers → length numbers ≤ 3 → path_under (length numbers) (filled 4 numbers) order ≡ filled 4 (numbers ++ order ∷ [])
filled_more [] order l m = absurd (omega (arith, l))
filled_more (a ∷ []) order l m = refl
filled_more (a ∷ b ∷ []) order l m = refl
filled_more (a ∷ b ∷ c ∷ []) order l m = refl
filled_more (a ∷ b ∷ c ∷ d ∷ numbers) order l m = absurd (omega (arith, m))

numbers_root : (rows : List Row) → All rows → (r : Row) → InForest rows r → (o : Option ℕ) → HasPlace rows o r → r.level ≤ 1 → AreNumbers r (r.order ∷ [])
numbers_root rows all r f None p l = (sym p.level, p.path)
numbers_root rows all r f (Some id) w l = let up = w.2.level in absurd (omega (arith, up, l, some_level rows all w.0 (found (InForest rows) id w.0 rows all w.1)))

numbers_up : (rows : List Row) → All rows → (n : ℕ) → ((q : Row) → InForest rows q → q.level ≤ suc n → AreNumbers q (numbers_within n rows q)) → (r : Row) → InForest rows r → (o : Option ℕ) → HasPlace rows o r → r.level ≤ suc (suc n)
    → AreNumbers r (option_map_or (numbers_within n rows) (parent_of rows o) [] ++ r.order ∷ [])
numbers_up rows all n ih r f None p l = (sym p.level, p.path)
numbers_up rows all n ih r f (Some id) w l =
    let q = w.0 in
    let g = found (InForest rows) id q rows all w.1 in
    let up = w.2.level in
    let most = f.level in
    let above = ih q g (omega (arith, up, l)) in
    let numbers : List ℕ = numbers_within n rows q in
    let few : length numbers ≤ 3 = omega (arith, above.0, up, most) in
    let some : 1 ≤ length numbers = omega (arith, above.0, some_level rows all q g) in
    subst (λ (o : Option Row). AreNumbers r (option_map_or (numbers_within n rows) o [] ++ r.order ∷ [])) (sym w.1) (
      length_push numbers r.order ∙ omega (arith, above.0, up),
      w.2.path ∙ (path_is q.level (length numbers) q.path (filled 4 numbers) r.order (sym above.0) above.1 ∙ filled_more numbers r.order some few),
    )

numbers_are : (rows : List Row) → All rows → (n : ℕ) (r : Row) → InForest rows r → r.level ≤ suc n → AreNumbers r (numbers_within n rows r)
numbers_are rows all zero r f l = numbers_root rows all r f r.parent f.place l
numbers_are rows all (suc n) r f l = numbers_up rows all n (λ q g k. numbers_are rows all n q g k) r f r.parent f.place l

-- ---- what is under a row, by children

-- a child that is under a row's parent
child_under_by : (rows : List Row) → All rows → (r c : Row) → InForest rows r → InForest rows c → (o : Option ℕ) → HasPlace rows o c → is_named r.id o ≡ true → (is_under r.id c ≡ true) × (c.level ≡ r.level + 1)
child_under_by rows all r c f g None p e = let no : false ≡ true = e in cc
child_under_by rows all r c f g (Some id) w e =
    let same : w.0 ≡ r = some_same w.0 r (sym w.1 ∙ (ap (λ (i : ℕ). row_of i rows) (are_same id r.id e) ∙ f.is)) in
    let h = found (InForest rows) id w.0 rows all w.1 in
    let self : is_under r.id w.0 ≡ true = subst (λ (x : Row). is_under r.id x ≡ true) (sym same) (under_self r (shaped rows all r f)) in
    let up = w.2.level in
    (under_up r.id w.0 c w.2 g.level (shaped rows all w.0 h) self, up ∙ ap (λ (x : Row). x.level + 1) same)

child_under : (rows : List Row) → All rows → (r c : Row) → InForest rows r → InForest rows c → is_child_of r.id c ≡ true → (is_under r.id c ≡ true) × (c.level ≡ r.level + 1)
child_under rows all r c f g e = child_under_by rows all r c f g c.parent g.place e

-- what holds of a row, and goes from each to those right under it, holds of all that are under the row
below : (rows : List Row) → All rows → (P : Row → Type 0) (c : Row) → InForest rows c → P c → ((p q : Row) → InForest rows p → InForest rows q → IsChildOf p q → P p → P q) → (q : Row) → InForest rows q → is_under c.id q ≡ true → P q
below rows all P c f start go q g u = each rows (λ q. is_under c.id q ≡ true → P q) all at_root at_child q g u
  where
    itself : (q : Row) → InForest rows q → q.id ≡ c.id → P q
    itself q g e = subst P (sym (same_id rows q c g f e)) start

    at_root : (q : Row) → InForest rows q → IsRoot q → is_under c.id q ≡ true → P q
    at_root q g p u = itself q g (under_root c.id q p u)

    at_child : (p q : Row) → InForest rows p → InForest rows q → IsChildOf p q → (is_under c.id p ≡ true → P p) → is_under c.id q ≡ true → P q
    at_child p q h g w ih u = elim (under_down c.id p q w g.level (shaped rows all p h) u) [ inl t ↦ go p q h g w (ih t) | inr t ↦ itself q g t ]

under_too : (rows : List Row) → All rows → (r c : Row) → InForest rows r → InForest rows c → is_child_of r.id c ≡ true → (q : Row) → InForest rows q → is_under c.id q ≡ true → is_under r.id q ≡ true
under_too rows all r c f g e =
    below rows all (λ q. is_under r.id q ≡ true) c g (child_under rows all r c f g e).0 (λ p q h k w u. under_up r.id p q w k.level (shaped rows all p h) u)

blocked_too : (rows : List Row) → All rows → (busy : List ℕ) (c : Row) → InForest rows c → is_blocked busy c ≡ true → (q : Row) → InForest rows q → is_under c.id q ≡ true → is_blocked busy q ≡ true
blocked_too rows all busy c g e =
    below rows all (λ q. is_blocked busy q ≡ true) c g e (λ p q h k w u. any_child (is_busy busy) p q w k.level (shaped rows all p h) ∙ or_left (is_blocked busy p) (is_busy busy q.id) u)

free_above : (rows : List Row) → All rows → (busy : List ℕ) (c q : Row) → InForest rows c → InForest rows q → is_under c.id q ≡ true → is_free busy q ≡ true → is_free busy c ≡ true
free_above rows all busy c q g h u e = by (is_blocked busy c) refl
  where
    by : (b : Bool) → is_blocked busy c ≡ b → not b ≡ true
    by true k = let no : false ≡ true = ap (λ (b : Bool). not b) (sym (blocked_too rows all busy c g k q h u)) ∙ e in cc
    by false k = refl

-- under a row is the row itself, or what is under a child of it
abbrev Down : List Row → Row → Row → Type 0
Down rows r q = (q ≡ r) ⊎ ((c : Row) × InForest rows c × (is_child_of r.id c ≡ true) × (is_under c.id q ≡ true))

down_by : (rows : List Row) → All rows → (r q : Row) → InForest rows q → (id : ℕ) → q.parent ≡ Some id → (w : HasPlace rows (Some id) q) → Down rows r w.0 → Down rows r q
down_by rows all r q g id e w (inl s) =
    let same : id ≡ r.id = sym (found_id id w.0 rows w.1) ∙ ap (λ (x : Row). x.id) s in
    inr (q, g, ap (is_named r.id) e ∙ (ap (λ (i : ℕ). i == r.id) same ∙ same_self r.id), under_self q (shaped rows all q g))
down_by rows all r q g id e w (inr d) = inr (d.0, d.1, d.2, under_up d.0.id w.0 q w.2 g.level (shaped rows all w.0 (found (InForest rows) id w.0 rows all w.1)) d.3)

down_at : (rows : List Row) → All rows → (r : Row) → InForest rows r → (n : ℕ) (q : Row) → InForest rows q → (o : Option ℕ) → q.parent ≡ o → HasPlace rows o q → q.level ≤ n → is_under r.id q ≡ true → Down rows r q
down_at rows all r f n q g None e p l u = inl (same_id rows q r g f (under_root r.id q p u))
down_at rows all r f zero q g (Some id) e w l u = let up = w.2.level in absurd (omega (arith, up, l))
down_at rows all r f (suc n) q g (Some id) e w l u =
    let h = found (InForest rows) id w.0 rows all w.1 in
    let up = w.2.level in
    elim (under_down r.id w.0 q w.2 g.level (shaped rows all w.0 h) u) [ inl t ↦ down_by rows all r q g id e w (down_at rows all r f n w.0 h w.0.parent refl h.place (omega (arith, up, l)) t) | inr t ↦ inl (same_id rows q r g f t) ]

down : (rows : List Row) → All rows → (r q : Row) → InForest rows r → InForest rows q → is_under r.id q ≡ true → Down rows r q
down rows all r q f g u = down_at rows all r f 4 q g q.parent refl g.place g.level u

-- ---- what is ready

-- a row that passes, and that some row does
any_out : (rows xs : List Row) (p : Row → Bool) → AllByRecursion (InForest rows) xs → list_any p xs ≡ true → (q : Row) × InForest rows q × (p q ≡ true)
any_out rows [] p h e = let no : false ≡ true = e in cc
any_out rows (x ∷ xs) p h e = by (p x) refl (any_out rows xs p h.1) e
  where
    by : (b : Bool) → p x ≡ b → (list_any p xs ≡ true → (q : Row) × InForest rows q × (p q ≡ true)) → (b || list_any p xs) ≡ true → (q : Row) × InForest rows q × (p q ≡ true)
    by true k ih e = (x, h.0, k)
    by false k ih e = ih e

each_any : (p : Row → Bool) (xs : List Row) → AllByRecursion (λ x. p x ≡ true → list_any p xs ≡ true) xs
each_any p [] = tt
each_any p (x ∷ xs) = (
  λ e. or_left (p x) (list_any p xs) e,
  all_of (λ y. p y ≡ true → list_any p xs ≡ true) (λ y. p y ≡ true → (p x || list_any p xs) ≡ true) (λ y f e. ap (λ (b : Bool). p x || b) (f e) ∙ or_true (p x)) xs (each_any p xs),
)

any_in : (rows : List Row) (p : Row → Bool) (q : Row) → InForest rows q → p q ≡ true → list_any p rows ≡ true
any_in rows p q f e = found (λ x. p x ≡ true → list_any p rows ≡ true) q.id q rows (each_any p rows) f.is e

both : (a b : Bool) → a ≡ true → b ≡ true → (a && b) ≡ true
both a b e f = rw (e, f) refl

alike : (a b : Bool) → (a ≡ true → b ≡ true) → (b ≡ true → a ≡ true) → a ≡ b
alike true b f g = sym (f refl)
alike false true f g = g refl
alike false false f g = refl

abbrev Calls : Own → List ℕ → Row → Row → Bool
Calls own busy r q = is_under r.id q && is_callable own busy q

abbrev Lends : Own → List ℕ → List Row → Row → Row → Bool
Lends own busy rows r q = is_child_of r.id q && is_ready own busy rows q

lends_by : (rows : List Row) → All rows → (own : Own) (busy : List ℕ) (r q : Row) → InForest rows q → is_callable own busy q ≡ true → Down rows r q → (own r || list_any (Lends own busy rows r) rows) ≡ true
lends_by rows all own busy r q g e (inl s) = or_left (own r) _ (ap own (sym s) ∙ (and_both (is_free busy q) (own q) e).1)
lends_by rows all own busy r q g e (inr d) =
    let c : Row = d.0 in
    let some : list_any (Calls own busy c) rows ≡ true = any_in rows (Calls own busy c) q g (both (is_under c.id q) (is_callable own busy q) d.3 e) in
    let free : is_free busy c ≡ true = free_above rows all busy c q d.1 g d.3 (and_both (is_free busy q) (own q) e).0 in
    ap (λ (b : Bool). own r || b) (any_in rows (Lends own busy rows r) c d.1 (both (is_child_of r.id c) (is_ready own busy rows c) d.2 (both (is_free busy c) _ free some))) ∙ or_true (own r)

lends_from : (rows : List Row) → All rows → (own : Own) (busy : List ℕ) (r : Row) → InForest rows r → list_any (Calls own busy r) rows ≡ true → (own r || list_any (Lends own busy rows r) rows) ≡ true
lends_from rows all own busy r f e =
    let it = any_out rows rows (Calls own busy r) all e in
    let q : Row = it.0 in
    let at = and_both (is_under r.id q) (is_callable own busy q) it.2 in
    lends_by rows all own busy r q it.1 at.1 (down rows all r q f it.1 at.0)

lends_to : (rows : List Row) → All rows → (own : Own) (busy : List ℕ) (r : Row) → InForest rows r → is_free busy r ≡ true → (own r || list_any (Lends own busy rows r) rows) ≡ true → list_any (Calls own busy r) rows ≡ true
lends_to rows all own busy r f free e = by (or_down (own r) (list_any (Lends own busy rows r) rows) e)
  where
    by : (own r ≡ true) ⊎ (list_any (Lends own busy rows r) rows ≡ true) → list_any (Calls own busy r) rows ≡ true
    by (inl t) = any_in rows (Calls own busy r) r f (both (is_under r.id r) (is_callable own busy r) (under_self r (shaped rows all r f)) (both (is_free busy r) (own r) free t))
    by (inr t) =
        let it = any_out rows rows (Lends own busy rows r) all t in
        let c : Row = it.0 in
        let at = and_both (is_child_of r.id c) (is_ready own busy rows c) it.2 in
        let some = any_out rows rows (Calls own busy c) all (and_both (is_free busy c) (list_any (Calls own busy c) rows) at.1).1 in
        let q : Row = some.0 in
        let under = and_both (is_under c.id q) (is_callable own busy q) some.2 in
        any_in rows (Calls own busy r) q some.1 (both (is_under r.id q) (is_callable own busy q) (under_too rows all r c f it.1 at.0 q some.1 under.0) under.1)

lends_one : (rows : List Row) → All rows → (own : Own) (busy : List ℕ) (r : Row) → InForest rows r → is_ready own busy rows r ≡ (is_free busy r && (own r || list_any (Lends own busy rows r) rows))
lends_one rows all own busy r f = by (is_free busy r) refl
  where
    by : (b : Bool) → is_free busy r ≡ b → (b && list_any (Calls own busy r) rows) ≡ (b && (own r || list_any (Lends own busy rows r) rows))
    by true e = alike _ _ (lends_from rows all own busy r f) (lends_to rows all own busy r f e)
    by false e = refl

pub lends_each : (rows : List Row) → IsForest rows → (own : Own) (busy : List ℕ) → AllByRecursion (λ r. is_ready own busy rows r ≡ (is_free busy r && (own r || list_any (λ q. is_child_of r.id q && is_ready own busy rows q) rows))) rows
lends_each rows forest own busy =
    let all = members rows forest in
    all_of (InForest rows) (λ r. is_ready own busy rows r ≡ (is_free busy r && (own r || list_any (λ q. is_child_of r.id q && is_ready own busy rows q) rows))) (λ r f. lends_one rows all own busy r f) rows all

-- ---- the same with a bound on the levels

-- a row that stands at the last level has no child
none_lends : (rows : List Row) → All rows → (own : Own) (busy : List ℕ) (r : Row) → InForest rows r → 4 ≤ r.level → list_any (Lends own busy rows r) rows ≡ false
none_lends rows all own busy r f l = by (list_any (Lends own busy rows r) rows) refl
  where
    by : (b : Bool) → list_any (Lends own busy rows r) rows ≡ b → b ≡ false
    by true e =
        let it = any_out rows rows (Lends own busy rows r) all e in
        let up = (child_under rows all r it.0 f it.1 (and_both (is_child_of r.id it.0) (is_ready own busy rows it.0) it.2).0).1 in
        let most = (it.1).level in
        absurd (omega (arith, up, most, l))
    by false e = refl

and_alike : (a x y : Bool) → (a ≡ true → x ≡ y) → (a && x) ≡ (a && y)
and_alike true x y f = f refl
and_alike false x y f = refl

child_alike : (rows : List Row) → All rows → (own : Own) (busy : List ℕ) (n : ℕ) (r : Row) → InForest rows r → 4 ≤ suc n + r.level → ((q : Row) → InForest rows q → 4 ≤ n + q.level → is_ready own busy rows q ≡ is_ready_within n own busy rows q)
    → AllByRecursion (λ q. Lends own busy rows r q ≡ (is_child_of r.id q && is_ready_within n own busy rows q)) rows
child_alike rows all own busy n r f l ih =
    all_of (InForest rows) (λ q. Lends own busy rows r q ≡ (is_child_of r.id q && is_ready_within n own busy rows q))
    (λ q g. and_alike (is_child_of r.id q) (is_ready own busy rows q) (is_ready_within n own busy rows q) (λ e. let up = (child_under rows all r q f g e).1 in ih q g (omega (arith, up, l)))) rows all

ready_is : (rows : List Row) → All rows → (own : Own) (busy : List ℕ) (n : ℕ) (r : Row) → InForest rows r → 4 ≤ n + r.level → is_ready own busy rows r ≡ is_ready_within n own busy rows r
ready_is rows all own busy zero r f l =
    lends_one rows all own busy r f
    ∙ (ap (λ (b : Bool). is_free busy r && (own r || b)) (none_lends rows all own busy r f (omega (arith, l)))
    ∙ (ap (λ (b : Bool). is_free busy r && b) (or_turned (own r) false) ∙ ap (λ (b : Bool). not b && own r) (blocked_one rows all busy r f)))
ready_is rows all own busy (suc n) r f l =
    let within : Row → Bool = λ q. is_child_of r.id q && is_ready_within n own busy rows q in
    lends_one rows all own busy r f
    ∙ (ap (λ (b : Bool). is_free busy r && (own r || b)) (any_same (Lends own busy rows r) within rows (child_alike rows all own busy n r f l (λ q g k. ready_is rows all own busy n q g k)))
    ∙ ap (λ (b : Bool). not b && (own r || list_any within rows)) (blocked_one rows all busy r f))

pub ready_four : (rows : List Row) → IsForest rows → (own : Own) (busy : List ℕ) → AllByRecursion (λ r. is_ready own busy rows r ≡ is_ready_at_four own busy rows r) rows
ready_four rows forest own busy =
    let all = members rows forest in
    all_of (InForest rows) (λ r. is_ready own busy rows r ≡ is_ready_at_four own busy rows r) (λ r f. ready_is rows all own busy 3 r f (let some = some_level rows all r f in omega (arith, some))) rows all

-- ---- the order

before_same : (rows : List Row) (r q : Row) → r.path ≡ filled 4 (numbers_within 3 rows r) → q.path ≡ filled 4 (numbers_within 3 rows q) → stands_before r q ≡ before_at_four rows r q
before_same rows r q e f = ap (λ (p : List ℕ). is_lt (key_cmp (r.priority, p) (q.priority, q.path))) e ∙ ap (λ (p : List ℕ). is_lt (key_cmp (r.priority, filled 4 (numbers_within 3 rows r)) (q.priority, p))) f

all_before : (rows : List Row) → IsForest rows → AllByRecursion (λ r. AllByRecursion (λ q. stands_before r q ≡ before_at_four rows r q) rows) rows
all_before rows forest =
    let all = members rows forest in
    all_with (λ r q. stands_before r q ≡ before_at_four rows r q) (InForest rows) (λ r q f g. before_same rows r q (numbers_are rows all 3 r f f.level).1 (numbers_are rows all 3 q g g.level).1) rows rows all all

inserted_by : (r x : Row) (a b : Bool) (xs ys zs : List Row) → a ≡ b → ys ≡ zs → cond a (r ∷ x ∷ xs) (x ∷ ys) ≡ cond b (r ∷ x ∷ xs) (x ∷ zs)
inserted_by r x a b xs ys zs e f = rw (e, f) refl

inserted_same : (f g : Row → Row → Bool) (r : Row) (rows : List Row) → AllByRecursion (λ q. f r q ≡ g r q) rows → inserted f r rows ≡ inserted g r rows
inserted_same f g r [] h = refl
inserted_same f g r (x ∷ xs) h = inserted_by r x (f r x) (g r x) xs (inserted f r xs) (inserted g r xs) h.0 (inserted_same f g r xs h.1)

order_same : (whole rows : List Row) → AllByRecursion (λ r. AllByRecursion (λ q. stands_before r q ≡ before_at_four whole r q) rows) rows → in_order rows ≡ in_order_at_four whole rows
order_same whole [] h = refl
order_same whole (r ∷ rows) h =
    inserted_same stands_before (before_at_four whole) r (in_order rows) (all_in_order (λ q. stands_before r q ≡ before_at_four whole r q) rows h.0.1)
    ∙ ap (inserted (before_at_four whole) r)
    (order_same whole rows (all_of (λ x. AllByRecursion (λ q. stands_before x q ≡ before_at_four whole x q) (r ∷ rows)) (λ x. AllByRecursion (λ q. stands_before x q ≡ before_at_four whole x q) rows) (λ x k. k.1) rows h.1))

-- ---- what is selected

pub selected_four : (rows : List Row) → IsForest rows → (own : Own) (busy : List ℕ) → selected own busy rows ≡ selected_at_four own busy rows
selected_four rows forest own busy =
    let ready : List Row = ready_at_four own busy rows in
    ap (λ (rs : List Row). map (λ r. r.id) (in_order (filter (is_most_urgent rs) rs))) (filter_same (is_ready own busy rows) (is_ready_at_four own busy rows) rows (ready_four rows forest own busy))
    ∙ ap (map (λ (r : Row). r.id))
    (order_same rows (filter (is_most_urgent ready) ready)
    (each_passed (λ r q. stands_before r q ≡ before_at_four rows r q) (is_most_urgent ready) ready
    (each_passed (λ r q. stands_before r q ≡ before_at_four rows r q) (is_ready_at_four own busy rows) rows (all_before rows forest))))
