-- What calls in progress and sources below do to a source: by parents, and at two levels.
use Rattle.std.proofs.Common.{◌≡◌, ℕ, ◌≤◌, ◌==◌, ◌&&◌, ◌||◌, Bool, true, false, not, cond, Option, Some, None, List, [], ◌∷◌, map, filter, refl, ap, sym, ◌∙◌}
use Rattle.std.specs.List.{AllByRecursion, list_any}
use Rattle.source_rows.specs.declared.row.Row.{Row}
use Rattle.source_rows.specs.Rows.{row_of, is_under, in_order, stands_before}
use Rattle.source_rows.specs.Tree.{IsForest, HasPlace, parent_of}
use Rattle.source_rows.specs.TwoLevels.{IsWithinLevels, goes_with, is_child_of, before_at_two}
use Rattle.source_rows.proofs.Compared.{are_same}
use Rattle.source_rows.proofs.Lists.{all_of, all_and, all_both}
use Rattle.source_rows.proofs.Forest.{InForest, members, shaped, found, same_id, any_child}
use Rattle.source_rows.proofs.Post.{two_levels}
use Rattle.source_rows.proofs.AtTwo.{or_turned, any_root, any_at_two, under_two, filter_same, order_same, each_passed}
use Rattle.context_core.specs.Ready.{Own, is_blocked, is_free, is_callable, is_ready, is_most_urgent, selected}
use Rattle.context_core.specs.TwoLevels.{is_busy, is_parent_busy, is_blocked_at_two, calls_at_two, is_ready_at_two, ready_at_two, selected_at_two, is_above_blocked}
use Rattle.context_core.proofs.Cutoff.{any_same}

-- ---- what is blocked

by_place : (rows : List Row) → AllByRecursion (InForest rows) rows → (busy : List ℕ) (r : Row) → InForest rows r → (o : Option ℕ) → HasPlace rows o r
    → is_blocked busy r ≡ (is_above_blocked busy (parent_of rows o) || is_busy busy r.id)
by_place rows all busy r f None p = any_root (is_busy busy) r p
by_place rows all busy r f (Some parent) w =
    any_child (is_busy busy) w.0 r w.2 f.level (shaped rows all w.0 (found (InForest rows) parent w.0 rows all w.1))
    ∙ ap (λ (o : Option Row). is_above_blocked busy o || is_busy busy r.id) (sym w.1)

pub by_parents : (rows : List Row) → IsForest rows → (busy : List ℕ) → AllByRecursion (λ r. is_blocked busy r ≡ (is_above_blocked busy (parent_of rows r.parent) || is_busy busy r.id)) rows
by_parents rows forest busy =
    let all = members rows forest in
    all_of (InForest rows) (λ r. is_blocked busy r ≡ (is_above_blocked busy (parent_of rows r.parent) || is_busy busy r.id)) (λ r f. by_place rows all busy r f r.parent f.place) rows all

two_by_place : (rows : List Row) → AllByRecursion (InForest rows) rows → (busy : List ℕ) (r : Row) → InForest rows r → r.level ≤ 2 → (o : Option ℕ) → HasPlace rows o r
    → is_blocked busy r ≡ (is_busy busy r.id || is_parent_busy busy o)
two_by_place rows all busy r f low None p = any_root (is_busy busy) r p ∙ or_turned false (is_busy busy r.id)
two_by_place rows all busy r f low (Some parent) w = any_at_two (is_busy busy) rows all r f low parent w

pub blocked_two : (rows : List Row) → IsForest rows → IsWithinLevels 2 rows → (busy : List ℕ) → AllByRecursion (λ r. is_blocked busy r ≡ is_blocked_at_two busy r) rows
blocked_two rows forest low busy =
    let all = members rows forest in
    all_both (InForest rows) (λ r. r.level ≤ 2) (λ r. is_blocked busy r ≡ is_blocked_at_two busy r) (λ r f h. two_by_place rows all busy r f h r.parent f.place) rows all low

-- ---- what is ready

-- a part of a test over the rows: what a row itself does, and what a child of it does
part_by : (u a c x y z : Bool) → u ≡ (a || c) → (a ≡ true → x ≡ y) → x ≡ z → (u && x) ≡ ((a && y) || (c && z))
part_by u true c x y z e h k = whole u x y z c e (h refl) k
  where
    twice : (v d : Bool) → v ≡ (v || (d && v))
    twice true d = refl
    twice false true = refl
    twice false false = refl

    whole : (u x y z c : Bool) → u ≡ true → x ≡ y → x ≡ z → (u && x) ≡ (y || (c && z))
    whole u x y z c e h k = rw (e, sym h, sym k) (twice x c)
part_by u false c x y z e h k = rw (e, k) refl

or_apart : (a b c d : Bool) → ((a || b) || (c || d)) ≡ ((a || c) || (b || d))
or_apart true b c d = refl
or_apart false true true d = refl
or_apart false true false d = refl
or_apart false false c d = refl

any_or : (p q : Row → Bool) (rows : List Row) → list_any (λ r. p r || q r) rows ≡ (list_any p rows || list_any q rows)
any_or p q [] = refl
any_or p q (r ∷ rows) = ap (λ (b : Bool). (p r || q r) || b) (any_or p q rows) ∙ or_apart (p r) (q r) (list_any p rows) (list_any q rows)

none_of : (id : ℕ) (rows : List Row) → list_any (λ q. q.id == id && false) rows ≡ false
none_of id [] = refl
none_of id (r ∷ rows) = first (r.id == id) (list_any (λ q. q.id == id && false) rows) (none_of id rows)
  where
    first : (b c : Bool) → c ≡ false → ((b && false) || c) ≡ false
    first true c e = e
    first false c e = e

has_one : (id : ℕ) (r : Row) (rows : List Row) → row_of id rows ≡ Some r → list_any (λ q. q.id == id && true) rows ≡ true
has_one id r [] e = cc
has_one id r (q ∷ rows) e = one_by (q.id == id) (row_of id rows) (list_any (λ q. q.id == id && true) rows) (has_one id r rows) e
  where
    one_by : (b : Bool) (o : Option Row) (c : Bool) → (o ≡ Some r → c ≡ true) → cond b (Some q) o ≡ Some r → ((b && true) || c) ≡ true
    one_by true o c h e = refl
    one_by false o c h e = h e

-- a row that is found is the one that has its id
itself : (id : ℕ) (r : Row) (rows : List Row) (y : Bool) → row_of id rows ≡ Some r → list_any (λ q. q.id == id && y) rows ≡ y
itself id r rows true e = has_one id r rows e
itself id r rows false e = none_of id rows

lent_by : (b o x y : Bool) → b ≡ y → (not b && ((not y && o) || x)) ≡ (not y && (o || x))
lent_by b o x true e = ap (λ (c : Bool). not c && (false || x)) e
lent_by b o x false e = ap (λ (c : Bool). not c && (o || x)) e

ready_by : (rows : List Row) → IsForest rows → IsWithinLevels 2 rows → (own : Own) (busy : List ℕ) (r : Row) → InForest rows r → is_blocked busy r ≡ is_blocked_at_two busy r
    → is_ready own busy rows r ≡ is_ready_at_two own busy rows r
ready_by rows forest low own busy r f e =
    ap (λ (b : Bool). is_free busy r && b)
    (any_same (λ q. is_under r.id q && is_callable own busy q) (λ q. (q.id == r.id && calls_at_two own busy r) || (is_child_of r.id q && calls_at_two own busy q)) rows each
    ∙ (any_or (λ q. q.id == r.id && calls_at_two own busy r) (λ q. is_child_of r.id q && calls_at_two own busy q) rows
    ∙ ap (λ (b : Bool). b || list_any (λ q. is_child_of r.id q && calls_at_two own busy q) rows) (itself r.id r rows (calls_at_two own busy r) f.is)))
    ∙ lent_by (is_blocked busy r) (own r) (list_any (λ q. is_child_of r.id q && calls_at_two own busy q) rows) (is_blocked_at_two busy r) e
  where
    one : (q : Row) → InForest rows q × (is_blocked busy q ≡ is_blocked_at_two busy q) → is_under r.id q ≡ goes_with r.id q
        → (is_under r.id q && is_callable own busy q) ≡ ((q.id == r.id && calls_at_two own busy r) || (is_child_of r.id q && calls_at_two own busy q))
    one q h u =
        let same : is_callable own busy q ≡ calls_at_two own busy q = ap (λ (b : Bool). not b && own q) h.1 in
        part_by (is_under r.id q) (q.id == r.id) (is_child_of r.id q) (is_callable own busy q) (calls_at_two own busy r) (calls_at_two own busy q) u
        (λ t. same ∙ ap (calls_at_two own busy) (same_id rows q r h.0 f (are_same q.id r.id t))) same

    each : AllByRecursion (λ q. (is_under r.id q && is_callable own busy q) ≡ ((q.id == r.id && calls_at_two own busy r) || (is_child_of r.id q && calls_at_two own busy q))) rows
    each =
        all_both (λ q. InForest rows q × (is_blocked busy q ≡ is_blocked_at_two busy q)) (λ q. is_under r.id q ≡ goes_with r.id q)
        (λ q. (is_under r.id q && is_callable own busy q) ≡ ((q.id == r.id && calls_at_two own busy r) || (is_child_of r.id q && calls_at_two own busy q))) one rows
        (all_and (InForest rows) (λ q. is_blocked busy q ≡ is_blocked_at_two busy q) rows (members rows forest) (blocked_two rows forest low busy)) (under_two rows forest low r.id)

pub ready_two : (rows : List Row) → IsForest rows → IsWithinLevels 2 rows → (own : Own) (busy : List ℕ) → AllByRecursion (λ r. is_ready own busy rows r ≡ is_ready_at_two own busy rows r) rows
ready_two rows forest low own busy =
    all_both (InForest rows) (λ r. is_blocked busy r ≡ is_blocked_at_two busy r) (λ r. is_ready own busy rows r ≡ is_ready_at_two own busy rows r)
    (λ r f e. ready_by rows forest low own busy r f e) rows (members rows forest) (blocked_two rows forest low busy)

-- ---- what is selected

pub selected_two : (rows : List Row) → IsForest rows → IsWithinLevels 2 rows → (own : Own) (busy : List ℕ) → selected own busy rows ≡ selected_at_two own busy rows
selected_two rows forest low own busy =
    ap (λ (rs : List Row). map (λ r. r.id) (in_order (filter (is_most_urgent rs) rs))) (filter_same (is_ready own busy rows) (is_ready_at_two own busy rows) rows (ready_two rows forest low own busy))
    ∙ ap (map (λ (r : Row). r.id))
    (order_same rows (filter (is_most_urgent (ready_at_two own busy rows)) (ready_at_two own busy rows))
    (each_passed (λ r q. stands_before r q ≡ before_at_two rows r q) (is_most_urgent (ready_at_two own busy rows)) (ready_at_two own busy rows)
    (each_passed (λ r q. stands_before r q ≡ before_at_two rows r q) (is_ready_at_two own busy rows) rows (two_levels rows forest low))))
