-- A look at the rows that no call in progress blocks: what it leaves out, and that all is found which an iteration looks for.
use Rattle.std.proofs.Common.{◌≡◌, ℕ, ◌==◌, ◌&&◌, ◌||◌, Bool, true, false, not, cond, ℤ, Option, Some, None, List, [], ◌∷◌, ◌≤◌, ◌<◌, inl, inr, filter, length, refl, ap, sym, ◌∙◌, subst, arith}
use Rattle.std.proofs.lemmas.Bool.Decides.{eqb_tells}
use Rattle.std.proofs.lemmas.List.Filters.{length-filter_both}
use Rattle.std.specs.Prelude.{IfSome}
use Rattle.std.specs.List.{AllByRecursion, find, list_any}
use Rattle.std.specs.Option.{is_some}
use Rattle.source_rows.specs.declared.row.Row.{Row}
use Rattle.source_rows.specs.declared.sight.Sight.{Sight}
use Rattle.source_rows.specs.Rows.{in_order, is_under}
use Rattle.source_rows.specs.Tree.{IsForest}
use Rattle.source_rows.specs.Candidates.{may_call, candidates}
use Rattle.source_rows.proofs.Compared.{and_both}
use Rattle.source_rows.proofs.Lists.{all_true, all_of, all_passed}
use Rattle.source_rows.proofs.Order.{sorted_in_order}
use Rattle.source_rows.proofs.Walked.{filter_twice}
use Rattle.context_core.specs.Ready.{Own, own_ready, is_free, is_blocked, is_callable, is_ready}
use Rattle.context_core.specs.Lent.{lends, lends_free}
use Rattle.context_core.specs.Phases.{is_asked, is_fd, walk}
use Rattle.context_core.specs.Standing.{is_in_call}
use Rattle.context_core.proofs.Found.{find_or, found_in, or_left, or_right}
use Rattle.context_core.proofs.Candidates.{Keeps, Sees, filter_kept, walk_kept, each_calls_may, each_ready_may}

-- ---- who blocks

pub some_in : (busy lineage : List ℕ) (o : Option ℕ) → o ≡ find (is_in_call busy) lineage → IfSome o (λ id. (is_in_call busy id ≡ true) × (list_any (λ i. i == id) lineage ≡ true))
some_in busy lineage None e = tt
some_in busy lineage (Some id) e = found_in (is_in_call busy) lineage id (sym e)

-- one that has what blocks it is blocked
pub has_blocker : (busy : List ℕ) (r : Row) (id : ℕ) → Some id ≡ find (is_in_call busy) r.lineage → is_blocked busy r ≡ true
has_blocker busy r id there = sym (find_or (is_in_call busy) r.lineage) ∙ ap is_some (sym there)

-- ---- what a call blocks

listed_by : (busy xs : List ℕ) (id x : ℕ) → is_in_call busy id ≡ true → (list_any (λ i. i == id) xs ≡ true → list_any (is_in_call busy) xs ≡ true)
    → (x == id) || list_any (λ i. i == id) xs ≡ true → (is_in_call busy x || list_any (is_in_call busy) xs) ≡ true
listed_by busy xs id x h ih e = elim (eqb_tells x id) [
  | inl t ↦ or_left (is_in_call busy x) (list_any (is_in_call busy) xs) (ap (is_in_call busy) t.1 ∙ h)
  | inr f ↦ or_right (is_in_call busy x) (list_any (is_in_call busy) xs) (ih (sym (ap (λ (b : Bool). b || list_any (λ i. i == id) xs) f.0) ∙ e))
]

listed : (busy xs : List ℕ) (id : ℕ) → is_in_call busy id ≡ true → list_any (λ i. i == id) xs ≡ true → list_any (is_in_call busy) xs ≡ true
listed busy [] id h e = e
listed busy (x ∷ xs) id h e = listed_by busy xs id x h (listed busy xs id h) e

out_by : (free under : Bool) → (under ≡ true → free ≡ false) → free ≡ true → not under ≡ true
out_by free true h t = let no = sym t ∙ h refl in cc
out_by free false h t = refl

-- what is free stands under nothing of which a call is in progress
pub free_beside : (busy : List ℕ) (id : ℕ) → is_in_call busy id ≡ true → (xs : List Row) → Keeps (is_free busy) (λ r. not (is_under id r)) xs
free_beside busy id h = all_true (λ r. is_free busy r ≡ true → not (is_under id r) ≡ true)
    (λ r t. out_by (is_free busy r) (is_under id r) (λ u. ap not (listed busy r.lineage id h u)) t)

-- ---- a look at what is free

shorter : (p : Row → Bool) (xs : List Row) → length (filter p xs) ≤ length xs
shorter p xs = omega (arith, length-filter_both p (λ x. not (p x)) (λ _. refl) xs)

-- what is left behind a blocked row: all, or all but what stands under an id of which a call is in progress
abbrev pub Leaves : List ℕ → ℕ → Bool → (before after : List Row) → Type 0
Leaves busy id left before after = (is_in_call busy id ≡ true) × (left ≡ true → after ≡ filter (λ r. not (is_under id r)) before) × (left ≡ false → after ≡ before)

free_after : (busy : List ℕ) (id : ℕ) (left : Bool) (before after : List Row) → Leaves busy id left before after → filter (is_free busy) after ≡ filter (is_free busy) before
free_after busy id true before after h = ap (filter (is_free busy)) (h.1 refl) ∙ filter_kept (is_free busy) (λ r. not (is_under id r)) before (free_beside busy id h.0 before)
free_after busy id false before after h = ap (filter (is_free busy)) (h.2 refl)

fewer : (busy : List ℕ) (id : ℕ) (left : Bool) (before after : List Row) → Leaves busy id left before after → length after ≤ length before
fewer busy id true before after h = subst (λ (xs : List Row). length xs ≤ length before) (sym (h.1 refl)) (shorter (λ r. not (is_under id r)) before)
fewer busy id false before after h = subst (λ (xs : List Row). length xs ≤ length before) (sym (h.2 refl)) (omega arith)

without : (busy : List ℕ) (r : Row) (rows : List Row) → is_free busy r ≡ false → filter (is_free busy) (r ∷ rows) ≡ filter (is_free busy) rows
without busy r rows f = rw f refl

-- a blocked row is passed over, and another comes
pub passed_over : (busy : List ℕ) (id : ℕ) (left : Bool) (r q : Row) (before after rest all : List Row) → Leaves busy id left before after → is_free busy r ≡ false → after ≡ q ∷ rest
    → filter (is_free busy) (r ∷ before) ≡ all → filter (is_free busy) (q ∷ rest) ≡ all
passed_over busy id left r q before after rest all h f e i =
    sym (ap (filter (is_free busy)) e) ∙ (free_after busy id left before after h ∙ (sym (without busy r before f) ∙ i))

pub fewer_left : (busy : List ℕ) (id : ℕ) (left : Bool) (q : Row) (before after rest : List Row) → Leaves busy id left before after → after ≡ q ∷ rest → length rest < length before
fewer_left busy id left q before after rest h e =
    let few = fewer busy id left before after h in
    let one = ap length e in
    omega (arith, few, one)

-- or none comes
pub none_left : (busy : List ℕ) (id : ℕ) (left : Bool) (r : Row) (before after all : List Row) → Leaves busy id left before after → is_free busy r ≡ false → after ≡ []
    → filter (is_free busy) (r ∷ before) ≡ all → all ≡ []
none_left busy id left r before after all h f e i =
    sym i ∙ (without busy r before f ∙ (sym (free_after busy id left before after h) ∙ ap (filter (is_free busy)) e))

-- ---- what is found among what is free

pub find_free : (own : Own) (busy : List ℕ) (xs : List Row) → find own (filter (is_free busy) xs) ≡ find (is_callable own busy) xs
find_free own busy [] = refl
find_free own busy (r ∷ xs) = find_by (is_free busy r) (find_free own busy xs)
  where
    find_by : (b : Bool) → find own (filter (is_free busy) xs) ≡ find (is_callable own busy) xs
        → find own (cond b (r ∷ filter (is_free busy) xs) (filter (is_free busy) xs)) ≡ cond (b && own r) (Some r) (find (is_callable own busy) xs)
    find_by true ih = ap (λ (o : Option Row). cond (own r) (Some r) o) ih
    find_by false ih = ih

-- the first that is found
pub first_here : (f : Row → Bool) (it rest : List Row) (r : Row) (o : Option Row) → f r ≡ true → it ≡ r ∷ rest → find f it ≡ o → o ≡ Some r
first_here f it rest r o t e h = sym h ∙ (ap (find f) e ∙ ap (λ (b : Bool). cond b (Some r) (find f rest)) t)

pub first_none : (f : Row → Bool) (it : List Row) (o : Option Row) → it ≡ [] → find f it ≡ o → o ≡ None
first_none f it o e h = sym h ∙ ap (find f) e

pub asked_free : (least : Option ℤ) (busy : List ℕ) (xs : List Row) → filter (is_asked least busy) (filter (is_free busy) xs) ≡ filter (is_asked least busy) xs
asked_free least busy xs =
    filter_kept (is_asked least busy) (is_free busy) xs
    (all_true (λ r. is_asked least busy r ≡ true → is_free busy r ≡ true) (λ r h. (and_both (is_free busy r) _ (and_both (is_fd r.kind) _ h).1).0) xs)

-- what may be ready, and is free
abbrev pub free_may : Sight → List ℕ → List Row → Row → Bool
free_may sight busy rows r = may_call sight rows r && is_free busy r

pub free_candidates : (sight : Sight) (busy : List ℕ) (rows : List Row) → filter (is_free busy) (candidates sight rows) ≡ filter (free_may sight busy rows) (in_order rows)
free_candidates sight busy rows = filter_twice (may_call sight rows) (is_free busy) (in_order rows)

both_true : (a b : Bool) → a ≡ true → b ≡ true → (a && b) ≡ true
both_true a b h k = rw (h, k) refl

pub each_calls_free : (level : ℕ → ℕ) (view : ℕ → Bool) (now : ℕ) (sight : Sight) → Sees level view now sight → (busy : List ℕ) (rows : List Row) → IsForest rows → Keeps (is_callable (own_ready level view now) busy) (free_may sight busy rows) rows
each_calls_free level view now sight sees busy rows forest =
    all_of (λ r. is_callable (own_ready level view now) busy r ≡ true → may_call sight rows r ≡ true) (λ r. is_callable (own_ready level view now) busy r ≡ true → free_may sight busy rows r ≡ true)
    (λ r h t. both_true _ _ (h t) ((and_both (is_free busy r) _ t).0)) rows (each_calls_may level view now sight sees busy rows forest)

pub walk_free : (level : ℕ → ℕ) (view : ℕ → Bool) (now : ℕ) (sight : Sight) → Sees level view now sight → (busy : List ℕ) (bound : Option ℤ) (rows : List Row)
    → walk (is_ready (own_ready level view now) busy rows) bound (filter (is_free busy) (candidates sight rows)) ≡ walk (is_ready (own_ready level view now) busy rows) bound (in_order rows)
walk_free level view now sight sees busy bound rows =
    ap (walk (is_ready (own_ready level view now) busy rows) bound) (free_candidates sight busy rows)
    ∙ walk_kept (is_ready (own_ready level view now) busy rows) (free_may sight busy rows) bound (in_order rows) (sorted_in_order rows)
    (all_of (λ r. is_ready (own_ready level view now) busy rows r ≡ true → may_call sight rows r ≡ true) (λ r. is_ready (own_ready level view now) busy rows r ≡ true → free_may sight busy rows r ≡ true)
    (λ r h t. both_true _ _ (h t) ((and_both (is_free busy r) _ t).0)) (in_order rows) (each_ready_may level view now sight sees busy rows (in_order rows)))

-- ---- one that is free

abbrev pub AllFree : List ℕ → List Row → Type 0
AllFree busy xs = AllByRecursion (λ r. is_free busy r ≡ true) xs

pub all_free : (busy : List ℕ) (xs : List Row) → AllFree busy (filter (is_free busy) xs)
all_free busy xs = all_passed (λ r. Unit {0}) (λ r. is_free busy r ≡ true) (is_free busy) (λ r u h. h) xs (all_true (λ r. Unit {0}) (λ r. tt) xs)

pub free_here : (busy : List ℕ) (it rest : List Row) (r : Row) → it ≡ r ∷ rest → AllFree busy it → (is_free busy r ≡ true) × AllFree busy rest
free_here busy it rest r e h = let both = subst (AllFree busy) e h in (both.0, both.1)

pub lends_where_free : (own : Own) (busy : List ℕ) (id : ℕ) (r : Row) → is_free busy r ≡ true → lends_free own id r ≡ lends own busy id r
lends_where_free own busy id r h = ap (λ (b : Bool). (is_some r.parent && is_under id r) && (b && own r)) (sym h)

pub ready_where_free : (own : Own) (busy : List ℕ) (lent : Bool) (r : Row) → is_free busy r ≡ true → (own r || lent) ≡ (is_free busy r && (is_callable own busy r || lent))
ready_where_free own busy lent r h = ap (λ (b : Bool). b && ((b && own r) || lent)) (sym h)
