-- Ticks up to which nothing becomes ready.
use Rattle.std.proofs.Common.{◌≡◌, ℕ, zero, suc, ◌+◌, ◌*◌, ◌/◌, ◌%◌, ◌<◌, ◌≤◌, ◌&&◌, ◌||◌, ℤ, pos, negsuc, min, Bool, true, false, not, cond, Option, Some, None, List, [], ◌∷◌, map, length, get_or, refl, ap, sym, ◌∙◌, arith, rules, tests, suc-mul, mul-le-mul_right}
use Rattle.std.specs.Prelude.{nat_le, nat_lt, int_le, unwrap_or, option_map, slice_get}
use Rattle.std.proofs.lemmas.Int.{ints}
use Rattle.std.proofs.lemmas.Grind.{div_ceil_times}
use lib.IntN.{nat_abs}
use Rattle.std.specs.List.{list_any}
use Rattle.task_steps.specs.Run.{IsAfter}
use Rattle.loop_script.specs.declared.plan.Plan.{Plan}
use Rattle.loop_script.specs.declared.level.Level.{Level}
use Rattle.loop_script.specs.Level.{come, to_come, change_after, last, least}
use Rattle.loop_script.specs.Parts.{levels_of, level_of, next_change_of}
use Rattle.source_rows.specs.declared.row.Row.{Row}
use Rattle.std.specs.Option.{is_some}
use Rattle.std.proofs.lemmas.List.Filters.{length-filter_both}
use Rattle.source_rows.specs.Rows.{is_under}
use Rattle.source_rows.proofs.Compared.{and_both}
use Rattle.source_rows.proofs.Lists.{all_of}
use Rattle.context_core.specs.Ready.{Own, is_due, is_blocked, is_free, is_callable}
use Rattle.context_core.proofs.Candidates.{any_kept}
use Rattle.context_core.proofs.Unblocked.{Leaves, free_beside}

-- ---- what a descriptor shows between two changes

after_both : (k n : ℕ) (o : Option ℕ) → k < min n (unwrap_or o n) → (k < n) × IsAfter k o
after_both k n None h = (omega arith, tt)
after_both k n (Some m) h = (omega arith, omega arith)

le_yes : (a b : ℕ) → a ≤ b → nat_le a b ≡ true
le_yes a b h = search (rules, tests)

le_no : (a b : ℕ) → b < a → nat_le a b ≡ false
le_no a b h = search (rules, tests)

lt_of : (a b : ℕ) → nat_lt a b ≡ true → a < b
lt_of a b e = search (rules, tests)

not_lt_of : (a b : ℕ) → nat_lt a b ≡ false → b ≤ a
not_lt_of a b e = search (rules, tests)

both_same : (l : Level) (a b : Bool) (xs ys : List Level) → a ≡ b → xs ≡ ys → cond a (l ∷ xs) xs ≡ cond b (l ∷ ys) ys
both_same l a b xs ys e h = λ i. cond (e i) (l ∷ h i) (h i)

come_more : (from k : ℕ) (l : Level) (ls : List Level) (b : Bool) → from ≤ k → nat_lt from l.tick ≡ b
    → IsAfter k (least (map (λ (m : Level). m.tick) (cond b (l ∷ to_come from ls) (to_come from ls)))) → (IsAfter k (change_after from ls) → come k ls ≡ come from ls) → come k (l ∷ ls) ≡ come from (l ∷ ls)
come_more from k l ls true le e h rest =
    let parts = after_both k l.tick (change_after from ls) h in
    both_same l (nat_le l.tick k) (nat_le l.tick from) (come k ls) (come from ls) (le_no l.tick k parts.0 ∙ sym (le_no l.tick from (lt_of from l.tick e))) (rest parts.1)
come_more from k l ls false le e h rest =
    let low : l.tick ≤ from = not_lt_of from l.tick e in
    both_same l (nat_le l.tick k) (nat_le l.tick from) (come k ls) (come from ls) (le_yes l.tick k (omega arith) ∙ sym (le_yes l.tick from low)) (rest h)

come_same : (from k : ℕ) (ls : List Level) → from ≤ k → IsAfter k (change_after from ls) → come k ls ≡ come from ls
come_same from k [] le a = refl
come_same from k (l ∷ ls) le a = come_more from k l ls (nat_lt from l.tick) le refl a (λ h. come_same from k ls le h)

pub level_same : (script : Plan) (fd from k : ℕ) → from ≤ k → IsAfter k (next_change_of script fd from) → level_of script fd k ≡ level_of script fd from
level_same script fd from k le a =
    ap (λ (ls : List Level). unwrap_or (option_map (λ (l : Level). l.bits) (last ls)) 0) (come_same from k (levels_of script fd) le a)

-- ---- a ready time that is to come

-- a division rounded up
abbrev pub up : ℕ → ℕ → ℕ
up a b = a / b + min 1 (a % b)

late : (ready k us ticks : ℕ) → ready ≤ ticks * us → ticks * us < ready + us → k < ticks → k * us < ready
late ready k us ticks low high h =
    omega (arith, low, high, suc-mul k us, mul-le-mul_right {m = suc k} {n = ticks} us (omega arith))

int_no : (n m : ℕ) → m < n → int_le (pos n) (pos m) ≡ false
int_no n m h = grind (arith, ints)

and_none : (a b : Bool) → b ≡ false → (a && b) ≡ false
and_none true b h = h
and_none false b h = refl

pub not_due : (ready : ℤ) (us k : ℕ) → 0 < us → k < up (nat_abs ready) us → is_due (k * us) ready ≡ false
not_due (pos n) us k some h =
    let bounds = div_ceil_times n us some in
    and_none (int_le (pos 0) (pos n)) _ (int_no n (k * us) (late n k us (up n us) bounds.0 bounds.1 h))
not_due (negsuc n) us k some h = refl

-- ---- where no free source is ready by itself

pub any_free : (own : Own) (busy : List ℕ) (r : Row) (rows : List Row) → (is_blocked busy r ≡ false → own r ≡ false) → list_any (is_callable own busy) rows ≡ list_any (is_callable own busy) (r ∷ rows)
any_free own busy r rows h = by_test (is_blocked busy r) refl
  where
    by_test : (b : Bool) → is_blocked busy r ≡ b → list_any (is_callable own busy) rows ≡ ((not (is_blocked busy r) && own r) || list_any (is_callable own busy) rows)
    by_test true e = sym (ap (λ (b : Bool). (not b && own r) || list_any (is_callable own busy) rows) e)
    by_test false e = sym ((λ i. (not (e i) && own r) || list_any (is_callable own busy) rows) ∙ ap (λ (b : Bool). b || list_any (is_callable own busy) rows) (h e))

-- ---- what is looked up in a list

pub got : {A : Type 0} (xs : List A) (i : ℕ) (d : A) → i < length xs → slice_get xs i ≡ Some (get_or xs i d)
got [] i d h = absurd (omega arith)
got (x ∷ xs) zero d h = refl
got (x ∷ xs) (suc i) d h = got xs i d (omega arith)

pub none_got : {A : Type 0} (xs : List A) (i : ℕ) → length xs ≤ i → slice_get xs i ≡ None
none_got [] i h = refl
none_got (x ∷ xs) zero h = absurd (omega arith)
none_got (x ∷ xs) (suc i) h = none_got xs i (omega arith)

-- ---- rows that a call blocks

-- what is left behind a blocked row has what is callable
pub any_left : (own : Own) (busy : List ℕ) (id : ℕ) (left : Bool) (before after : List Row) → Leaves busy id left before after → list_any (is_callable own busy) after ≡ list_any (is_callable own busy) before
any_left own busy id true before after h =
    ap (list_any (is_callable own busy)) (h.1 refl)
    ∙ any_kept (is_callable own busy) (λ r. not (is_under id r)) before
    (all_of (λ r. is_free busy r ≡ true → not (is_under id r) ≡ true) (λ r. is_callable own busy r ≡ true → not (is_under id r) ≡ true) (λ r k t. k (and_both (is_free busy r) (own r) t).0) before (free_beside busy id h.0 before))
any_left own busy id false before after h = ap (list_any (is_callable own busy)) (h.2 refl)

pub fewer_behind : (busy : List ℕ) (id : ℕ) (left : Bool) (r : Row) (rows before after : List Row) → Leaves busy id left before after → rows ≡ r ∷ before → length after < length rows
fewer_behind busy id true r rows before after h e =
    let one = ap length e in
    let same = ap length (h.1 refl) in
    omega (arith, one, same, length-filter_both (λ q. not (is_under id q)) (λ q. not (not (is_under id q))) (λ _. refl) before)
fewer_behind busy id false r rows before after h e =
    let one = ap length e in
    let same = ap length (h.2 refl) in
    omega (arith, one, same)

-- a source that has no wake is after any tick
pub none_after : (k : ℕ) (o : Option ℕ) → false ≡ is_some o → IsAfter k o
none_after k None e = tt
none_after k (Some w) e = cc
