-- What may not be ready at a tick is not ready before the next ready time.
use Rattle.std.proofs.Common.{◌≡◌, ℕ, ◌&&◌, ◌||◌, ℤ, pos, negsuc, Bool, true, false, not, cond, nat_lt, Option, Some, None, List, [], ◌∷◌, refl, ap, sym, ◌∙◌, arith}
use Rattle.std.proofs.lemmas.Bool.Decides.{nat_tests}
use Rattle.std.proofs.lemmas.Int.{ints}
use Rattle.std.specs.Prelude.{IfSome, int_le, int_lt}
use Rattle.std.specs.List.{AllByRecursion, list_any}
use Rattle.loop_script.specs.declared.source.Kind.{Kind}
use Rattle.loop_script.specs.declared.source.Kind.TheVariants.{Idle, Timeout, ReadyTime, Fd, Cancel}
use Rattle.source_rows.specs.declared.row.Row.{Row}
use Rattle.cancel_view.specs.Marks.{mark_of, meets}
use Rattle.source_rows.specs.declared.sight.Sight.{Sight}
use Rattle.source_rows.specs.Candidates.{descriptor, due_at, opened_by, sleeps, is_awake, may_call, candidates}
use Rattle.source_rows.specs.Rows.{sooner, next_ready, in_order}
use Rattle.source_rows.specs.Tree.{IsForest}
use Rattle.source_rows.proofs.Band.{any_in_order}
use Rattle.source_rows.proofs.Compared.{and_both}
use Rattle.source_rows.proofs.Forest.{InForest, members}
use Rattle.source_rows.proofs.Lists.{all_both}
use Rattle.source_rows.proofs.Order.{all_in_order}
use Rattle.source_rows.proofs.Steps.{awake_calls}
use Rattle.context_core.specs.Ready.{own_ready, kind_ready, has_bit, is_due, is_free, is_callable}
use Rattle.context_core.proofs.Candidates.{Sees, any_kept}

-- ---- the next ready time

above_by : (now : ℕ) (ready u : ℤ) (o : Option ℤ) → int_lt (pos now) ready ≡ true → ((v : ℤ) → o ≡ Some v → int_lt (pos now) v ≡ true) → Some (sooner ready o) ≡ Some u → int_lt (pos now) u ≡ true
above_by now ready u None h k e = let same : ready ≡ u = cc in ap (int_lt (pos now)) (sym same) ∙ h
above_by now ready u (Some v) h k e = by_first (int_lt v ready) e
  where
    by_first : (b : Bool) → Some (cond b v ready) ≡ Some u → int_lt (pos now) u ≡ true
    by_first true f = let same : v ≡ u = cc in ap (int_lt (pos now)) (sym same) ∙ k v refl
    by_first false f = let same : ready ≡ u = cc in ap (int_lt (pos now)) (sym same) ∙ h

above_step : (now : ℕ) (ready u : ℤ) (o : Option ℤ) (b : Bool) → int_lt (pos now) ready ≡ b → ((v : ℤ) → o ≡ Some v → int_lt (pos now) v ≡ true) → cond b (Some (sooner ready o)) o ≡ Some u → int_lt (pos now) u ≡ true
above_step now ready u o true h k e = above_by now ready u o h k e
above_step now ready u o false h k e = k u e

-- it is above now
above_now : (now : ℕ) (rows : List Row) (u : ℤ) → next_ready now rows ≡ Some u → int_lt (pos now) u ≡ true
above_now now [] u e = cc
above_now now (r ∷ rows) u e = above_step now r.ready u (next_ready now rows) (int_lt (pos now) r.ready) refl (above_now now rows) e

late_by : (a b : Bool) → a ≡ true → (a && b) ≡ false → b ≡ false
late_by true b h e = e
late_by false b h e = cc

and_none : (a b : Bool) → b ≡ false → (a && b) ≡ false
and_none true b h = h
and_none false b h = refl

-- what is no sooner than a time that has not come has not come
due_up : (now t : ℕ) (z y : ℤ) → int_lt (pos now) z ≡ true → int_lt y z ≡ false → is_due t z ≡ false → is_due t y ≡ false
due_up now t (negsuc n) y h k e = let no : int_lt (pos now) (negsuc n) ≡ false = grind (arith, ints) in let never = sym no ∙ h in cc
due_up now t (pos n) (negsuc m) h k e = let no : int_lt (negsuc m) (pos n) ≡ true = grind (arith, ints) in let never = sym no ∙ k in cc
due_up now t (pos n) (pos m) h k e =
    let some : int_le (pos 0) (pos n) ≡ true = grind (arith, ints) in
    let late : int_le (pos n) (pos t) ≡ false = late_by (int_le (pos 0) (pos n)) (int_le (pos n) (pos t)) some e in
    let later : int_le (pos m) (pos t) ≡ false = grind (arith, ints) in
    and_none (int_le (pos 0) (pos m)) (int_le (pos m) (pos t)) later

abbrev Late : ℕ → Option ℤ → Type 0
Late t o = IfSome o (λ z. is_due t z ≡ false)

parts : (now t : ℕ) (ready : ℤ) (o : Option ℤ) → int_lt (pos now) ready ≡ true → ((u : ℤ) → o ≡ Some u → int_lt (pos now) u ≡ true) → is_due t (sooner ready o) ≡ false → (is_due t ready ≡ false) × Late t o
parts now t ready None h k e = (e, tt)
parts now t ready (Some u) h k e = by_first (int_lt u ready) refl e
  where
    not_after : int_lt u ready ≡ true → int_lt ready u ≡ false
    not_after f = grind (arith, ints)

    by_first : (b : Bool) → int_lt u ready ≡ b → is_due t (cond b u ready) ≡ false → (is_due t ready ≡ false) × (is_due t u ≡ false)
    by_first true f g = (due_up now t u ready (k u refl) (not_after f) g, g)
    by_first false f g = (g, due_up now t ready u h f g)

late_step : (now t : ℕ) (r : Row) (rows : List Row) (b : Bool) → int_lt (pos now) r.ready ≡ b → (Late t (next_ready now rows) → AllByRecursion (λ q. int_lt (pos now) q.ready ≡ true → is_due t q.ready ≡ false) rows)
    → Late t (cond b (Some (sooner r.ready (next_ready now rows))) (next_ready now rows)) → AllByRecursion (λ q. int_lt (pos now) q.ready ≡ true → is_due t q.ready ≡ false) (r ∷ rows)
late_step now t r rows true e ih h = let two = parts now t r.ready (next_ready now rows) e (above_now now rows) h in (λ f. two.0, ih two.1)
late_step now t r rows false e ih h = (λ f. let never = sym e ∙ f in cc, ih h)

-- where it has not come, no later one has
late_all : (now t : ℕ) (rows : List Row) → Late t (next_ready now rows) → AllByRecursion (λ q. int_lt (pos now) q.ready ≡ true → is_due t q.ready ≡ false) rows
late_all now t [] h = tt
late_all now t (r ∷ rows) h = late_step now t r rows (int_lt (pos now) r.ready) refl (late_all now t rows) h

-- ---- what sleeps

both_of : (a b : Bool) → not (not a && b) ≡ false → (a ≡ false) × (b ≡ true)
both_of true b e = cc
both_of false true e = (refl, refl)
both_of false false e = cc

due_later : (now t : ℕ) (ready : ℤ) → nat_lt now (due_at ready) ≡ true → (int_lt (pos now) ready ≡ true → is_due t ready ≡ false) → is_due t ready ≡ false
due_later now t (negsuc n) over h = refl
due_later now t (pos n) over h = h (grind (arith, nat_tests, ints))

closed : (level : ℕ → ℕ) (view : ℕ → Bool) (now : ℕ) (sight : Sight) → Sees level view now sight → (c : ℕ) → meets (mark_of c) sight.marks ≡ false → (b : Bool) → view c ≡ b → b ≡ false
closed level view now sight sees c e true f = let never = sym e ∙ sees.marked c f in cc
closed level view now sight sees c e false f = refl

shows_none : (level : ℕ → ℕ) (view : ℕ → Bool) (now : ℕ) (sight : Sight) → Sees level view now sight → (fd bits : ℕ) → meets descriptor sight.marks ≡ false → (b : Bool) → has_bit (level fd) bits ≡ b → b ≡ false
shows_none level view now sight sees fd bits e true f = let never = sym e ∙ sees.shown fd bits f in cc
shows_none level view now sight sees fd bits e false f = refl

asleep_by : (level : ℕ → ℕ) (view : ℕ → Bool) (now t : ℕ) (sight : Sight) → Sees level view now sight → (k : Kind) (ready : ℤ) → not (sleeps sight (opened_by k) (due_at ready)) ≡ false → (int_lt (pos now) ready ≡ true → is_due t ready ≡ false)
    → (kind_ready level view k || is_due t ready) ≡ false
asleep_by level view now t sight sees k ready e h = by k (both_of (meets (opened_by k) sight.marks) (nat_lt sight.now (due_at ready)) e)
  where
    late : nat_lt sight.now (due_at ready) ≡ true → is_due t ready ≡ false
    late over = due_later now t ready (ap (λ (n : ℕ). nat_lt n (due_at ready)) (sym sees.time) ∙ over) h

    by : (k : Kind) → (meets (opened_by k) sight.marks ≡ false) × (nat_lt sight.now (due_at ready) ≡ true) → (kind_ready level view k || is_due t ready) ≡ false
    by Idle two = let never = sym two.0 ∙ sees.idle in cc
    by (Timeout ms) two = late two.1
    by (ReadyTime us) two = late two.1
    by (Fd fd bits) two = rw (shows_none level view now sight sees fd bits two.0 (has_bit (level fd) bits) refl) (late two.1)
    by (Cancel c) two = rw (closed level view now sight sees c two.0 (view c) refl) (late two.1)

own_awake : (level : ℕ → ℕ) (view : ℕ → Bool) (now t : ℕ) (sight : Sight) → Sees level view now sight → (r : Row) → (int_lt (pos now) r.ready ≡ true → is_due t r.ready ≡ false) → own_ready level view t r ≡ true → is_awake sight r ≡ true
own_awake level view now t sight sees r h own = by_awake (is_awake sight r) refl
  where
    by_awake : (b : Bool) → is_awake sight r ≡ b → b ≡ true
    by_awake true e = refl
    by_awake false e = sym (asleep_by level view now t sight sees r.kind r.ready e h) ∙ own

-- what calls stands among what may be ready
pub soon : (level : ℕ → ℕ) (view : ℕ → Bool) (now t : ℕ) (sight : Sight) → Sees level view now sight → (busy : List ℕ) (rows : List Row) → IsForest rows → Late t (next_ready now rows)
    → list_any (is_callable (own_ready level view t) busy) (candidates sight rows) ≡ list_any (is_callable (own_ready level view t) busy) rows
soon level view now t sight sees busy rows forest late =
    any_kept (is_callable (own_ready level view t) busy) (may_call sight rows) (in_order rows)
    (all_in_order (λ r. is_callable (own_ready level view t) busy r ≡ true → may_call sight rows r ≡ true) rows
    (all_both (InForest rows) (λ q. int_lt (pos now) q.ready ≡ true → is_due t q.ready ≡ false) (λ r. is_callable (own_ready level view t) busy r ≡ true → may_call sight rows r ≡ true)
    (λ r g h c. awake_calls rows (members rows forest) sight r g (own_awake level view now t sight sees r h (and_both (is_free busy r) (own_ready level view t r) c).1))
    rows (members rows forest) (late_all now t rows late)))
    ∙ any_in_order (is_callable (own_ready level view t) busy) rows
