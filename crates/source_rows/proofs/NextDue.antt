-- The next ready time of rows is that of the seat that is due next.
use Rattle.std.proofs.Common.{◌≡◌, ℕ, nat_lt, ℤ, pos, negsuc, int_lt, Bool, true, false, cond, Option, Some, None, List, [], ◌∷◌, refl, ap, sym, ◌∙◌, arith}
use Rattle.std.proofs.lemmas.Bool.Decides.{nat_tests}
use Rattle.std.proofs.lemmas.Int.{ints}
use Rattle.std.specs.List.{AllByRecursion}
use Rattle.source_rows.specs.declared.row.Row.{Row}
use Rattle.source_rows.specs.Candidates.{never, due_at}
use Rattle.source_rows.specs.Rows.{sooner, next_ready}
use Rattle.source_rows.specs.Seats.{lesser, due_after, next_due, seat_of, in_seats}
use Rattle.source_rows.specs.Slots.{IsTime}
use Rattle.source_rows.proofs.Soonest.{least_most, least_put}

-- a time that is due, none for never
abbrev pub time : ℕ → Option ℤ
time n = cond (nat_lt n never) (Some (pos n)) None

as_nat_by : (m n : ℕ) (a b : Bool) → int_lt (pos m) (pos n) ≡ a → nat_lt m n ≡ b → a ≡ b
as_nat_by m n true true e f = refl
as_nat_by m n true false e f = grind (arith, nat_tests, ints)
as_nat_by m n false true e f = grind (arith, nat_tests, ints)
as_nat_by m n false false e f = refl

as_nat : (m n : ℕ) → int_lt (pos m) (pos n) ≡ nat_lt m n
as_nat m n = as_nat_by m n (int_lt (pos m) (pos n)) (nat_lt m n) refl refl

below_by : (m n : ℕ) (b : Bool) → int_lt (pos m) (negsuc n) ≡ b → b ≡ false
below_by m n true e = grind (arith, ints)
below_by m n false e = refl

never_first : (m : ℕ) → nat_lt never m ≡ false → time (lesser never m) ≡ time m
never_first m h = ap time (ap (λ (b : Bool). cond b never m) h)

sooner_by : (n m : ℕ) (u v w : Bool) → nat_lt n m ≡ u → nat_lt m never ≡ v → nat_lt m n ≡ w → nat_lt n never ≡ true → nat_lt never m ≡ false → Some (sooner (pos n) (cond v (Some (pos m)) None)) ≡ time (cond u n m)
sooner_by n m true true true e f g h k = grind (arith, nat_tests)
sooner_by n m true true false e f g h k = rw (as_nat m n, g, h) refl
sooner_by n m true false w e f g h k = rw h refl
sooner_by n m false true true e f g h k = rw (as_nat m n, g, f) refl
sooner_by n m false true false e f g h k = let same : n ≡ m = grind (arith, nat_tests) in rw (as_nat m n, g, f) (ap (λ (x : ℕ). Some (pos x)) same)
sooner_by n m false false w e f g h k = grind (arith, nat_tests)

after_by : (now n m : ℕ) (b : Bool) → nat_lt now n ≡ b → nat_lt n never ≡ true → nat_lt never m ≡ false → cond b (Some (sooner (pos n) (time m))) (time m) ≡ time (lesser (cond b n never) m)
after_by now n m true e h k = sooner_by n m (nat_lt n m) (nat_lt m never) (nat_lt m n) refl refl refl h k
after_by now n m false e h k = sym (never_first m k)

same_by : (b : Bool) → cond b never never ≡ never
same_by true = refl
same_by false = refl

one_more : (now m : ℕ) (ready : ℤ) → int_lt ready (pos never) ≡ true → nat_lt never m ≡ false
    → cond (int_lt (pos now) ready) (Some (sooner ready (time m))) (time m) ≡ time (lesser (cond (nat_lt now (due_at ready)) (due_at ready) never) m)
one_more now m (pos n) h k =
    ap (λ (b : Bool). cond b (Some (sooner (pos n) (time m))) (time m)) (as_nat now n) ∙ after_by now n m (nat_lt now n) refl (sym (as_nat n never) ∙ h) k
one_more now m (negsuc n) h k =
    ap (λ (b : Bool). cond b (Some (sooner (negsuc n) (time m))) (time m)) (below_by now n (int_lt (pos now) (negsuc n)) refl)
    ∙ sym (ap (λ (d : ℕ). time (lesser d m)) (same_by (nat_lt now never)) ∙ never_first m k)

pub next_is : (now : ℕ) (rows : List Row) → AllByRecursion IsTime rows → next_ready now rows ≡ time (next_due now (in_seats rows))
next_is now [] h = refl
next_is now (r ∷ rows) h =
    ap (λ (o : Option ℤ). cond (int_lt (pos now) r.ready) (Some (sooner r.ready o)) o) (next_is now rows h.1)
    ∙ (one_more now (next_due now (in_seats rows)) r.ready h.0 (least_most (due_after now) (in_seats rows))
    ∙ ap time (sym (least_put (due_after now) (seat_of r) (in_seats rows))))
