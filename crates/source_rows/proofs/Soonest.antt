-- The least times of seats.
use Rattle.std.proofs.Common.{◌≡◌, nat_lt, ℕ, Bool, true, false, cond, List, [], ◌∷◌, ◌++◌, refl, ap, sym, ◌∙◌, ap₂, arith}
use Rattle.std.proofs.lemmas.Bool.Decides.{nat_tests}
use Rattle.source_rows.specs.Candidates.{never}
use Rattle.source_rows.specs.Inserted.{inserted}
use Rattle.source_rows.specs.declared.seats.Seat.{Seat}
use Rattle.source_rows.specs.Seats.{is_ahead, lesser, least_by, due_after, next_due}

most_by : (a b : ℕ) (v : Bool) → nat_lt a b ≡ v → nat_lt never b ≡ false → nat_lt never (cond v a b) ≡ false
most_by a b true e h = grind (arith, nat_tests)
most_by a b false e h = h

pub least_most : (f : Seat → ℕ) (xs : List Seat) → nat_lt never (least_by f xs) ≡ false
least_most f [] = grind (arith, nat_tests)
least_most f (s ∷ xs) = most_by (f s) (least_by f xs) (nat_lt (f s) (least_by f xs)) refl (least_most f xs)

assoc_by : (a b c : ℕ) (u v : Bool) → nat_lt a b ≡ u → nat_lt b c ≡ v → lesser a (cond v b c) ≡ lesser (cond u a b) c
assoc_by a b c true true e f = let g : nat_lt a c ≡ true = grind (arith, nat_tests) in ap (λ (z : Bool). cond z a b) e ∙ sym (ap (λ (z : Bool). cond z a c) g)
assoc_by a b c true false e f = refl
assoc_by a b c false true e f = ap (λ (z : Bool). cond z a b) e ∙ sym (ap (λ (z : Bool). cond z b c) f)
assoc_by a b c false false e f = let g : nat_lt a c ≡ false = grind (arith, nat_tests) in ap (λ (z : Bool). cond z a c) g ∙ sym (ap (λ (z : Bool). cond z b c) f)

assoc : (a b c : ℕ) → lesser a (lesser b c) ≡ lesser (lesser a b) c
assoc a b c = assoc_by a b c (nat_lt a b) (nat_lt b c) refl refl

pub least_join : (f : Seat → ℕ) (l xs : List Seat) → least_by f (l ++ xs) ≡ lesser (least_by f l) (least_by f xs)
least_join f [] xs = sym (ap (λ (b : Bool). cond b never (least_by f xs)) (least_most f xs))
least_join f (s ∷ l) xs = ap (lesser (f s)) (least_join f l xs) ∙ assoc (f s) (least_by f l) (least_by f xs)

swap_by : (a b : ℕ) (u v : Bool) → nat_lt a b ≡ u → nat_lt b a ≡ v → cond u a b ≡ cond v b a
swap_by a b true true e f = grind (arith, nat_tests)
swap_by a b true false e f = refl
swap_by a b false true e f = refl
swap_by a b false false e f = grind (arith, nat_tests)

lesser_swap : (a b : ℕ) → lesser a b ≡ lesser b a
lesser_swap a b = swap_by a b (nat_lt a b) (nat_lt b a) refl refl

pub behind_least : (a b c : ℕ) → lesser b (lesser a c) ≡ lesser a (lesser b c)
behind_least a b c = assoc b a c ∙ (ap (λ (n : ℕ). lesser n c) (lesser_swap b a) ∙ sym (assoc a b c))

least_put_by : (f : Seat → ℕ) (a x : Seat) (xs : List Seat) → least_by f (inserted is_ahead a xs) ≡ lesser (f a) (least_by f xs) → (b : Bool) → least_by f (cond b (a ∷ x ∷ xs) (x ∷ inserted is_ahead a xs)) ≡ lesser (f a) (lesser (f x) (least_by f xs))
least_put_by f a x xs ih true = refl
least_put_by f a x xs ih false = ap (lesser (f x)) ih ∙ behind_least (f a) (f x) (least_by f xs)

-- wherever a seat is put
pub least_put : (f : Seat → ℕ) (a : Seat) (xs : List Seat) → least_by f (inserted is_ahead a xs) ≡ lesser (f a) (least_by f xs)
least_put f a [] = refl
least_put f a (x ∷ xs) = least_put_by f a x xs (least_put f a xs) (is_ahead a x)

pub asleep_by : (now a b : ℕ) (v : Bool) → nat_lt a b ≡ v → nat_lt now (cond v a b) ≡ true → (nat_lt now a ≡ true) × (nat_lt now b ≡ true)
asleep_by now a b true e h = (h, grind (arith, nat_tests))
asleep_by now a b false e h = (grind (arith, nat_tests), h)

-- ---- when the next seat is due

due_by : (now : ℕ) (s : Seat) → nat_lt now s.due ≡ true → due_after now s ≡ s.due
due_by now s h = ap (λ (b : Bool). cond b s.due never) h

-- where none is due by a time, the next one is the least of all
pub all_due : (now : ℕ) (xs : List Seat) → nat_lt now (least_by (λ s. s.due) xs) ≡ true → next_due now xs ≡ least_by (λ s. s.due) xs
all_due now [] h = refl
all_due now (s ∷ xs) h =
    let two = asleep_by now s.due (least_by (λ s. s.due) xs) (nat_lt s.due (least_by (λ s. s.due) xs)) refl h in
    ap₂ lesser (due_by now s two.0) (all_due now xs two.1)
