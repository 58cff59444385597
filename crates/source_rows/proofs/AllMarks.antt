-- The marks of seats, all together.
use Rattle.std.proofs.Common.{◌≡◌, ℕ, max, nat_lt, ◌&&◌, Bool, true, false, not, cond, List, [], ◌∷◌, ◌++◌, refl, ap, sym, ◌∙◌, arith}
use Rattle.std.proofs.lemmas.Bool.Decides.{nat_tests}
use Rattle.std.proofs.lemmas.Nat.{and_comm, or_comm}
use Rattle.std.specs.Int.Bits.{or_self}
use Rattle.std.specs.Int.{bit_at}
use Rattle.std.proofs.lemmas.Nat.Bits.{and_pow, bit_at-lt, bit_at_or, bit_at-pow_other, bit_at-pow_same, bit_at-zero, same_from_bits}
use Rattle.std.specs.Prelude.{bit_and, bit_or, ◌==◌, ◌^◌, ◌*◌, ◌<◌}
use Rattle.std.specs.Ordering.{is_eq}
use Rattle.cancel_view.specs.Marks.{Marks, meets, opening}
use Rattle.cancel_view.proofs.Marked.{apart_first, apart_second, meets_same}
use Rattle.source_rows.specs.Inserted.{inserted}
use Rattle.source_rows.specs.declared.seats.Seat.{Seat}
use Rattle.source_rows.specs.declared.sight.Sight.{Sight}
use Rattle.source_rows.specs.Candidates.{sleeps}
use Rattle.source_rows.specs.Seats.{is_ahead, seat_cmp, marks_of, least_by, without}
use Rattle.source_rows.proofs.Soonest.{asleep_by}

max_three : (x y z : ℕ) → max x (max y z) ≡ max (max x y) z
max_three x y z = omega arith

pub or_three : (a b c : Marks) → bit_or a (bit_or b c) ≡ bit_or (bit_or a b) c
or_three a b c = same_from_bits _ _ (λ i.
    bit_at_or a (bit_or b c) i
    ∙ (ap (max (bit_at a i)) (bit_at_or b c i)
    ∙ (max_three (bit_at a i) (bit_at b i) (bit_at c i)
    ∙ (ap (λ (n : ℕ). max n (bit_at c i)) (sym (bit_at_or a b i)) ∙ sym (bit_at_or (bit_or a b) c i)))))

max_zero : (x : ℕ) → max 0 x ≡ x
max_zero x = omega arith

zero_or : (a : Marks) → bit_or 0 a ≡ a
zero_or a = same_from_bits _ _ (λ i. bit_at_or 0 a i ∙ (ap (λ (n : ℕ). max n (bit_at a i)) (bit_at-zero i) ∙ max_zero (bit_at a i)))

pub or_zero : (a : Marks) → bit_or a 0 ≡ a
or_zero a = or_comm a 0 ∙ zero_or a

-- what stands behind, before what stands between
pub between : (a b m : Marks) → bit_or (bit_or a b) m ≡ bit_or a (bit_or m b)
between a b m = sym (or_three a b m) ∙ ap (bit_or a) (or_comm b m)

pub marks_join : (l r : List Seat) → marks_of (l ++ r) ≡ bit_or (marks_of l) (marks_of r)
marks_join [] r = sym (zero_or (marks_of r))
marks_join (s ∷ l) r = ap (bit_or (opening s.mark)) (marks_join l r) ∙ or_three (opening s.mark) (marks_of l) (marks_of r)

behind_marks : (a b c : Marks) → bit_or b (bit_or a c) ≡ bit_or a (bit_or b c)
behind_marks a b c = or_three b a c ∙ (ap (λ (n : ℕ). bit_or n c) (or_comm b a) ∙ sym (or_three a b c))

put_by : (a x : Seat) (xs : List Seat) → marks_of (inserted is_ahead a xs) ≡ bit_or (opening a.mark) (marks_of xs) → (b : Bool)
    → marks_of (cond b (a ∷ x ∷ xs) (x ∷ inserted is_ahead a xs)) ≡ bit_or (opening a.mark) (bit_or (opening x.mark) (marks_of xs))
put_by a x xs ih true = refl
put_by a x xs ih false = ap (bit_or (opening x.mark)) ih ∙ behind_marks (opening a.mark) (opening x.mark) (marks_of xs)

-- wherever a seat is put
pub marks_put : (a : Seat) (xs : List Seat) → marks_of (inserted is_ahead a xs) ≡ bit_or (opening a.mark) (marks_of xs)
marks_put a [] = refl
marks_put a (x ∷ xs) = put_by a x xs (marks_put a xs) (is_ahead a x)

-- beside others, one more comes last or first
pub marks_more : (a : Seat) (xs : List Seat) → marks_of (inserted is_ahead a xs) ≡ bit_or (marks_of xs) (opening a.mark)
marks_more a xs = marks_put a xs ∙ or_comm (opening a.mark) (marks_of xs)

-- ---- a mark that goes, where it stays among the others

-- a mark that is among some adds nothing to them
set_bit : (m n : ℕ) → not (bit_and (2 ^ n) m == 0) ≡ true → bit_at m n ≡ 1
set_bit m n h = by (bit_at m n) refl (bit_at-lt m n)
  where
    none : bit_at m n ≡ 0 → bit_and (2 ^ n) m ≡ 0
    none e = and_comm (2 ^ n) m ∙ (and_pow m n ∙ (ap (λ (x : ℕ). x * 2 ^ n) e ∙ omega arith))

    by : (x : ℕ) → bit_at m n ≡ x → x < 2 → bit_at m n ≡ 1
    by x e l = one (x == 0) refl
      where
        one : (v : Bool) → (x == 0) ≡ v → bit_at m n ≡ 1
        one true g = let zero : x ≡ 0 = grind (arith, nat_tests) in let never : not (bit_and (2 ^ n) m == 0) ≡ false = ap (λ (y : ℕ). not (y == 0)) (none (e ∙ zero)) in let no : false ≡ true = sym never ∙ h in cc
        one false g = let some : 0 < x = grind (arith, nat_tests) in e ∙ omega arith

with_bit : (m n i : ℕ) → bit_at m n ≡ 1 → max (bit_at m i) (bit_at (2 ^ n) i) ≡ bit_at m i
with_bit m n i e = by (i == n) refl
  where
    by : (v : Bool) → (i == n) ≡ v → max (bit_at m i) (bit_at (2 ^ n) i) ≡ bit_at m i
    by true g = let here : i ≡ n = grind (arith, nat_tests) in rw (here, bit_at-pow_same n, e) refl
    by false g = let other : (i ≡ n → ⊥) = λ h. let is : (i == n) ≡ true = grind (arith, nat_tests) in let no : false ≡ true = sym g ∙ is in cc in rw (bit_at-pow_other n i other) (omega arith)

pub has_adds_none : (m n : ℕ) → meets (opening n) m ≡ true → bit_or m (opening n) ≡ m
has_adds_none m n h = by (nat_lt n 320) refl
  where
    by : (v : Bool) → nat_lt n 320 ≡ v → bit_or m (opening n) ≡ m
    by true g =
        let is : opening n ≡ 2 ^ n = rw g refl in
        let bit : bit_at m n ≡ 1 = set_bit m n (ap (λ (x : ℕ). meets x m) (sym is) ∙ h) in
        ap (bit_or m) is ∙ same_from_bits _ _ (λ i. bit_at_or m (2 ^ n) i ∙ with_bit m n i bit)
    by false g = let is : opening n ≡ 0 = rw g refl in ap (bit_or m) is ∙ or_zero m

-- the marks of some with that of one that may be among them are those of the others with it
own_comes : (m n o : Marks) → bit_or m o ≡ bit_or n o → (x : Marks) → bit_or (bit_or x m) o ≡ bit_or (bit_or x n) o
own_comes m n o e x = sym (or_three x m o) ∙ (ap (bit_or x) e ∙ or_three x n o)

without_own : (same : (t x : Seat) → is_eq (seat_cmp t x) ≡ true → t ≡ x) (t : Seat) (xs : List Seat) → bit_or (marks_of xs) (opening t.mark) ≡ bit_or (marks_of (without t xs)) (opening t.mark)
without_own same t [] = refl
without_own same t (x ∷ xs) = by (is_eq (seat_cmp t x)) refl (without_own same t xs)
  where
    o : Marks
    o = opening t.mark

    by : (v : Bool) → is_eq (seat_cmp t x) ≡ v → bit_or (marks_of xs) o ≡ bit_or (marks_of (without t xs)) o → bit_or (bit_or (opening x.mark) (marks_of xs)) o ≡ bit_or (marks_of (cond (not v) (x ∷ without t xs) (without t xs))) o
    by true g ih =
        ap (λ (m : Marks). bit_or (bit_or m (marks_of xs)) o) (ap (λ (s : Seat). opening s.mark) (sym (same t x g)))
        ∙ (sym (or_three o (marks_of xs) o) ∙ (ap (bit_or o) (or_comm (marks_of xs) o) ∙ (or_three o o (marks_of xs) ∙ (ap (λ (m : Marks). bit_or m (marks_of xs)) (or_self o) ∙ (or_comm o (marks_of xs) ∙ ih)))))
    by false g ih = own_comes (marks_of xs) (marks_of (without t xs)) o ih (opening x.mark)

-- all have the marks of those that are left
both_with : (x m w : Marks) → bit_or m w ≡ m → bit_or (bit_or x m) (bit_or x w) ≡ bit_or x m
both_with x m w e = sym (or_three x m (bit_or x w)) ∙ (ap (bit_or x) (ap (bit_or m) (or_comm x w) ∙ or_three m w x ∙ ap (λ (n : Marks). bit_or n x) e ∙ or_comm m x) ∙ (or_three x x m ∙ ap (λ (n : Marks). bit_or n m) (or_self x)))

has_left : (t : Seat) (xs : List Seat) → bit_or (marks_of xs) (marks_of (without t xs)) ≡ marks_of xs
has_left t [] = or_zero 0
has_left t (x ∷ xs) = by (is_eq (seat_cmp t x)) (has_left t xs)
  where
    by : (v : Bool) → bit_or (marks_of xs) (marks_of (without t xs)) ≡ marks_of xs → bit_or (bit_or (opening x.mark) (marks_of xs)) (marks_of (cond (not v) (x ∷ without t xs) (without t xs))) ≡ bit_or (opening x.mark) (marks_of xs)
    by true ih = sym (or_three (opening x.mark) (marks_of xs) (marks_of (without t xs))) ∙ ap (bit_or (opening x.mark)) ih
    by false ih = both_with (opening x.mark) (marks_of xs) (marks_of (without t xs)) ih

-- where those that are left have the mark of a seat that goes, their marks are those of all
pub marks_kept : (same : (t x : Seat) → is_eq (seat_cmp t x) ≡ true → t ≡ x) (t : Seat) (xs : List Seat) → bit_or (marks_of (without t xs)) (opening t.mark) ≡ marks_of (without t xs) → marks_of (without t xs) ≡ marks_of xs
marks_kept same t xs h =
    let w = marks_of (without t xs) in
    let o = opening t.mark in
    sym h ∙ (sym (without_own same t xs) ∙ sym (sym (has_left t xs) ∙ (ap (bit_or (marks_of xs)) (sym h) ∙ (or_three (marks_of xs) w o ∙ ap (λ (m : Marks). bit_or m o) (has_left t xs)))))

-- ---- what sleeps

both : (a b : Bool) → (a && b) ≡ true → (a ≡ true) × (b ≡ true)
both true true h = (refl, refl)
both true false h = cc
both false b h = cc

asleep : (a b : Bool) → a ≡ true → b ≡ true → (a && b) ≡ true
asleep a b h k = rw (h, k) refl

closed_of : (b : Bool) → not b ≡ true → b ≡ false
closed_of true h = cc
closed_of false h = refl

-- where a seat and others sleep, by all their marks and their least time, it does and they do
pub all_sleep : (sight : Sight) (s : Seat) (xs : List Seat) → sleeps sight (marks_of (s ∷ xs)) (least_by (λ s. s.due) (s ∷ xs)) ≡ true → (sleeps sight (opening s.mark) s.due ≡ true) × (sleeps sight (marks_of xs) (least_by (λ s. s.due) xs) ≡ true)
all_sleep sight s xs h =
    let two = both (not (meets (marks_of (s ∷ xs)) sight.marks)) _ h in
    let none : meets sight.marks (bit_or (opening s.mark) (marks_of xs)) ≡ false = meets_same sight.marks (marks_of (s ∷ xs)) ∙ closed_of _ two.0 in
    let first : meets (opening s.mark) sight.marks ≡ false = meets_same (opening s.mark) sight.marks ∙ apart_first sight.marks (opening s.mark) (marks_of xs) none in
    let second : meets (marks_of xs) sight.marks ≡ false = meets_same (marks_of xs) sight.marks ∙ apart_second sight.marks (opening s.mark) (marks_of xs) none in
    let late = asleep_by sight.now s.due (least_by (λ s. s.due) xs) (nat_lt s.due (least_by (λ s. s.due) xs)) refl two.1 in
    (asleep _ _ (ap not first) late.0, asleep _ _ (ap not second) late.1)
