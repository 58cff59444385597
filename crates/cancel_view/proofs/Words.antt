-- The words of sets of marks: those of two sets together, of what two have in common, and of one mark.
use Rattle.std.proofs.Common.{◌≡◌, ℕ, zero, suc, ◌+◌, ◌/◌, ◌%◌, ◌<◌, ◌≤◌, ◌^◌, ◌==◌, nat_lt, not, cond, Bool, true, false, refl, ap, sym, ◌∙◌, arith}
use Rattle.std.proofs.lemmas.Bool.Decides.{nat_tests}
use Rattle.std.proofs.Math.Pow.{pow-lt}
use Rattle.std.specs.Int.Bits.{and_zero_r, or_zero_r}
use Rattle.std.specs.Prelude.{bit_and, bit_or}
use Rattle.std.proofs.lemmas.Nat.{or_block, and_block, or_lt, le_or_l, le_or_r, pow-add}
use Rattle.cancel_view.specs.declared.marks.Marks.TheInside.{Inside}
use Rattle.cancel_view.specs.Marks.{opening, meets}
use Rattle.cancel_view.specs.Words.{word_end, over, in_words, AreWords}
use Rattle.cancel_view.proofs.Marked.{some_by, zero_and}

-- the words of both
abbrev pub together : Inside → Inside → Inside
together a b = record { first = bit_or a.first b.first; second = bit_or a.second b.second; third = bit_or a.third b.third; fourth = bit_or a.fourth b.fourth; fifth = bit_or a.fifth b.fifth }

-- the words of what both have
abbrev pub common : Inside → Inside → Inside
common a b = record { first = bit_and a.first b.first; second = bit_and a.second b.second; third = bit_and a.third b.third; fourth = bit_and a.fourth b.fourth; fifth = bit_and a.fifth b.fifth }

pub or_words : (a b : Inside) → AreWords a → AreWords b → in_words (together a b) ≡ bit_or (in_words a) (in_words b)
or_words a b h k =
    let over_or : (x u y v : ℕ) → u < word_end → v < word_end → bit_or (over x u) (over y v) ≡ over (bit_or x y) (bit_or u v) = λ x u y v p q. or_block 64 x y u v p q in
    let a3 = over a.fifth a.fourth in
    let b3 = over b.fifth b.fourth in
    let a2 = over a3 a.third in
    let b2 = over b3 b.third in
    let a1 = over a2 a.second in
    let b1 = over b2 b.second in
    sym (over_or a1 a.first b1 b.first h.0 k.0
    ∙ ap (λ (n : ℕ). over n (bit_or a.first b.first)) (over_or a2 a.second b2 b.second h.1 k.1
    ∙ ap (λ (n : ℕ). over n (bit_or a.second b.second)) (over_or a3 a.third b3 b.third h.2 k.2
    ∙ ap (λ (n : ℕ). over n (bit_or a.third b.third)) (over_or a.fifth a.fourth b.fifth b.fourth h.3 k.3))))

pub and_words : (a b : Inside) → AreWords a → AreWords b → in_words (common a b) ≡ bit_and (in_words a) (in_words b)
and_words a b h k =
    let over_and : (x u y v : ℕ) → u < word_end → v < word_end → bit_and (over x u) (over y v) ≡ over (bit_and x y) (bit_and u v) = λ x u y v p q. and_block 64 x y u v p q in
    let a3 = over a.fifth a.fourth in
    let b3 = over b.fifth b.fourth in
    let a2 = over a3 a.third in
    let b2 = over b3 b.third in
    let a1 = over a2 a.second in
    let b1 = over b2 b.second in
    sym (over_and a1 a.first b1 b.first h.0 k.0
    ∙ ap (λ (n : ℕ). over n (bit_and a.first b.first)) (over_and a2 a.second b2 b.second h.1 k.1
    ∙ ap (λ (n : ℕ). over n (bit_and a.second b.second)) (over_and a3 a.third b3 b.third h.2 k.2
    ∙ ap (λ (n : ℕ). over n (bit_and a.third b.third)) (over_and a.fifth a.fourth b.fifth b.fourth h.3 k.3))))

pub or_word : (a b : ℕ) → a < word_end → b < word_end → bit_or a b < word_end
or_word a b h k = or_lt 64 a b h k

pub bit_word : (n : ℕ) → 2 ^ (n % 64) < word_end
bit_word n = pow-lt (let l : n % 64 < 64 = omega arith in l)

-- ---- one mark

-- the words of which one has a number
abbrev pub alone : (place word : ℕ) → Inside
alone place word = record {
  first = cond (place == 0) word 0;
  second = cond (place == 1) word 0;
  third = cond (place == 2) word 0;
  fourth = cond (place == 3) word 0;
  fifth = cond (place == 4) word 0;
}

cond_word : (b : Bool) (word : ℕ) → word < word_end → cond b word 0 < word_end
cond_word true word h = h
cond_word false word h = omega arith

pub alone_words : (place word : ℕ) → word < word_end → AreWords (alone place word)
alone_words place word h = (cond_word (place == 0) word h, cond_word (place == 1) word h, cond_word (place == 2) word h, cond_word (place == 3) word h, cond_word (place == 4) word h)

above : (k : ℕ) → 2 ^ (k + 64) ≡ over (2 ^ k) 0
above k = pow-add 2 k 64 ∙ omega arith

below : (n : ℕ) → nat_lt n 320 ≡ true → opening n ≡ 2 ^ n
below n h = rw h refl

in_place : (n place : ℕ) → n / 64 ≡ place → place < 5 → nat_lt n 320 ≡ true
in_place n place e h = let l : n < 320 = omega arith in grind (arith, nat_tests, l)

-- the words of the mark of a number
pub opening_words : (n place : ℕ) → n / 64 ≡ place → place < 5 → opening n ≡ in_words (alone place (2 ^ (n % 64)))
opening_words n place e h = below n (in_place n place e h) ∙ by place e h
  where
    j : ℕ
    j = n % 64

    at : (m : ℕ) → n ≡ m → 2 ^ n ≡ 2 ^ m
    at m k = ap (λ (i : ℕ). 2 ^ i) k

    one : 2 ^ (j + 64) ≡ over (2 ^ j) 0
    one = above j

    two : 2 ^ (j + 64 + 64) ≡ over (over (2 ^ j) 0) 0
    two = above (j + 64) ∙ ap (λ (i : ℕ). over i 0) one

    three : 2 ^ (j + 64 + 64 + 64) ≡ over (over (over (2 ^ j) 0) 0) 0
    three = above (j + 64 + 64) ∙ ap (λ (i : ℕ). over i 0) two

    by : (place : ℕ) → n / 64 ≡ place → place < 5 → 2 ^ n ≡ in_words (alone place (2 ^ j))
    by zero e h = at j (omega arith) ∙ omega arith
    by (suc zero) e h = at (j + 64) (omega arith) ∙ (one ∙ omega arith)
    by (suc (suc zero)) e h = at (j + 64 + 64) (omega arith) ∙ (two ∙ omega arith)
    by (suc (suc (suc zero))) e h = at (j + 64 + 64 + 64) (omega arith) ∙ (three ∙ omega arith)
    by (suc (suc (suc (suc zero)))) e h = at (j + 64 + 64 + 64 + 64) (omega arith) ∙ (above (j + 64 + 64 + 64) ∙ ap (λ (i : ℕ). over i 0) three)
    by (suc (suc (suc (suc (suc k))))) e h = absurd (omega arith)

-- a number behind all words opens nothing
pub opening_none : (n : ℕ) → 5 ≤ n / 64 → opening n ≡ 0
opening_none n h = let no : nat_lt n 320 ≡ false = let l : 320 ≤ n = omega arith in grind (arith, nat_tests, l) in rw no refl

-- the words with one mark more
pub with_mark : (m : Inside) (n place : ℕ) → AreWords m → n / 64 ≡ place → place < 5 → in_words (together m (alone place (2 ^ (n % 64)))) ≡ bit_or (in_words m) (opening n)
with_mark m n place h e k = or_words m (alone place (2 ^ (n % 64))) h (alone_words place (2 ^ (n % 64)) (bit_word n)) ∙ ap (bit_or (in_words m)) (sym (opening_words n place e k))

pub with_first : (m : Inside) (n : ℕ) → AreWords m → n / 64 ≡ 0 → in_words (record m { first = bit_or m.first (2 ^ (n % 64)) }) ≡ bit_or (in_words m) (opening n)
with_first m n h e = rw (← with_mark m n 0 h e (omega arith), or_zero_r m.second, or_zero_r m.third, or_zero_r m.fourth, or_zero_r m.fifth) refl

pub with_second : (m : Inside) (n : ℕ) → AreWords m → n / 64 ≡ 1 → in_words (record m { second = bit_or m.second (2 ^ (n % 64)) }) ≡ bit_or (in_words m) (opening n)
with_second m n h e = rw (← with_mark m n 1 h e (omega arith), or_zero_r m.first, or_zero_r m.third, or_zero_r m.fourth, or_zero_r m.fifth) refl

pub with_third : (m : Inside) (n : ℕ) → AreWords m → n / 64 ≡ 2 → in_words (record m { third = bit_or m.third (2 ^ (n % 64)) }) ≡ bit_or (in_words m) (opening n)
with_third m n h e = rw (← with_mark m n 2 h e (omega arith), or_zero_r m.first, or_zero_r m.second, or_zero_r m.fourth, or_zero_r m.fifth) refl

pub with_fourth : (m : Inside) (n : ℕ) → AreWords m → n / 64 ≡ 3 → in_words (record m { fourth = bit_or m.fourth (2 ^ (n % 64)) }) ≡ bit_or (in_words m) (opening n)
with_fourth m n h e = rw (← with_mark m n 3 h e (omega arith), or_zero_r m.first, or_zero_r m.second, or_zero_r m.third, or_zero_r m.fifth) refl

pub with_fifth : (m : Inside) (n : ℕ) → AreWords m → n / 64 ≡ 4 → in_words (record m { fifth = bit_or m.fifth (2 ^ (n % 64)) }) ≡ bit_or (in_words m) (opening n)
with_fifth m n h e = rw (← with_mark m n 4 h e (omega arith), or_zero_r m.first, or_zero_r m.second, or_zero_r m.third, or_zero_r m.fourth) refl

-- ---- whether there is any

same_test : (n m : ℕ) → (n ≡ 0 → m ≡ 0) → (m ≡ 0 → n ≡ 0) → not (n == 0) ≡ not (m == 0)
same_test n m f g = by n m f g
  where
    by : (n m : ℕ) → (n ≡ 0 → m ≡ 0) → (m ≡ 0 → n ≡ 0) → not (n == 0) ≡ not (m == 0)
    by zero m f g = rw (f refl) refl
    by (suc n) zero f g = let no = g refl in cc
    by (suc n) (suc m) f g = some_by (suc n) (omega arith) ∙ sym (some_by (suc m) (omega arith))

or_none : (a b : ℕ) → bit_or a b ≡ 0 → (a ≡ 0) × (b ≡ 0)
or_none a b e = (omega (arith, le_or_l a b, e), omega (arith, le_or_r a b, e))

-- a word of five together is zero where all are
pub any_word : (m : Inside) → not (bit_or (bit_or (bit_or (bit_or m.first m.second) m.third) m.fourth) m.fifth == 0) ≡ not (in_words m == 0)
any_word m = same_test (bit_or (bit_or (bit_or (bit_or m.first m.second) m.third) m.fourth) m.fifth) (in_words m) all none
  where
    all : bit_or (bit_or (bit_or (bit_or m.first m.second) m.third) m.fourth) m.fifth ≡ 0 → in_words m ≡ 0
    all e =
        let five = or_none (bit_or (bit_or (bit_or m.first m.second) m.third) m.fourth) m.fifth e in
        let four = or_none (bit_or (bit_or m.first m.second) m.third) m.fourth five.0 in
        let three = or_none (bit_or m.first m.second) m.third four.0 in
        let two = or_none m.first m.second three.0 in
        rw (two.0, two.1, three.1, four.1, five.1) refl

    none : in_words m ≡ 0 → bit_or (bit_or (bit_or (bit_or m.first m.second) m.third) m.fourth) m.fifth ≡ 0
    none e =
        let first : m.first ≡ 0 = omega (arith, e) in
        let second : m.second ≡ 0 = omega (arith, e) in
        let third : m.third ≡ 0 = omega (arith, e) in
        let fourth : m.fourth ≡ 0 = omega (arith, e) in
        let fifth : m.fifth ≡ 0 = omega (arith, e) in
        rw (first, second, third, fourth, fifth) refl

pub meets_words : (a b : Inside) → AreWords a → AreWords b → not (bit_or (bit_or (bit_or (bit_or (bit_and a.first b.first) (bit_and a.second b.second)) (bit_and a.third b.third)) (bit_and a.fourth b.fourth)) (bit_and a.fifth b.fifth) == 0) ≡ meets (in_words a) (in_words b)
meets_words a b h k = any_word (common a b) ∙ ap (λ (n : ℕ). not (n == 0)) (and_words a b h k)

-- the word in a place
abbrev pub word_at : ℕ → Inside → ℕ
word_at place m = cond (place == 0) m.first (cond (place == 1) m.second (cond (place == 2) m.third (cond (place == 3) m.fourth m.fifth)))

one_word : (place x : ℕ) (m : Inside) → place < 5 → in_words (common (alone place x) m) ≡ in_words (alone place (bit_and x (word_at place m)))
one_word zero x m h = rw (zero_and m.second, zero_and m.third, zero_and m.fourth, zero_and m.fifth) refl
one_word (suc zero) x m h = rw (zero_and m.first, zero_and m.third, zero_and m.fourth, zero_and m.fifth) refl
one_word (suc (suc zero)) x m h = rw (zero_and m.first, zero_and m.second, zero_and m.fourth, zero_and m.fifth) refl
one_word (suc (suc (suc zero))) x m h = rw (zero_and m.first, zero_and m.second, zero_and m.third, zero_and m.fifth) refl
one_word (suc (suc (suc (suc zero)))) x m h = rw (zero_and m.first, zero_and m.second, zero_and m.third, zero_and m.fourth) refl
one_word (suc (suc (suc (suc (suc k))))) x m h = absurd (omega arith)

any_alone : (place x : ℕ) → place < 5 → not (x == 0) ≡ not (in_words (alone place x) == 0)
any_alone zero x h = same_test x _ (λ e. omega (arith, e)) (λ e. omega (arith, e))
any_alone (suc zero) x h = same_test x _ (λ e. omega (arith, e)) (λ e. omega (arith, e))
any_alone (suc (suc zero)) x h = same_test x _ (λ e. omega (arith, e)) (λ e. omega (arith, e))
any_alone (suc (suc (suc zero))) x h = same_test x _ (λ e. omega (arith, e)) (λ e. omega (arith, e))
any_alone (suc (suc (suc (suc zero)))) x h = same_test x _ (λ e. omega (arith, e)) (λ e. omega (arith, e))
any_alone (suc (suc (suc (suc (suc k))))) x h = absurd (omega arith)

-- the mark of a number is among others where the word in its place has it
pub has_word : (m : Inside) (n place : ℕ) → AreWords m → n / 64 ≡ place → place < 5 → not (bit_and (2 ^ (n % 64)) (word_at place m) == 0) ≡ meets (opening n) (in_words m)
has_word m n place h e k =
    let bit = 2 ^ (n % 64) in
    any_alone place (bit_and bit (word_at place m)) k
    ∙ ap (λ (i : ℕ). not (i == 0)) (sym (one_word place bit m k) ∙ (and_words (alone place bit) m (alone_words place bit (bit_word n)) h ∙ ap (λ (i : ℕ). bit_and i (in_words m)) (sym (opening_words n place e k))))

-- no mark is among any, nor is one in no word
pub has_none : (bit marks : ℕ) → not (bit_and bit 0 == 0) ≡ meets 0 marks
has_none bit marks = ap (λ (n : ℕ). not (n == 0)) (and_zero_r bit ∙ sym (zero_and marks))
