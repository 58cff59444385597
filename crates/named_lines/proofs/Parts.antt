-- Numbers, priorities and times in lines are told apart, whatever stands behind them.
use Rattle.std.proofs.Common.{◌≡◌, ◌∙◌, sym, refl, ap, subst, ℕ, suc, ◌+◌, ◌*◌, ◌/◌, ◌%◌, ◌<◌, ◌≤◌, ◌^◌, ◌⊎◌, inl, inr, ℤ, pos, negsuc, List, [], ◌∷◌, ◌++◌, codes, Bool, true, false, ◌==◌, arith, append_assoc, get_or, length, drop}
use Rattle.std.proofs.lemmas.Bool.Decides.{nat_tests}
use Rattle.std.proofs.lemmas.Fmt.{decimal_by_steps, decimal_injective, decimal_digit}
use Rattle.std.proofs.lemmas.List.{append_cancel_left}
use Rattle.std.specs.Prelude.{if◌then◌else◌}
use Rattle.std.specs.Fmt.{decimal, signed_decimal}
use Rattle.std.specs.List.{list_all}
use Rattle.run_names.specs.Text.{is_plain}
use Rattle.named_lines.specs.Lines.{priority_text, depth_text, part_text, milliseconds_text}
use Rattle.named_lines.specs.Alike.{SignedFits}
use Rattle.run_names.proofs.Peel.{Ends, peel_plain, peel_decimal, plain_decimal, tail_of}

-- ---- numbers with a sign

-- digits stand in a number alone
pub record BeginsDigit (t : List ℕ) : Type 0 where
  pub some : 0 < length t
  pub low : 48 ≤ get_or t 0 0
  pub high : get_or t 0 0 ≤ 57

behind : (ds : List ℕ) (x : ℕ) → BeginsDigit ds → BeginsDigit (ds ++ x ∷ [])
behind [] x b = absurd (omega (arith, b.some))
behind (d ∷ ds) x b = record { some = omega arith; low = b.low; high = b.high }

pub begins_digit : (n : ℕ) → n < 2 ^ 64 → BeginsDigit (decimal n)
begins_digit n h = decimal_by_steps (λ n ds. BeginsDigit ds) (λ n h. record { some = omega arith; low = omega (arith, h); high = omega (arith, h) }) (λ n ds h ih. behind ds (48 + n % 10) ih) n h

plain_signed : (z : ℤ) → SignedFits z → list_all is_plain (signed_decimal z) ≡ true
plain_signed (pos n) h = plain_decimal n h
plain_signed (negsuc n) h = plain_decimal (suc n) h

signed_same : (y z : ℤ) → SignedFits y → SignedFits z → signed_decimal y ≡ signed_decimal z → y ≡ z
signed_same (pos m) (pos n) p q e = ap pos (decimal_injective m n p q e)
signed_same (pos m) (negsuc n) p q e = let bad : get_or (decimal m) 0 0 ≡ 45 = ap (λ t. get_or t 0 0) e in absurd (omega (arith, bad, (begins_digit m p).low))
signed_same (negsuc m) (pos n) p q e = let bad : 45 ≡ get_or (decimal n) 0 0 = ap (λ t. get_or t 0 0) e in absurd (omega (arith, bad, (begins_digit n q).low))
signed_same (negsuc m) (negsuc n) p q e = let same = decimal_injective (suc m) (suc n) p q (tail_of 45 45 (decimal (suc m)) (decimal (suc n)) e) in let h : m ≡ n = omega (arith, same) in ap negsuc h

pub peel_signed : (y z : ℤ) (r s : List ℕ) → SignedFits y → SignedFits z → Ends r → Ends s → signed_decimal y ++ r ≡ signed_decimal z ++ s → (y ≡ z) × (r ≡ s)
peel_signed y z r s p q f g e = let both = peel_plain (signed_decimal y) (signed_decimal z) r s (plain_signed y p) (plain_signed z q) f g e in (signed_same y z p q both.0, both.1)

-- ---- priorities

-- the priority of a word, by its length
abbrev back : ℕ → ℤ
back n = if n == 7 then pos 0 else (if n == 9 then pos 100 else (if n == 12 then pos 200 else (if n == 3 then pos 300 else negsuc 99)))

-- what a priority is told as: one of five words, or its number
pub record IsWord (p : ℤ) : Type 0 where
  pub again : p ≡ back (length (priority_text p))
  pub letter : 58 ≤ get_or (priority_text p) 0 0
  pub plain : list_all is_plain (priority_text p) ≡ true

told_as : (p : ℤ) → IsWord p ⊎ (priority_text p ≡ signed_decimal p)
told_as (pos n) = by (n == 0) (n == 100) (n == 200) (n == 300) refl refl refl refl
  where
    is : (k : ℕ) → (n == k) ≡ true → k ≡ n
    is k h = grind (arith, nat_tests)

    by : (a b c d : Bool) → (n == 0) ≡ a → (n == 100) ≡ b → (n == 200) ≡ c → (n == 300) ≡ d → IsWord (pos n) ⊎ (priority_text (pos n) ≡ signed_decimal (pos n))
    by true b c d x y z w = inl (subst (λ k. IsWord (pos k)) (is 0 x) (record { again = refl; letter = omega arith; plain = refl }))
    by false true c d x y z w = inl (subst (λ k. IsWord (pos k)) (is 100 y) (record { again = refl; letter = omega arith; plain = refl }))
    by false false true d x y z w = inl (subst (λ k. IsWord (pos k)) (is 200 z) (record { again = refl; letter = omega arith; plain = refl }))
    by false false false true x y z w = inl (subst (λ k. IsWord (pos k)) (is 300 w) (record { again = refl; letter = omega arith; plain = refl }))
    by false false false false x y z w = inr (λ i. if x i then codes "DEFAULT" else (if y i then codes "HIGH_IDLE" else (if z i then codes "DEFAULT_IDLE" else (if w i then codes "LOW" else decimal n))))
told_as (negsuc n) = by (n == 99) refl
  where
    is : (k : ℕ) → (n == k) ≡ true → k ≡ n
    is k h = grind (arith, nat_tests)

    by : (a : Bool) → (n == 99) ≡ a → IsWord (negsuc n) ⊎ (priority_text (negsuc n) ≡ signed_decimal (negsuc n))
    by true x = inl (subst (λ k. IsWord (negsuc k)) (is 99 x) (record { again = refl; letter = omega arith; plain = refl }))
    by false x = inr (λ i. if x i then codes "HIGH" else signed_decimal (negsuc n))

-- no number begins with a letter
no_letter : (z : ℤ) → SignedFits z → get_or (signed_decimal z) 0 0 ≤ 57
no_letter (pos n) h = (begins_digit n h).high
no_letter (negsuc n) h = omega arith

priority_plain : (p : ℤ) → SignedFits p → IsWord p ⊎ (priority_text p ≡ signed_decimal p) → list_all is_plain (priority_text p) ≡ true
priority_plain p h (inl w) = w.plain
priority_plain p h (inr e) = ap (list_all is_plain) e ∙ plain_signed p h

priority_same : (p q : ℤ) → SignedFits p → SignedFits q → IsWord p ⊎ (priority_text p ≡ signed_decimal p) → IsWord q ⊎ (priority_text q ≡ signed_decimal q) → priority_text p ≡ priority_text q → p ≡ q
priority_same p q h k (inl w) (inl v) e = w.again ∙ ap (λ t. back (length t)) e ∙ sym v.again
priority_same p q h k (inl w) (inr v) e =
    let low : get_or (priority_text p) 0 0 ≤ 57 = subst (λ t. get_or t 0 0 ≤ 57) (sym (e ∙ v)) (no_letter q k) in
    let high = w.letter in
    absurd (omega (arith, low, high))
priority_same p q h k (inr w) (inl v) e =
    let low : get_or (priority_text q) 0 0 ≤ 57 = subst (λ t. get_or t 0 0 ≤ 57) (sym (sym e ∙ w)) (no_letter p h) in
    let high = v.letter in
    absurd (omega (arith, low, high))
priority_same p q h k (inr w) (inr v) e = signed_same p q h k (sym w ∙ e ∙ v)

pub peel_priority : (p q : ℤ) (r s : List ℕ) → SignedFits p → SignedFits q → Ends r → Ends s → priority_text p ++ r ≡ priority_text q ++ s → (p ≡ q) × (r ≡ s)
peel_priority p q r s h k f g e =
    let both = peel_plain (priority_text p) (priority_text q) r s (priority_plain p h (told_as p)) (priority_plain q k (told_as q)) f g e in
    (priority_same p q h k (told_as p) (told_as q) both.0, both.1)

-- ---- depths

depth_one : (d : ℕ) → (d == 1) ≡ true → d ≡ 1
depth_one d h = grind (arith, nat_tests)

depth_by : (a b : Bool) (m n : ℕ) (r s : List ℕ) → (m == 1) ≡ a → (n == 1) ≡ b → m < 2 ^ 64 → n < 2 ^ 64
    → (if a then [] else codes ", depth " ++ decimal m) ++ 41 ∷ r ≡ (if b then [] else codes ", depth " ++ decimal n) ++ 41 ∷ s → (m ≡ n) × (r ≡ s)
depth_by true true m n r s x y p q e = (depth_one m x ∙ sym (depth_one n y), tail_of 41 41 r s e)
depth_by true false m n r s x y p q e = let bad : 41 ≡ 44 = ap (λ t. get_or t 0 0) e in absurd (omega (arith, bad))
depth_by false true m n r s x y p q e = let bad : 44 ≡ 41 = ap (λ t. get_or t 0 0) e in absurd (omega (arith, bad))
depth_by false false m n r s x y p q e =
    let both = peel_decimal m n (41 ∷ r) (41 ∷ s) p q refl refl (append_cancel_left (codes ", depth ") (decimal m ++ 41 ∷ r) (decimal n ++ 41 ∷ s) e) in
    (both.0, tail_of 41 41 r s both.1)

-- a depth in front of a bracket
pub peel_depth : (m n : ℕ) (r s : List ℕ) → m < 2 ^ 64 → n < 2 ^ 64 → depth_text m ++ 41 ∷ r ≡ depth_text n ++ 41 ∷ s → (m ≡ n) × (r ≡ s)
peel_depth m n r s p q e = depth_by (m == 1) (n == 1) m n r s refl refl p q e

-- ---- times

-- the digits behind the point, by how many there are
data Shape (p : ℕ) : List ℕ → Type 0 where
  none : p ≡ 0 → Shape p []
  tenths : (a : ℕ) → p ≡ 100 * a → Shape p (46 ∷ (48 + a) ∷ [])
  hundredths : (a b : ℕ) → p ≡ 100 * a + 10 * b → b < 10 → Shape p (46 ∷ (48 + a) ∷ (48 + b) ∷ [])
  all : (a b c : ℕ) → p ≡ 100 * a + 10 * b + c → b < 10 → c < 10 → Shape p (46 ∷ (48 + a) ∷ (48 + b) ∷ (48 + c) ∷ [])

shape_of : (p : ℕ) → p < 1000 → Shape p (part_text p)
shape_of p h = by (p == 0) (p % 100 == 0) (p % 10 == 0) refl refl refl
  where
    is : (m : ℕ) → (m == 0) ≡ true → m ≡ 0
    is m x = grind (arith, nat_tests)

    digit : (d : ℕ) → d < 10 → decimal d ≡ (48 + d) ∷ []
    digit d x = decimal_digit d x

    first : decimal (p / 100) ≡ (48 + p / 100) ∷ []
    first = digit (p / 100) (omega (arith, h))

    second : decimal (p / 10 % 10) ≡ (48 + p / 10 % 10) ∷ []
    second = digit (p / 10 % 10) (omega arith)

    third : decimal (p % 10) ≡ (48 + p % 10) ∷ []
    third = digit (p % 10) (omega arith)

    by : (a b c : Bool) → (p == 0) ≡ a → (p % 100 == 0) ≡ b → (p % 10 == 0) ≡ c → Shape p (part_text p)
    by true b c x y z = subst (Shape p) (sym (ap (λ k. if k then [] else (if p % 100 == 0 then codes "." ++ decimal (p / 100) else (if p % 10 == 0 then codes "." ++ (decimal (p / 100) ++ decimal (p / 10 % 10)) else codes "." ++ (decimal (p / 100) ++ (decimal (p / 10 % 10) ++ decimal (p % 10)))))) x)) (none (is p x))
    by false true c x y z =
        let zero : p % 100 ≡ 0 = is (p % 100) y in
        let text : part_text p ≡ 46 ∷ (48 + p / 100) ∷ [] = (λ i. if x i then [] else (if y i then codes "." ++ first i else (if p % 10 == 0 then codes "." ++ (decimal (p / 100) ++ decimal (p / 10 % 10)) else codes "." ++ (decimal (p / 100) ++ (decimal (p / 10 % 10) ++ decimal (p % 10)))))) in
        subst (Shape p) (sym text) (tenths (p / 100) (omega (arith, zero)))
    by false false true x y z =
        let zero : p % 10 ≡ 0 = is (p % 10) z in
        let text : part_text p ≡ 46 ∷ (48 + p / 100) ∷ (48 + p / 10 % 10) ∷ [] = (λ i. if x i then [] else (if y i then codes "." ++ decimal (p / 100) else (if z i then codes "." ++ (first i ++ second i) else codes "." ++ (decimal (p / 100) ++ (decimal (p / 10 % 10) ++ decimal (p % 10)))))) in
        subst (Shape p) (sym text) (hundredths (p / 100) (p / 10 % 10) (omega (arith, zero)) (omega arith))
    by false false false x y z =
        let text : part_text p ≡ 46 ∷ (48 + p / 100) ∷ (48 + p / 10 % 10) ∷ (48 + p % 10) ∷ [] = (λ i. if x i then [] else (if y i then codes "." ++ decimal (p / 100) else (if z i then codes "." ++ (decimal (p / 100) ++ decimal (p / 10 % 10)) else codes "." ++ (first i ++ (second i ++ third i))))) in
        subst (Shape p) (sym text) (all (p / 100) (p / 10 % 10) (p % 10) (omega arith) (omega arith) (omega arith))

at : (k : ℕ) (t u : List ℕ) → t ≡ u → get_or t k 0 ≡ get_or u k 0
at k t u e = ap (λ l. get_or l k 0) e

peel_shape : (p q : ℕ) (t u : List ℕ) → Shape p t → Shape q u → (r s : List ℕ) → t ++ 32 ∷ r ≡ u ++ 32 ∷ s → (p ≡ q) × (r ≡ s)
peel_shape p q t u (none x) (none y) r s e = (x ∙ sym y, ap (drop 1) e)
peel_shape p q t u (none x) (tenths a y) r s e = let bad : 32 ≡ 46 = ap (λ l. get_or l 0 0) e in absurd (omega (arith, bad))
peel_shape p q t u (none x) (hundredths a b y m) r s e = let bad : 32 ≡ 46 = ap (λ l. get_or l 0 0) e in absurd (omega (arith, bad))
peel_shape p q t u (none x) (all a b c y m n) r s e = let bad : 32 ≡ 46 = ap (λ l. get_or l 0 0) e in absurd (omega (arith, bad))
peel_shape p q t u (tenths a x) (none y) r s e = let bad : 46 ≡ 32 = ap (λ l. get_or l 0 0) e in absurd (omega (arith, bad))
peel_shape p q t u (tenths a x) (tenths b y) r s e = let h : 48 + a ≡ 48 + b = ap (λ l. get_or l 1 0) e in (omega (arith, x, y, h), ap (drop 3) e)
peel_shape p q t u (tenths a x) (hundredths b c y m) r s e = let bad : 32 ≡ 48 + c = ap (λ l. get_or l 2 0) e in absurd (omega (arith, bad))
peel_shape p q t u (tenths a x) (all b c d y m n) r s e = let bad : 32 ≡ 48 + c = ap (λ l. get_or l 2 0) e in absurd (omega (arith, bad))
peel_shape p q t u (hundredths a b x m) (none y) r s e = let bad : 46 ≡ 32 = ap (λ l. get_or l 0 0) e in absurd (omega (arith, bad))
peel_shape p q t u (hundredths a b x m) (tenths c y) r s e = let bad : 48 + b ≡ 32 = ap (λ l. get_or l 2 0) e in absurd (omega (arith, bad))
peel_shape p q t u (hundredths a b x m) (hundredths c d y n) r s e =
    let h : 48 + a ≡ 48 + c = ap (λ l. get_or l 1 0) e in
    let k : 48 + b ≡ 48 + d = ap (λ l. get_or l 2 0) e in
    (omega (arith, x, y, h, k), ap (drop 4) e)
peel_shape p q t u (hundredths a b x m) (all c d g y n o) r s e = let bad : 32 ≡ 48 + g = ap (λ l. get_or l 3 0) e in absurd (omega (arith, bad))
peel_shape p q t u (all a b c x m n) (none y) r s e = let bad : 46 ≡ 32 = ap (λ l. get_or l 0 0) e in absurd (omega (arith, bad))
peel_shape p q t u (all a b c x m n) (tenths d y) r s e = let bad : 48 + b ≡ 32 = ap (λ l. get_or l 2 0) e in absurd (omega (arith, bad))
peel_shape p q t u (all a b c x m n) (hundredths d g y o) r s e = let bad : 48 + c ≡ 32 = ap (λ l. get_or l 3 0) e in absurd (omega (arith, bad))
peel_shape p q t u (all a b c x m n) (all d g i y o k) r s e =
    let h : 48 + a ≡ 48 + d = ap (λ l. get_or l 1 0) e in
    let j : 48 + b ≡ 48 + g = ap (λ l. get_or l 2 0) e in
    let l : 48 + c ≡ 48 + i = ap (λ l. get_or l 3 0) e in
    (omega (arith, x, y, h, j, l), ap (drop 5) e)

-- a part ends a number of milliseconds
ends_shape : (p : ℕ) (t : List ℕ) → Shape p t → (r : List ℕ) → Ends (t ++ 32 ∷ r)
ends_shape p t (none x) r = refl
ends_shape p t (tenths a x) r = refl
ends_shape p t (hundredths a b x m) r = refl
ends_shape p t (all a b c x m n) r = refl

-- a time in front of a space
pub peel_milliseconds : (us vs : ℕ) (r s : List ℕ) → us < 2 ^ 64 → vs < 2 ^ 64 → milliseconds_text us ++ 32 ∷ r ≡ milliseconds_text vs ++ 32 ∷ s → (us ≡ vs) × (r ≡ s)
peel_milliseconds us vs r s p q e =
    let a = shape_of (us % 1000) (omega arith) in
    let b = shape_of (vs % 1000) (omega arith) in
    let opened = sym (append_assoc (decimal (us / 1000)) (part_text (us % 1000)) (32 ∷ r)) ∙ e ∙ append_assoc (decimal (vs / 1000)) (part_text (vs % 1000)) (32 ∷ s) in
    let whole = peel_decimal (us / 1000) (vs / 1000) (part_text (us % 1000) ++ 32 ∷ r) (part_text (vs % 1000) ++ 32 ∷ s) (omega (arith, p)) (omega (arith, q)) (ends_shape (us % 1000) (part_text (us % 1000)) a r) (ends_shape (vs % 1000) (part_text (vs % 1000)) b s) opened in
    let part = peel_shape (us % 1000) (vs % 1000) (part_text (us % 1000)) (part_text (vs % 1000)) a b r s whole.1 in
    let h = whole.0 in
    let k = part.0 in
    (omega (arith, h, k), part.1)
