-- What is told of the things of a run is told apart, whatever stands behind it.
use Rattle.std.proofs.Common.{◌≡◌, ◌∙◌, sym, refl, ap, ℕ, ◌+◌, ◌<◌, ◌^◌, List, [], ◌∷◌, ◌++◌, Bool, true, false, ◌&&◌, ◌%◌, arith, append_assoc, get_or, unwrap_or}
use Rattle.std.proofs.lemmas.Bool.{true≢false}
use Rattle.std.proofs.lemmas.Bool.Decides.{nat_tests}
use Rattle.std.proofs.lemmas.Fmt.{decimal_injective, decimal_by_steps}
use Rattle.std.proofs.lemmas.List.{append_cancel_left}
use Rattle.std.proofs.lemmas.List.Folds.{list_all-append}
use Rattle.std.specs.Prelude.{if◌then◌else◌}
use Rattle.std.specs.Fmt.{decimal}
use Rattle.std.specs.List.{list_all}
use Rattle.json.specs.Print.{quoted, escape}
use Rattle.json.specs.Text.{content, plain}
use Rattle.json.proofs.Printed.Strings.{content-escape}
use Rattle.run_names.specs.Text.{is_plain, is_bare, name_text}

-- what may stand behind a name: nothing that could be of it
abbrev pub Ends : List ℕ → Type 0
Ends [] = Unit {0}
Ends (b ∷ bs) = is_plain b ≡ false

head_of : (x y : ℕ) (xs ys : List ℕ) → x ∷ xs ≡ y ∷ ys → x ≡ y
head_of x y xs ys e = ap (λ l. get_or l 0 0) e

pub tail_of : (x y : ℕ) (xs ys : List ℕ) → x ∷ xs ≡ y ∷ ys → xs ≡ ys
tail_of x y xs ys e = grind (arith, e)

both_true : (a b : Bool) → (a && b) ≡ true → (a ≡ true) × (b ≡ true)
both_true true b e = (refl, e)
both_true false b e = absurd (true≢false (sym e))

-- what is plain is told apart from what is plain, up to what is not
pub peel_plain : (a b r s : List ℕ) → list_all is_plain a ≡ true → list_all is_plain b ≡ true → Ends r → Ends s → a ++ r ≡ b ++ s → (a ≡ b) × (r ≡ s)
peel_plain [] [] r s p q f g e = (refl, e)
peel_plain [] (y ∷ b) [] s p q f g e = absurd (grind (arith, e))
peel_plain [] (y ∷ b) (x ∷ r) s p q f g e =
    let h = head_of x y r (b ++ s) e in
    absurd (true≢false (sym (both_true (is_plain y) (list_all is_plain b) q).0 ∙ ap is_plain (sym h) ∙ f))
peel_plain (x ∷ a) [] r [] p q f g e = absurd (grind (arith, e))
peel_plain (x ∷ a) [] r (y ∷ s) p q f g e =
    let h = head_of x y (a ++ r) s e in
    absurd (true≢false (sym (both_true (is_plain x) (list_all is_plain a) p).0 ∙ ap is_plain h ∙ g))
peel_plain (x ∷ a) (y ∷ b) r s p q f g e =
    let h = head_of x y (a ++ r) (b ++ s) e in
    let ih = peel_plain a b r s (both_true (is_plain x) (list_all is_plain a) p).1 (both_true (is_plain y) (list_all is_plain b) q).1 f g (tail_of x y (a ++ r) (b ++ s) e) in
    ((λ i. h i ∷ ih.0 i), ih.1)

bare_all : (a : List ℕ) → is_bare a ≡ true → list_all is_plain a ≡ true
bare_all [] h = absurd (true≢false (sym h))
bare_all (x ∷ a) h = h

pub peel_quoted : (a b r s : List ℕ) → quoted a ++ r ≡ quoted b ++ s → (a ≡ b) × (r ≡ s)
peel_quoted a b r s e =
    let opened : escape a ++ 34 ∷ r ≡ escape b ++ 34 ∷ s = sym (append_assoc (escape a) (34 ∷ []) r) ∙ tail_of 34 34 ((escape a ++ 34 ∷ []) ++ r) ((escape b ++ 34 ∷ []) ++ s) e ∙ append_assoc (escape b) (34 ∷ []) s in
    let same : a ≡ b = ap (λ o. unwrap_or o a) (sym (content-escape a r) ∙ ap (content plain) opened ∙ content-escape b s) in
    (same, tail_of 34 34 r s (append_cancel_left (escape a) (34 ∷ r) (34 ∷ s) (opened ∙ ap (λ x. escape x ++ 34 ∷ s) (sym same))))

-- a text in quotes is told apart from one without
unlike : (a b r s : List ℕ) → is_bare a ≡ true → a ++ r ≡ quoted b ++ s → ⊥
unlike [] b r s h e = true≢false (sym h)
unlike (x ∷ a) b r s h e =
    let q = head_of x 34 (a ++ r) ((escape b ++ 34 ∷ []) ++ s) e in
    true≢false (sym (both_true (is_plain x) (list_all is_plain a) h).0 ∙ ap is_plain q)

by_bareness : (m n : Bool) (a b r s : List ℕ) → is_bare a ≡ m → is_bare b ≡ n → Ends r → Ends s → (if m then a else quoted a) ++ r ≡ (if n then b else quoted b) ++ s → (a ≡ b) × (r ≡ s)
by_bareness true true a b r s p q f g e = peel_plain a b r s (bare_all a p) (bare_all b q) f g e
by_bareness true false a b r s p q f g e = absurd (unlike a b r s p e)
by_bareness false true a b r s p q f g e = absurd (unlike b a s r q (sym e))
by_bareness false false a b r s p q f g e = peel_quoted a b r s e

pub peel_name : (a b r s : List ℕ) → Ends r → Ends s → name_text a ++ r ≡ name_text b ++ s → (a ≡ b) × (r ≡ s)
peel_name a b r s f g e = by_bareness (is_bare a) (is_bare b) a b r s refl refl f g e

-- ---- numbers

digit_plain : (n : ℕ) → n < 10 → is_plain (48 + n) ≡ true
digit_plain n h = grind (arith, nat_tests)

pub plain_decimal : (n : ℕ) → n < 2 ^ 64 → list_all is_plain (decimal n) ≡ true
plain_decimal n h = decimal_by_steps (λ n ds. list_all is_plain ds ≡ true) (λ n h. ap (λ b. b && true) (digit_plain n h)) (λ n ds h ih. list_all-append is_plain ds ((48 + n % 10) ∷ []) ∙ ap (λ b. b && (is_plain (48 + n % 10) && true)) ih ∙ ap (λ b. b && true) (digit_plain (n % 10) (omega arith))) n h

pub peel_decimal : (m n : ℕ) (r s : List ℕ) → m < 2 ^ 64 → n < 2 ^ 64 → Ends r → Ends s → decimal m ++ r ≡ decimal n ++ s → (m ≡ n) × (r ≡ s)
peel_decimal m n r s p q f g e =
    let both = peel_plain (decimal m) (decimal n) r s (plain_decimal m p) (plain_decimal n q) f g e in
    (decimal_injective m n p q both.0, both.1)
