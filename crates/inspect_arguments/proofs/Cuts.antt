-- Where a text of two numbers is cut: at its dots, since no number has one.
use Rattle.std.proofs.Common.{◌≡◌, ℕ, List, [], ◌∷◌, ◌++◌, ◌⊎◌, inl, inr, true, refl, sym, ◌∙◌, subst, arith, codes}
use Rattle.std.specs.List.{list_all}
use Rattle.std.specs.Char.{is_ascii_digit}
use Rattle.std.specs.Str.Parse.{AllDigits}
use Rattle.short_numbers.proofs.Digits.{digits_all}

no_dot : (b xs rest : List ℕ) → list_all is_ascii_digit b ≡ true → b ≡ xs ++ (46 ∷ rest) → ⊥
no_dot [] [] rest d e = absurd cc
no_dot [] (x ∷ xs) rest d e = absurd cc
no_dot (c ∷ b) [] rest d e = grind arith
no_dot (c ∷ b) (x ∷ xs) rest d e = no_dot b xs rest (grind arith) (grind arith)

cut_at_dots : (f b x y : List ℕ) → list_all is_ascii_digit f ≡ true → list_all is_ascii_digit b ≡ true
    → f ++ (46 ∷ 46 ∷ b) ≡ x ++ (46 ∷ 46 ∷ y) → (x ≡ f) × (y ≡ b)
cut_at_dots [] b [] y df db e = (refl, grind arith)
cut_at_dots [] b (c ∷ []) y df db e = absurd (no_dot b [] y db (grind arith))
cut_at_dots [] b (c ∷ c2 ∷ xs) y df db e = absurd (no_dot b xs (46 ∷ y) db (grind arith))
cut_at_dots (d ∷ f) b [] y df db e = absurd (grind arith)
cut_at_dots (d ∷ f) b (c ∷ xs) y df db e =
    let rest = cut_at_dots f b xs y (grind arith) db (grind arith) in
    (grind arith, rest.1)

cut_at_dot : (f b x y : List ℕ) → list_all is_ascii_digit f ≡ true → list_all is_ascii_digit b ≡ true
    → f ++ (46 ∷ b) ≡ x ++ (46 ∷ y) → (x ≡ f) × (y ≡ b)
cut_at_dot [] b [] y df db e = (refl, grind arith)
cut_at_dot [] b (c ∷ xs) y df db e = absurd (no_dot b xs y db (grind arith))
cut_at_dot (d ∷ f) b [] y df db e = absurd (grind arith)
cut_at_dot (d ∷ f) b (c ∷ xs) y df db e =
    let rest = cut_at_dot f b xs y (grind arith) db (grind arith) in
    (grind arith, rest.1)

-- what stands before and behind such dots is determined
pub same_parts : (p text f b x y : List ℕ) → (p ≡ codes ".") ⊎ (p ≡ codes "..") → AllDigits 10 f → AllDigits 10 b
    → text ≡ f ++ (p ++ b) → text ≡ x ++ (p ++ y) → (x ≡ f) × (y ≡ b)
same_parts p text f b x y (inl one) df db e g =
    cut_at_dot f b x y (digits_all f df) (digits_all b db) (subst (λ (q : List ℕ). f ++ (q ++ b) ≡ x ++ (q ++ y)) one (sym e ∙ g))
same_parts p text f b x y (inr two) df db e g =
    cut_at_dots f b x y (digits_all f df) (digits_all b db) (subst (λ (q : List ℕ). f ++ (q ++ b) ≡ x ++ (q ++ y)) two (sym e ∙ g))
