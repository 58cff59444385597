-- What tests and comparisons tell.
use Rattle.std.proofs.Common.{◌≡◌, ℕ, ◌<◌, ◌==◌, Bool, true, false, cond, ◌||◌, ◌&&◌, Some, inl, inr, refl, sym, ◌∙◌, arith}
use Rattle.std.proofs.lemmas.Bool.Decides.{eqb_tells, nat_tests}
use Rattle.std.specs.declared.cmp.Ordering.TheVariants.{Equal}
use Rattle.std.specs.Ordering.{nat_cmp}

-- ---- whether numbers are the same

pub same_self : (n : ℕ) → (n == n) ≡ true
same_self n = elim (eqb_tells n n) [ inl t ↦ t.0 | inr f ↦ absurd (f.1 refl) ]

pub are_same : (a b : ℕ) → (a == b) ≡ true → a ≡ b
are_same a b h = elim (eqb_tells a b) [ inl t ↦ t.1 | inr f ↦ let never = sym h ∙ f.0 in cc ]

pub not_same : (a b : ℕ) → (a ≡ b → ⊥) → (a == b) ≡ false
not_same a b h = elim (eqb_tells a b) [ inl t ↦ absurd (h t.1) | inr f ↦ f.0 ]

pub are_not : (a b : ℕ) → (a == b) ≡ false → a ≡ b → ⊥
are_not a b h e = elim (eqb_tells a b) [ inl t ↦ let never = sym h ∙ t.0 in cc | inr f ↦ f.1 e ]

pub apart_above : (n k : ℕ) → n < k → (n == k) ≡ false
apart_above n k h = not_same n k (λ e. omega (arith, e, h))

-- ---- tests of tests

pub or_true : (a : Bool) → (a || true) ≡ true
or_true true = refl
or_true false = refl

pub or_parts : (a b : Bool) → (a || b) ≡ false → (a ≡ false) × (b ≡ false)
or_parts true b e = cc
or_parts false b e = (refl, e)

pub and_both : (a b : Bool) → (a && b) ≡ true → (a ≡ true) × (b ≡ true)
and_both true b h = (refl, h)
and_both false b h = cc

-- what both sides of a test have
pub keeps : {A B : Type 0} (h : A → B) (b : Bool) (x y : A) → h x ≡ h y → h (cond b x y) ≡ h y
keeps h true x y e = e
keeps h false x y e = refl

pub some_same : {A : Type 0} (a b : A) → Some a ≡ Some b → a ≡ b
some_same a b e = cc

pub nat_equal : (m n : ℕ) → nat_cmp m n ≡ Equal → m ≡ n
nat_equal m n h = grind (arith, nat_tests)
