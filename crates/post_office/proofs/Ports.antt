-- What is known of each pass of a queue, where one of them changes or a new one comes.
use Rattle.std.proofs.Common.{◌≡◌, ◌≢◌, ℕ, zero, suc, ◌+◌, List, [], ◌∷◌, ◌++◌, set, sym, ap, subst, ⊎_elim, arith}
use Rattle.std.specs.List.{sum_by}
use Rattle.std.proofs.lemmas.List.Sums.{sum_by-cons}
use mathlib.Core.Option.{some, some-injective, some-ne-none}
use lib.ListN.{get_elem?}
use Rattle.crossbeam_queue.proofs.Lists.{at_set, at_snoc}

module _ {V : Type 0} (f : V → ℕ) where
  pub sum_set : (vs : List V) (port : ℕ) (v w : V) → get_elem? vs port ≡ some v → sum_by f (set vs port w) + f v ≡ sum_by f vs + f w
  sum_set [] port v w e = absurd (some-ne-none v (sym e))
  sum_set (x ∷ xs) zero v w e = omega (arith, ap f (some-injective x v e), sum_by-cons f x xs, sum_by-cons f w xs)
  sum_set (x ∷ xs) (suc port) v w e = omega (arith, sum_set xs port v w e, sum_by-cons f x xs, sum_by-cons f x (set xs port w))

  pub sum_none : (vs : List V) (port : ℕ) (v : V) → sum_by f vs ≡ 0 → get_elem? vs port ≡ some v → f v ≡ 0
  sum_none [] port v z e = absurd (some-ne-none v (sym e))
  sum_none (x ∷ xs) zero v z e = omega (arith, ap f (some-injective x v e), sum_by-cons f x xs)
  sum_none (x ∷ xs) (suc port) v z e = sum_none xs port v (omega (arith, sum_by-cons f x xs)) e

module _ {V : Type 0} (P : V → Type 0) where
  pub each_set : (vs : List V) (port : ℕ) (w : V) → P w → ((j : ℕ) (u : V) → get_elem? vs j ≡ some u → P u) → (j : ℕ) (u : V) → get_elem? (set vs port w) j ≡ some u → P u
  each_set vs port w p h j u e = ⊎_elim (λ (x : (j ≡ port) × (w ≡ u)). subst P x.1 p) (λ (x : (j ≢ port) × (get_elem? vs j ≡ some u)). h j u x.1) (at_set vs port j w u e)

  pub each_snoc : (vs : List V) (w : V) → P w → ((j : ℕ) (u : V) → get_elem? vs j ≡ some u → P u) → (j : ℕ) (u : V) → get_elem? (vs ++ w ∷ []) j ≡ some u → P u
  each_snoc vs w p h j u e = ⊎_elim (λ x. h j u x) (λ (x : w ≡ u). subst P x p) (at_snoc vs w u j e)
