-- A merge of what passes know, and the steps of one pass.
use Rattle.std.proofs.Common.{◌≡◌, ℕ, zero, suc, ◌+◌, ◌<◌, List, [], ◌∷◌, ◌++◌, length, map, set, get_or, sym, refl, ap, ◌∙◌, subst, append_assoc, arith, length-append}
use Rattle.std.specs.Prelude.{IsPermutation}
use Rattle.std.proofs.lemmas.List.{get_or-append-add, set-append_right, map-set}
use Rattle.std.proofs.lemmas.List.Sorted.{IsPermutation-refl, IsPermutation-sym, IsPermutation-trans, IsPermutation-append, IsPermutation-cons, IsPermutation-to_front, IsPermutation-middle}
use mathlib.Core.Option.{some, some-injective, some-ne-none}
use lib.ListN.{get_elem?}
use Rattle.post_office.specs.Merge.{IsMerge}
use Rattle.post_office.proofs.Merges.{merge_push, merge_more, merge_less, merge_permuted}

module _ {V X : Type 0} (f : V → List X) where
  -- what the other passes have, beside one pass
  others : (vs : List V) (port : ℕ) (v : V) → get_elem? vs port ≡ some v
      → (rest : List (List X)) × IsPermutation (map f vs) (f v ∷ rest) × ((w : V) → IsPermutation (map f (set vs port w)) (f w ∷ rest))
  others [] port v e = absurd (some-ne-none v (sym e))
  others (x ∷ xs) zero v e = (map f xs, subst (λ (u : V). IsPermutation (f x ∷ map f xs) (f u ∷ map f xs)) (some-injective x v e) (IsPermutation-refl _), λ w. IsPermutation-refl _)
  others (x ∷ xs) (suc port) v e = let r = others xs port v e in (
    f x ∷ r.0,
    IsPermutation-trans _ _ _ (IsPermutation-cons (f x) _ _ r.1) (IsPermutation-middle (f x ∷ []) (f v) r.0),
    λ w. IsPermutation-trans _ _ _ (IsPermutation-cons (f x) _ _ (r.2 w)) (IsPermutation-middle (f x ∷ []) (f w) r.0),
  )

  read : (vs : List V) (port : ℕ) (v : V) → get_elem? vs port ≡ some v → (get_or (map f vs) port [] ≡ f v) × (port < length (map f vs))
  read [] port v e = absurd (some-ne-none v (sym e))
  read (x ∷ xs) zero v e = (ap f (some-injective x v e), omega arith)
  read (x ∷ xs) (suc port) v e = let r = read xs port v e in (r.0, omega (arith, r.1))

  snoc : (vs : List V) (w : V) → map f (vs ++ w ∷ []) ≡ map f vs ++ f w ∷ []
  snoc [] w = refl
  snoc (x ∷ xs) w = ap (λ l. f x ∷ l) (snoc xs w)

  -- a pass gets x
  pub pass_gets : (r : List (List X)) (xs : List X) (vs : List V) (port : ℕ) (v w : V) (x : X) → get_elem? vs port ≡ some v → f w ≡ f v ++ x ∷ []
      → IsMerge (r ++ map f vs) xs → IsMerge (r ++ map f (set vs port w)) (xs ++ x ∷ [])
  pass_gets r xs vs port v w x at is m =
      let ms : List (List X) = map f vs in
      let here = read vs port v at in
      let lt : length r + port < length (r ++ ms) = omega (arith, length-append r ms, here.1) in
      let found : get_or (r ++ ms) (length r + port) [] ≡ f v = get_or-append-add r ms port [] ∙ here.0 in
      let lists : set (r ++ ms) (length r + port) (get_or (r ++ ms) (length r + port) [] ++ x ∷ []) ≡ r ++ map f (set vs port w) =
      ap (λ l. set (r ++ ms) (length r + port) (l ++ x ∷ [])) found ∙ set-append_right r ms (length r) (length r + port) (f v ++ x ∷ []) refl (omega arith) ∙ ap (λ (j : ℕ). r ++ set ms j (f v ++ x ∷ [])) (omega arith) ∙ ap (λ l. r ++ set ms port l) (sym is) ∙ ap (λ l. r ++ l) (sym (map-set f vs port w)) in
      subst (λ (l : List (List X)). IsMerge l (xs ++ x ∷ [])) lists (merge_push (r ++ ms) xs (length r + port) x lt m)

  -- a new pass
  pub pass_comes : (r : List (List X)) (xs : List X) (vs : List V) (w : V) → f w ≡ [] → IsMerge (r ++ map f vs) xs → IsMerge (r ++ map f (vs ++ w ∷ [])) xs
  pass_comes r xs vs w none m =
      let lists : (r ++ map f vs) ++ [] ∷ [] ≡ r ++ map f (vs ++ w ∷ []) = append_assoc r (map f vs) ([] ∷ []) ∙ ap (λ l. r ++ (map f vs ++ l ∷ [])) (sym none) ∙ ap (λ l. r ++ l) (sym (snoc vs w)) in
      subst (λ l. IsMerge l xs) lists (merge_more _ _ m)

  -- a pass goes, and what it had is recorded
  pub pass_goes : (r : List (List X)) (xs : List X) (vs : List V) (port : ℕ) (u s : V) → get_elem? vs port ≡ some u → f s ≡ []
      → IsMerge (r ++ map f vs) xs → IsMerge ((r ++ f u ∷ []) ++ map f (set vs port s)) xs
  pass_goes r xs vs port u s at none m =
      let o = others vs port u at in
      let one : List (List X) = f u ∷ [] in
      let left : (ps qs rs : List (List X)) → IsPermutation qs rs → IsPermutation (ps ++ qs) (ps ++ rs) = (λ ps qs rs p. IsPermutation-append ps ps qs rs (IsPermutation-refl ps) p) in
      let right : (ps qs rs : List (List X)) → IsPermutation ps qs → IsPermutation (ps ++ rs) (qs ++ rs) = (λ ps qs rs p. IsPermutation-append ps qs rs rs p (IsPermutation-refl rs)) in
      let same : (ps qs : List (List X)) → ps ≡ qs → IsPermutation ps qs = (λ ps qs e. subst (IsPermutation ps) e (IsPermutation-refl ps)) in
      let empty : IsPermutation ([] ∷ o.0) (map f (set vs port s)) = subst (λ l. IsPermutation (l ∷ o.0) (map f (set vs port s))) none (IsPermutation-sym _ _ (o.2 s)) in
      let perm : IsPermutation ((r ++ map f vs) ++ [] ∷ []) ((r ++ one) ++ map f (set vs port s)) =
      IsPermutation-trans _ _ _ (right _ _ ([] ∷ []) (left r _ _ o.1))
      (IsPermutation-trans _ _ _ (same _ _ (ap (λ l. l ++ [] ∷ []) (sym (append_assoc r one o.0)) ∙ append_assoc (r ++ one) o.0 ([] ∷ [])))
      (left (r ++ one) _ _ (IsPermutation-trans _ _ _ (IsPermutation-to_front o.0 []) empty))) in
      merge_permuted _ _ _ perm (merge_more _ _ m)

  -- passes that have nothing
  pub passes_empty : (r : List (List X)) (xs : List X) (vs : List V) → ((port : ℕ) (v : V) → get_elem? vs port ≡ some v → f v ≡ []) → IsMerge (r ++ map f vs) xs → IsMerge r xs
  passes_empty r xs vs none m = merge_less r (map f vs) xs (empties vs none) m
    where
      empties : (vs : List V) → ((port : ℕ) (v : V) → get_elem? vs port ≡ some v → f v ≡ []) → (t : ℕ) → get_or (map f vs) t [] ≡ []
      empties [] h t = refl
      empties (x ∷ xs) h zero = h 0 x refl
      empties (x ∷ xs) h (suc t) = empties xs (λ j u e. h (suc j) u e) t
