-- Lists of lists, put together in another order.
use Rattle.std.proofs.Common.{◌≡◌, ℕ, zero, suc, ◌==◌, cond, List, [], ◌∷◌, ◌++◌, map, length, get_or, refl, sym, ap, ◌∙◌, subst, arith, append_assoc, append-nil, eq-eqb, ne_eqb}
use Rattle.std.specs.List.{flat_map}
use Rattle.std.proofs.lemmas.Grind.{flat_map-append}
use Rattle.std.proofs.lemmas.List.Sorted.{IsPermutation-map}
use Rattle.std.specs.Prelude.{IsPermutation}
use Rattle.std.proofs.lemmas.Bool.Decides.{nat_tests}
use Rattle.post_office.specs.Merge.{picked, IsMerge, concat}
use Rattle.post_office.proofs.Merges.{merge_permuted, merge_flat}

length_suc : (ws : List ℕ) → length (map suc ws) ≡ length ws
length_suc [] = refl
length_suc (w ∷ ws) = let r = length_suc ws in omega arith

sucs : (w t : ℕ) → (suc w == suc t) ≡ (w == t)
sucs w t = grind (arith, nat_tests)

module _ {X : Type 0} where
  pick_zero : (ws : List ℕ) (zs : List X) → picked 0 (map suc ws) zs ≡ []
  pick_zero [] zs = refl
  pick_zero (w ∷ ws) [] = refl
  pick_zero (w ∷ ws) (z ∷ zs) = ap (λ b. cond b (z ∷ picked 0 (map suc ws) zs) (picked 0 (map suc ws) zs)) (ne_eqb (suc w) 0 (λ e. omega arith)) ∙ pick_zero ws zs

  pick_suc : (t : ℕ) (ws : List ℕ) (zs : List X) → picked (suc t) (map suc ws) zs ≡ picked t ws zs
  pick_suc t [] zs = refl
  pick_suc t (w ∷ ws) [] = refl
  pick_suc t (w ∷ ws) (z ∷ zs) = ap (λ b. cond b (z ∷ picked (suc t) (map suc ws) zs) (picked (suc t) (map suc ws) zs)) (sucs w t) ∙ ap (λ l. cond (w == t) (z ∷ l) l) (pick_suc t ws zs)

  merge_none : (ls : List (List X)) (zs : List X) → IsMerge ls zs → IsMerge ([] ∷ ls) zs
  merge_none ls zs m = (map suc m.0, length_suc m.0 ∙ m.1, λ t. at t)
    where
      at : (t : ℕ) → picked t (map suc m.0) zs ≡ get_or ([] ∷ ls) t []
      at zero = pick_zero m.0 zs
      at (suc t) = pick_suc t m.0 zs ∙ m.2 t

  merge_one : (l : List X) (ls : List (List X)) (x : X) (zs : List X) → IsMerge (l ∷ ls) zs → IsMerge ((x ∷ l) ∷ ls) (x ∷ zs)
  merge_one l ls x zs m = (0 ∷ m.0, (let e = m.1 in omega arith), λ t. at t)
    where
      at : (t : ℕ) → picked t (0 ∷ m.0) (x ∷ zs) ≡ get_or ((x ∷ l) ∷ ls) t []
      at zero = ap (λ b. cond b (x ∷ picked 0 m.0 zs) (picked 0 m.0 zs)) (eq-eqb 0 0 refl) ∙ ap (λ r. x ∷ r) (m.2 0)
      at (suc t) = ap (λ b. cond b (x ∷ picked (suc t) m.0 zs) (picked (suc t) m.0 zs)) (ne_eqb 0 (suc t) (λ e. omega arith)) ∙ m.2 (suc t)

  merge_all : (l : List X) (ls : List (List X)) (zs : List X) → IsMerge ([] ∷ ls) zs → IsMerge (l ∷ ls) (l ++ zs)
  merge_all [] ls zs m = m
  merge_all (x ∷ l) ls zs m = merge_one l ls x (l ++ zs) (merge_all l ls zs m)

  merge_concat : (ls : List (List X)) → IsMerge ls (concat ls)
  merge_concat [] = ([], refl, λ t. refl)
  merge_concat (l ∷ ls) = merge_all l ls (concat ls) (merge_none ls (concat ls) (merge_concat ls))

  concat_permuted : (ls ms : List (List X)) → IsPermutation ls ms → IsPermutation (concat ls) (concat ms)
  concat_permuted ls ms p = merge_flat ms (concat ls) (merge_permuted ls ms (concat ls) p (merge_concat ls))

module _ {X Y : Type 0} where
  pub map_snoc : (f : X → Y) (xs : List X) (x : X) → map f (xs ++ x ∷ []) ≡ map f xs ++ f x ∷ []
  map_snoc f [] x = refl
  map_snoc f (y ∷ ys) x = ap (λ l. f y ∷ l) (map_snoc f ys x)

  map_append : (f : X → Y) (xs ys : List X) → map f (xs ++ ys) ≡ map f xs ++ map f ys
  map_append f [] ys = refl
  map_append f (x ∷ xs) ys = ap (λ l. f x ∷ l) (map_append f xs ys)

  pub map_concat : (f : X → Y) (ls : List (List X)) → concat (map (map f) ls) ≡ map f (concat ls)
  map_concat f [] = refl
  map_concat f (l ∷ ls) = ap (λ r. map f l ++ r) (map_concat f ls) ∙ sym (map_append f l (concat ls))

module _ {X Y : Type 0} (f : X → List Y) where
  flat_is : (xs : List X) → flat_map f xs ≡ concat (map f xs)
  flat_is [] = refl
  flat_is (x ∷ xs) = ap (λ r. f x ++ r) (flat_is xs)

  pub flat_snoc : (xs : List X) (x : X) → flat_map f (xs ++ x ∷ []) ≡ flat_map f xs ++ f x
  flat_snoc [] x = append-nil (f x)
  flat_snoc (y ∷ ys) x = ap (λ l. f y ++ l) (flat_snoc ys x) ∙ sym (append_assoc (f y) (flat_map f ys) (f x))

  -- what each list gives, one after another, is what all give
  pub concat_flat : (ls : List (List X)) → concat (map (flat_map f) ls) ≡ flat_map f (concat ls)
  concat_flat [] = refl
  concat_flat (l ∷ ls) = ap (λ r. flat_map f l ++ r) (concat_flat ls) ∙ sym (flat_map-append f l (concat ls))

  pub flat_permuted : (xs ys : List X) → IsPermutation xs ys → IsPermutation (flat_map f xs) (flat_map f ys)
  flat_permuted xs ys p =
      let moved : IsPermutation (concat (map f xs)) (concat (map f ys)) = concat_permuted _ _ (IsPermutation-map f xs ys p) in
      subst (λ (ls : List Y × List Y). IsPermutation ls.0 ls.1) (λ i. (sym (flat_is xs) i, sym (flat_is ys) i)) moved
