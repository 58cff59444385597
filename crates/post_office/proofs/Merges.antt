-- Lists that were mixed into one.
use Rattle.std.proofs.Common.{◌≡◌, ◌≢◌, ℕ, zero, suc, ◌+◌, ◌<◌, ◌==◌, Bool, true, false, cond, List, [], ◌∷◌, ◌++◌, length, map, set, get_or, sym, refl, ap, ◌∙◌, subst, append-nil, arith, eq-eqb, ne_eqb, length-append}
use Rattle.std.specs.Prelude.{IsPermutation}
use Rattle.std.proofs.lemmas.List.{get_or-set_same, get_or-set_other, length-set}
use Rattle.std.proofs.lemmas.List.Edits.{swap_is}
use Rattle.std.proofs.lemmas.List.Sorted.{IsPermutation-keeps, IsPermutation-refl, IsPermutation-sym, IsPermutation-trans, IsPermutation-cons, IsPermutation-middle, IsPermutation-append, length_permutation}
use Rattle.std.proofs.lemmas.Bool.Decides.{nat_tests}
use Rattle.std.specs.List.{swap}
use mathlib.Core.Logic.{dite}
use native.Mathlib.Decide.{ℕ_discrete}
use Rattle.post_office.specs.Merge.{picked, IsMerge, concat}

-- ---- the lists in another order
flip : ℕ → ℕ → ℕ → ℕ
flip i j w = cond (w == i) j (cond (w == j) i w)

flips : (i j w t : ℕ) → (flip i j w == t) ≡ (w == flip i j t)
unfolding flip
flips i j w t = grind (arith, nat_tests)

length_flip : (i j : ℕ) (ws : List ℕ) → length (map (flip i j) ws) ≡ length ws
length_flip i j [] = refl
length_flip i j (w ∷ ws) = let r = length_flip i j ws in omega arith

module _ {X : Type 0} where
  cond_append : (b : Bool) (x : X) (q r : List X) → cond b (x ∷ (q ++ r)) (q ++ r) ≡ cond b (x ∷ q) q ++ r
  cond_append true x q r = refl
  cond_append false x q r = refl

  pick_snoc : (t i : ℕ) (ws : List ℕ) (xs : List X) (x : X) → length ws ≡ length xs → picked t (ws ++ i ∷ []) (xs ++ x ∷ []) ≡ picked t ws xs ++ cond (i == t) (x ∷ []) []
  pick_snoc t i [] [] x e = refl
  pick_snoc t i [] (y ∷ xs) x e = absurd (omega arith)
  pick_snoc t i (w ∷ ws) [] x e = absurd (omega arith)
  pick_snoc t i (w ∷ ws) (y ∷ xs) x e = ap (λ l. cond (w == t) (y ∷ l) l) (pick_snoc t i ws xs x (omega arith)) ∙ cond_append (w == t) y (picked t ws xs) (cond (i == t) (x ∷ []) [])

  -- one list gets x at its end, and so does the whole
  pub merge_push : (ls : List (List X)) (xs : List X) (i : ℕ) (x : X) → i < length ls → IsMerge ls xs → IsMerge (set ls i (get_or ls i [] ++ x ∷ [])) (xs ++ x ∷ [])
  merge_push ls xs i x lt m = (
    m.0 ++ i ∷ [],
    omega (arith, m.1, length-append m.0 (i ∷ []), length-append xs (x ∷ [])),
    λ t. pick_snoc t i m.0 xs x m.1 ∙ dite (ℕ_discrete t i)
        (λ (e : t ≡ i). ap (λ b. picked t m.0 xs ++ cond b (x ∷ []) []) (eq-eqb i t (sym e)) ∙ ap (λ l. l ++ x ∷ []) (m.2 t) ∙ ap (λ (k : ℕ). get_or ls k [] ++ x ∷ []) e ∙ sym (get_or-set_same ls i (get_or ls i [] ++ x ∷ []) [] lt) ∙ ap (λ (k : ℕ). get_or (set ls i (get_or ls i [] ++ x ∷ [])) k []) (sym e))
        (λ (n : t ≢ i). ap (λ b. picked t m.0 xs ++ cond b (x ∷ []) []) (ne_eqb i t (λ q. n (sym q))) ∙ append-nil (picked t m.0 xs) ∙ m.2 t ∙ sym (get_or-set_other ls i t (get_or ls i [] ++ x ∷ []) [] n)),
  )

  -- the lists may be read otherwise, where each place reads the same
  pub merge_same : (ls ms : List (List X)) (xs : List X) → ((t : ℕ) → get_or ls t [] ≡ get_or ms t []) → IsMerge ls xs → IsMerge ms xs
  merge_same ls ms xs e m = (m.0, m.1, λ t. m.2 t ∙ e t)

  at_more : (ls : List (List X)) (t : ℕ) → get_or ls t [] ≡ get_or (ls ++ [] ∷ []) t []
  at_more [] zero = refl
  at_more [] (suc t) = refl
  at_more (l ∷ ls) zero = refl
  at_more (l ∷ ls) (suc t) = at_more ls t

  pub merge_more : (ls : List (List X)) (xs : List X) → IsMerge ls xs → IsMerge (ls ++ [] ∷ []) xs
  merge_more ls xs m = merge_same ls (ls ++ [] ∷ []) xs (at_more ls) m

  at_empties : (ls es : List (List X)) (t : ℕ) → ((k : ℕ) → get_or es k [] ≡ []) → get_or (ls ++ es) t [] ≡ get_or ls t []
  at_empties [] es t none = none t
  at_empties (l ∷ ls) es zero none = refl
  at_empties (l ∷ ls) es (suc t) none = at_empties ls es t none

  pub merge_less : (ls es : List (List X)) (xs : List X) → ((k : ℕ) → get_or es k [] ≡ []) → IsMerge (ls ++ es) xs → IsMerge ls xs
  merge_less ls es xs none m = merge_same (ls ++ es) ls xs (λ t. at_empties ls es t none) m

  pick_flip : (i j t : ℕ) (ws : List ℕ) (xs : List X) → picked t (map (flip i j) ws) xs ≡ picked (flip i j t) ws xs
  pick_flip i j t [] xs = refl
  pick_flip i j t (w ∷ ws) [] = refl
  pick_flip i j t (w ∷ ws) (x ∷ xs) = ap (λ b. cond b (x ∷ picked t (map (flip i j) ws) xs) (picked t (map (flip i j) ws) xs)) (flips i j w t) ∙ ap (λ l. cond (w == flip i j t) (x ∷ l) l) (pick_flip i j t ws xs)

  at_flip : (ls : List (List X)) (i j t : ℕ) → i < length ls → j < length ls → get_or ls (flip i j t) [] ≡ get_or (set (set ls i (get_or ls j [])) j (get_or ls i [])) t []
  unfolding flip
  at_flip ls i j t p q =
      let p' : i < length (set ls j (get_or ls i [])) = omega (arith, length-set ls j (get_or ls i [])) in
      let q' : j < length (set ls i (get_or ls j [])) = omega (arith, length-set ls i (get_or ls j [])) in
      dite (ℕ_discrete t j)
      (λ (e : t ≡ j). ap (λ (k : ℕ). get_or ls (cond (k == i) j (cond (k == j) i k)) []) e ∙ at_j ∙ sym (get_or-set_same (set ls i (get_or ls j [])) j (get_or ls i []) [] q') ∙ ap (λ (k : ℕ). get_or (set (set ls i (get_or ls j [])) j (get_or ls i [])) k []) (sym e))
      (λ (n : t ≢ j). dite (ℕ_discrete t i)
      (λ (e : t ≡ i). ap (λ b. get_or ls (cond b j (cond (t == j) i t)) []) (eq-eqb t i e) ∙ sym (get_or-set_same ls i (get_or ls j []) [] p) ∙ ap (λ (k : ℕ). get_or (set ls i (get_or ls j [])) k []) (sym e) ∙ sym (get_or-set_other (set ls i (get_or ls j [])) j t (get_or ls i []) [] n))
      (λ (m : t ≢ i). ap (λ b. get_or ls (cond b j (cond (t == j) i t)) []) (ne_eqb t i m) ∙ ap (λ b. get_or ls (cond b i t) []) (ne_eqb t j n) ∙ sym (get_or-set_other ls i t (get_or ls j []) [] m) ∙ sym (get_or-set_other (set ls i (get_or ls j [])) j t (get_or ls i []) [] n)))
    where
      at_j : get_or ls (cond (j == i) j (cond (j == j) i j)) [] ≡ get_or ls i []
      at_j = dite (ℕ_discrete j i) (λ (e : j ≡ i). ap (λ b. get_or ls (cond b j (cond (j == j) i j)) []) (eq-eqb j i e) ∙ ap (λ (k : ℕ). get_or ls k []) e) (λ (n : j ≢ i). ap (λ b. get_or ls (cond b j (cond (j == j) i j)) []) (ne_eqb j i n) ∙ ap (λ b. get_or ls (cond b i j) []) (eq-eqb j j refl))

  merge_swap : (ls : List (List X)) (xs : List X) (i j : ℕ) → i < length ls → j < length ls → IsMerge ls xs → IsMerge (swap ls i j) xs
  merge_swap ls xs i j p q m = subst (λ l. IsMerge l xs) (swap_is ls i j [] p q) (
    map (flip i j) m.0,
    length_flip i j m.0 ∙ m.1,
    λ t. pick_flip i j t m.0 xs ∙ m.2 (flip i j t) ∙ at_flip ls i j t p q,
  )

  pub merge_permuted : (ls ms : List (List X)) (xs : List X) → IsPermutation ls ms → IsMerge ls xs → IsMerge ms xs
  merge_permuted ls ms xs s m = IsPermutation-keeps ls (λ l. IsMerge l xs) m (λ l i j p q h. merge_swap l xs i j p q h) ms s

  -- ---- the whole has what the lists have
  pub reach : (ls : List (List X)) (i : ℕ) (x : X) (rest : List X) → get_or ls i [] ≡ x ∷ rest → i < length ls
  reach [] i x rest e = absurd (some_is_none e)
    where
      some_is_none : {x : X} {rest : List X} → [] ≡ x ∷ rest → ⊥
      some_is_none e = let n : 0 ≡ suc _ = ap length e in omega arith
  reach (l ∷ ls) zero x rest e = omega arith
  reach (l ∷ ls) (suc i) x rest e = let r = reach ls i x rest e in omega arith

  concat_set : (ls : List (List X)) (i : ℕ) (x : X) (rest : List X) → get_or ls i [] ≡ x ∷ rest → IsPermutation (concat ls) (x ∷ concat (set ls i rest))
  concat_set [] i x rest e = absurd (let n : 0 ≡ suc (length rest) = ap length e in omega arith)
  concat_set (l ∷ ls) zero x rest e = subst (λ y. IsPermutation (y ++ concat ls) (x ∷ (rest ++ concat ls))) (sym e) (IsPermutation-refl _)
  concat_set (l ∷ ls) (suc i) x rest e = IsPermutation-trans _ _ _ (IsPermutation-append l l _ _ (IsPermutation-refl l) (concat_set ls i x rest e)) (IsPermutation-middle l x (concat (set ls i rest)))

  concat_none : (ls : List (List X)) → ((t : ℕ) → [] ≡ get_or ls t []) → concat ls ≡ []
  concat_none [] h = refl
  concat_none (l ∷ ls) h = ap (λ y. y ++ concat ls) (sym (h 0)) ∙ concat_none ls (λ t. h (suc t))

  flat : (xs : List X) (ls : List (List X)) (who : List ℕ) → length who ≡ length xs → ((t : ℕ) → picked t who xs ≡ get_or ls t []) → IsPermutation xs (concat ls)
  flat [] ls [] e h = subst (IsPermutation []) (sym (concat_none ls h)) (IsPermutation-refl [])
  flat [] ls (w ∷ ws) e h = absurd (omega arith)
  flat (x ∷ xs) ls [] e h = absurd (omega arith)
  flat (x ∷ xs) ls (w ∷ ws) e h =
      let rest = picked w ws xs in
      let here : get_or ls w [] ≡ x ∷ rest = sym (h w) ∙ ap (λ b. cond b (x ∷ rest) rest) (eq-eqb w w refl) in
      let lt : w < length ls = reach ls w x rest here in
      let left : (t : ℕ) → picked t ws xs ≡ get_or (set ls w rest) t [] = (λ t. dite (ℕ_discrete t w)
      (λ (q : t ≡ w). ap (λ (k : ℕ). picked k ws xs) q ∙ sym (get_or-set_same ls w rest [] lt) ∙ ap (λ (k : ℕ). get_or (set ls w rest) k []) (sym q))
      (λ (n : t ≢ w). sym (ap (λ b. cond b (x ∷ picked t ws xs) (picked t ws xs)) (ne_eqb w t (λ q. n (sym q)))) ∙ h t ∙ sym (get_or-set_other ls w t rest [] n))) in
      IsPermutation-trans _ _ _ (IsPermutation-cons x _ _ (flat xs (set ls w rest) ws (omega arith) left)) (IsPermutation-sym _ _ (concat_set ls w x rest here))

  pub merge_flat : (ls : List (List X)) (xs : List X) → IsMerge ls xs → IsPermutation xs (concat ls)
  merge_flat ls xs m = flat xs ls m.0 m.1 m.2

  pub merge_length : (ls : List (List X)) (xs : List X) → IsMerge ls xs → length xs ≡ length (concat ls)
  merge_length ls xs m = sym (length_permutation xs (concat ls) (merge_flat ls xs m))

  pub length_concat : (ls : List (List X)) (l : List X) → length (concat (ls ++ l ∷ [])) ≡ length (concat ls) + length l
  length_concat [] l = let e = length-append l [] in omega arith
  length_concat (m ∷ ls) l = let e = length-append m (concat (ls ++ l ∷ [])) in let f = length-append m (concat ls) in let r = length_concat ls l in omega arith
