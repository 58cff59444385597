-- Lists of lists, where one gets more at its end.
use Rattle.std.proofs.Common.{◌≡◌, ℕ, zero, suc, ◌<◌, Some, List, [], ◌∷◌, ◌++◌, length, map, set, get_or, sym, ap, ◌∙◌, subst, arith, append_assoc, append-nil}
use Rattle.std.specs.Prelude.{IsPermutation, slice_get}
use Rattle.std.specs.List.{AllByRecursion}
use Rattle.std.proofs.lemmas.List.{get_or-set_same, length-set, set-set, set-get_or}
use Rattle.std.proofs.lemmas.List.Sorted.{IsPermutation-refl, IsPermutation-sym, IsPermutation-trans, IsPermutation-cons, IsPermutation-middle, IsPermutation-append}
use Rattle.post_office.specs.Merge.{IsMerge, concat}
use Rattle.post_office.specs.Parts.{without}
use Rattle.post_office.proofs.Merges.{merge_push}

module _ {X : Type 0} where
  pub all_at : (P : X → Type 0) (xs : List X) (i : ℕ) (x : X) → AllByRecursion P xs → slice_get xs i ≡ Some x → P x
  all_at P [] i x h e = cc
  all_at P (y ∷ ys) zero x h e = subst P (some_is y x e) h.0
    where
      some_is : (y x : X) → Some y ≡ Some x → y ≡ x
      some_is y x e = cc
  all_at P (y ∷ ys) (suc i) x h e = all_at P ys i x h.1 e

  pub all_set : (P : X → Type 0) (xs : List X) (i : ℕ) (x : X) → AllByRecursion P xs → P x → AllByRecursion P (set xs i x)
  all_set P [] i x h p = tt
  all_set P (y ∷ ys) zero x h p = (p, h.1)
  all_set P (y ∷ ys) (suc i) x h p = (h.0, all_set P ys i x h.1 p)

  pub all_append : (P : X → Type 0) (xs ys : List X) → AllByRecursion P xs → AllByRecursion P ys → AllByRecursion P (xs ++ ys)
  all_append P [] ys h k = k
  all_append P (x ∷ xs) ys h k = (h.0, all_append P xs ys h.1 k)

  pub all_map : {Y : Type 0} (f : X → Y) (P : Y → Type 0) (xs : List X) → AllByRecursion (λ x. P (f x)) xs → AllByRecursion P (map f xs)
  all_map f P [] h = tt
  all_map f P (x ∷ xs) h = (h.0, all_map f P xs h.1)

  pub all_weaker : (P Q : X → Type 0) (f : (x : X) → P x → Q x) (xs : List X) → AllByRecursion P xs → AllByRecursion Q xs
  all_weaker P Q f [] h = tt
  all_weaker P Q f (x ∷ xs) h = (f x h.0, all_weaker P Q f xs h.1)

  pub within : (xs : List X) (i : ℕ) (x : X) → slice_get xs i ≡ Some x → i < length xs
  within [] i x e = cc
  within (y ∷ ys) zero x e = omega arith
  within (y ∷ ys) (suc i) x e = let r = within ys i x e in omega arith

  -- what is taken out stood there
  pub took_out : (xs : List X) (n : ℕ) (x : X) → slice_get xs n ≡ Some x → IsPermutation xs (x ∷ without n xs)
  took_out [] n x e = cc
  took_out (y ∷ ys) zero x e = subst (λ (z : X). IsPermutation (y ∷ ys) (z ∷ ys)) (some_is y x e) (IsPermutation-refl _)
    where
      some_is : (y x : X) → Some y ≡ Some x → y ≡ x
      some_is y x e = cc
  took_out (y ∷ ys) (suc n) x e = IsPermutation-trans _ _ _ (IsPermutation-cons y _ _ (took_out ys n x e)) (IsPermutation-middle (y ∷ []) x (without n ys))

  -- one list gets x
  pub concat_given : (ls : List (List X)) (i : ℕ) (x : X) → i < length ls → IsPermutation (concat (set ls i (get_or ls i [] ++ x ∷ []))) (x ∷ concat ls)
  concat_given [] i x lt = absurd (omega arith)
  concat_given (l ∷ ls) zero x lt = IsPermutation-trans _ _ _ (subst (IsPermutation ((l ++ x ∷ []) ++ concat ls)) (append_assoc l (x ∷ []) (concat ls)) (IsPermutation-refl _)) (IsPermutation-middle l x (concat ls))
  concat_given (l ∷ ls) (suc i) x lt = IsPermutation-trans _ _ _ (IsPermutation-append l l _ _ (IsPermutation-refl l) (concat_given ls i x (omega arith))) (IsPermutation-middle l x (concat ls))

  -- what waits is still split
  pub still_split : (all waiting : List X) (ls : List (List X)) (i n : ℕ) (x : X) → i < length ls → slice_get waiting n ≡ Some x
      → IsPermutation all (concat ls ++ waiting) → IsPermutation all (concat (set ls i (get_or ls i [] ++ x ∷ [])) ++ without n waiting)
  still_split all waiting ls i n x lt e p =
      IsPermutation-trans _ _ _ p
      (IsPermutation-trans _ _ _ (IsPermutation-append (concat ls) (concat ls) _ _ (IsPermutation-refl _) (took_out waiting n x e))
      (IsPermutation-trans _ _ _ (IsPermutation-middle (concat ls) x (without n waiting))
      (IsPermutation-append _ _ (without n waiting) (without n waiting) (IsPermutation-sym _ _ (concat_given ls i x lt)) (IsPermutation-refl _))))

  -- one list gets more at its end, and so does the whole
  pub merge_pushes : (ls : List (List X)) (ys : List X) (i : ℕ) (xs : List X) → i < length ls → IsMerge ls ys → IsMerge (set ls i (get_or ls i [] ++ xs)) (ys ++ xs)
  merge_pushes ls ys i [] lt m =
      let lists : ls ≡ set ls i (get_or ls i [] ++ []) = sym (ap (set ls i) (append-nil (get_or ls i [])) ∙ set-get_or ls i []) in
      let whole : ys ≡ ys ++ [] = sym (append-nil ys) in
      subst (λ (p : List (List X) × List X). IsMerge p.0 p.1) (λ j. (lists j, whole j)) m
  merge_pushes ls ys i (x ∷ xs) lt m =
      let next : List (List X) = set ls i (get_or ls i [] ++ x ∷ []) in
      let there : get_or next i [] ≡ get_or ls i [] ++ x ∷ [] = get_or-set_same ls i (get_or ls i [] ++ x ∷ []) [] lt in
      let more : IsMerge (set next i (get_or next i [] ++ xs)) ((ys ++ x ∷ []) ++ xs) = merge_pushes next (ys ++ x ∷ []) i xs (omega (arith, length-set ls i (get_or ls i [] ++ x ∷ []))) (merge_push ls ys i x lt m) in
      let lists : set next i (get_or next i [] ++ xs) ≡ set ls i (get_or ls i [] ++ x ∷ xs) =
      set-set ls i (get_or ls i [] ++ x ∷ []) (get_or next i [] ++ xs) ∙ ap (λ (l : List X). set ls i (l ++ xs)) there ∙ ap (set ls i) (append_assoc (get_or ls i []) (x ∷ []) xs) in
      subst (λ (p : List (List X) × List X). IsMerge p.0 p.1) (λ j. (lists j, append_assoc ys (x ∷ []) xs j)) more
