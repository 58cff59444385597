-- Trees are read by their table: the depth of a tree is how deep its lists nest.
use Rattle.std.proofs.Common.{◌≡◌, ◌⊎◌, ◌↔◌, inl, inr, refl, sym, subst, ap, ℕ, zero, suc, ◌<◌, ◌≤◌, max, ℤ, pos, negsuc, true, false, List, [], ◌∷◌, codes, Option, Some, None, option_and_then, arith}
use Rattle.std.specs.Prelude.{unwrap_or}
use Rattle.std.proofs.lemmas.Bool.{le-leb}
use Rattle.std.proofs.lemmas.Bool.Decides.{nat_tests}
use Rattle.serde_json.specs.Data.{Data, null, boolean, number, string, array, object, Items, no_items, item, depth, items_depth}
use Rattle.serde_json.specs.Find.{get_item, as_str}
use Rattle.loop_script.specs.Read.{Read, misshapen}
use Rattle.loop_script.specs.Words.{choice}
use Rattle.loop_script.specs.Tree.{Tree, value, fail, sleep, check, seq, both, first, within}
use Rattle.loop_script.specs.TreeDepth.{tree_depth, fits_in}
use Rattle.loop_script.specs.TreeForm.{value_form, fail_form, sleep_form, check_form, pair_from, within_from, forms_from, part_reading, tree_in, trees_in, tree as tree_of}
use Rattle.loop_script.specs.TaskForm.{shallow_tree}
use Rattle.loop_script.specs.Form.{Form, one_of, tree}
use Rattle.loop_script.specs.Tables as tables
use Rattle.loop_script.specs.Place.{front, size, count, parts_of, itself}
use Rattle.loop_script.specs.Misfit.{IsOutOfRange, IsMisshapen, IsBeyond}
use Rattle.loop_script.specs.Meaning.{nth, IsWhole, IsInteger, Begins, IsTree}
use Rattle.loop_script.specs.declared.faults.Faults.{Faults}
use Rattle.loop_script.proofs.Alternatives.{some_inj, no_more}
use Rattle.loop_script.proofs.Meets.{Meets, meets_done, meets_misshapen, meets_tested, recast, granted, next, not_both}
use Rattle.loop_script.proofs.Openings.{KeyMisfit, KeyBeyond}
use Rattle.loop_script.proofs.Behind.{WordMisfit, BehindWord, RowsMeet, chosen, a_choice, part, behind}
use Rattle.loop_script.proofs.Leaves.{Reads, of_needed, reads_whole, reads_signed, length_at}
use Rattle.loop_script.proofs.WordRows.{begun, row0, row1}

-- ---- where it goes so deep at most
abbrev TreeMeets : ℕ → Data → Type 0
TreeMeets n d = Meets (depth d ≤ n) Tree (tree_in d) (IsMisshapen (one_of (tree n)) d) (IsBeyond (one_of (tree n)) d) (IsTree (Some d))

abbrev AllMeet : ℕ → Items → Type 0
AllMeet n no_items = Unit {0}
AllMeet n (item d ds) = TreeMeets n d × AllMeet n ds

part_at : (n k : ℕ) (ds : Items) → AllMeet n ds → Meets (items_depth ds ≤ n) Tree (part_reading k (trees_in ds)) (KeyMisfit (part (one_of (tree n))) (get_item k ds)) (KeyBeyond (part (one_of (tree n))) (get_item k ds)) (IsTree (get_item k ds))
unfolding trees_in
part_at n k no_items h = meets_misshapen fail refl
part_at n zero (item d ds) h = granted (λ q. omega arith) h.0
part_at n (suc k) (item d ds) h = granted (λ q. omega arith) (part_at n k ds h.1)

abbrev Here : ℕ → Items → Type 0
Here n ds = depth (array ds) ≤ n

branch_at : (n k : ℕ) (ds : Items) → AllMeet n ds → Meets (Here n ds) Tree (part_reading k (trees_in ds)) (KeyMisfit (part (one_of (tree n))) (get_item k ds)) (KeyBeyond (part (one_of (tree n))) (get_item k ds)) (IsTree (get_item k ds))
branch_at n k ds h = granted (λ q. omega arith) (part_at n k ds h)

pair_at : (n : ℕ) (ds : Items) (join : Tree → Tree → Tree) → AllMeet n ds → ((a b : Tree) → size (array ds) ≡ Some 3 → IsTree (get_item 1 ds) a → IsTree (get_item 2 ds) b → IsTree (Some (array ds)) (join a b)) → Meets (Here n ds) Tree (pair_from join (Some (array ds)) (λ k. part_reading k (trees_in ds))) (WordMisfit (Some (one_of (tree n) ∷ one_of (tree n) ∷ [])) (array ds)) (BehindWord IsOutOfRange (Some (one_of (tree n) ∷ one_of (tree n) ∷ [])) (array ds)) (IsTree (Some (array ds)))
pair_at n ds join h v =
    behind (one_of (tree n) ∷ one_of (tree n) ∷ []) (array ds) (next (length_at 3 (array ds)) (
    next (branch_at n 1 ds h) (
    next (branch_at n 2 ds h) (meets_done _ (λ x. x) (λ x. x) (λ b a l. v _ _ l a b)))))

within_at : (n : ℕ) (ds : Items) → AllMeet n ds → front (array ds) ≡ Some (codes "within") → Meets (Here n ds) Tree (within_from (Some (array ds)) (λ k. part_reading k (trees_in ds))) (WordMisfit (Some (tables.span ∷ one_of (tree n) ∷ [])) (array ds)) (BehindWord IsOutOfRange (Some (tables.span ∷ one_of (tree n) ∷ [])) (array ds)) (IsTree (Some (array ds)))
within_at n ds h f =
    behind (tables.span ∷ one_of (tree n) ∷ []) (array ds) (next (length_at 3 (array ds)) (
    next (granted (λ q. tt) (of_needed (part tables.span) refl (reads_whole 0 1000000000000000) (get_item 1 ds))) (
    next (branch_at n 2 ds h) (meets_done _ (λ x. x) (λ x. x) (λ a us l. ((f, l), us, a))))))

tree_rows : (n : ℕ) (ds : Items) (w : List ℕ) → AllMeet n ds → front (array ds) ≡ Some w → RowsMeet (Here n ds) Tree (IsTree (Some (array ds))) (array ds) w (tables.words (tree n)) (forms_from (Some (array ds)) (λ k. part_reading k (trees_in ds)))
unfolding value_form fail_form sleep_form check_form
tree_rows n ds w h f =
    let d : Data = array ds in (
      (refl, λ e. granted (λ q. tt) (row1 d (Form.signed (negsuc 9223372036854775807) (pos 9223372036854775807)) (reads_signed (negsuc 9223372036854775807) (pos 9223372036854775807)) value (λ x l a. ((begun d f e, l), a)))),
      (
        (refl, λ e. granted (λ q. tt) (row0 d fail (λ l. (begun d f e, l)))),
        (
          (refl, λ e. granted (λ q. tt) (row1 d tables.span (reads_whole 0 1000000000000000) sleep (λ x l a. ((begun d f e, l), a)))),
          (
            (refl, λ e. granted (λ q. tt) (row0 d check (λ l. (begun d f e, l)))),
            (
              (refl, λ e. pair_at n ds seq h (λ a b l x y. ((begun d f e, l), x, y))),
              (
                (refl, λ e. pair_at n ds both h (λ a b l x y. ((begun d f e, l), x, y))),
                (
                  (refl, λ e. pair_at n ds first h (λ a b l x y. ((begun d f e, l), x, y))),
                  (
                    (refl, λ e. within_at n ds h (begun d f e)),
                    tt,
                  ),
                ),
              ),
            ),
          ),
        ),
      ),
    )

tree_by : (n : ℕ) (ds : Items) (o : Option (List ℕ)) → AllMeet n ds → front (array ds) ≡ o → Meets (Here n ds) Tree (choice (unwrap_or o []) (forms_from (Some (array ds)) (λ k. part_reading k (trees_in ds))) (misshapen fail)) (WordMisfit (option_and_then (parts_of (tables.words (tree n))) o) (array ds)) (BehindWord IsOutOfRange (option_and_then (parts_of (tables.words (tree n))) o) (array ds)) (IsTree (Some (array ds)))
tree_by n ds None h e = meets_misshapen fail (inl tt)
tree_by n ds (Some w) h e = chosen (array ds) w (tables.words (tree n)) (forms_from (Some (array ds)) (λ k. part_reading k (trees_in ds))) fail (tree_rows n ds w h e)

no_tree : (n : ℕ) (d : Data) → front d ≡ None → Meets (depth d ≤ n) Tree (misshapen fail) (IsMisshapen (one_of (tree n)) d) (IsBeyond (one_of (tree n)) d) (IsTree (Some d))
no_tree n d e = a_choice (tree n) d (λ q x. omega arith) (subst (λ o. Meets (depth d ≤ n) Tree (misshapen fail) (WordMisfit (option_and_then (parts_of (tables.words (tree n))) o) d) (BehindWord IsOutOfRange (option_and_then (parts_of (tables.words (tree n))) o) d) (IsTree (Some d))) (sym e) (meets_misshapen fail (inl tt)))

mutual
  unfolding tree_in trees_in

  tree_at : (n : ℕ) (d : Data) → TreeMeets n d
  tree_at n null = no_tree n null refl
  tree_at n (boolean b) = no_tree n (boolean b) refl
  tree_at n (number m) = no_tree n (number m) refl
  tree_at n (string s) = no_tree n (string s) refl
  tree_at n (object ms) = no_tree n (object ms) refl
  tree_at n (array ds) = a_choice (tree n) (array ds) (λ q x. omega arith) (tree_by n ds (front (array ds)) (trees_at n ds) refl)

  trees_at : (n : ℕ) (ds : Items) → AllMeet n ds
  trees_at n no_items = tt
  trees_at n (item d ds) = (tree_at n d, trees_at n ds)

-- ---- how deep a tree is that a value denotes
abbrev depth_of : Option Data → ℕ
depth_of None = 0
depth_of (Some d) = depth d

flat_front : (d : Data) (w : List ℕ) → as_str d ≡ Some w → depth d ≡ 0
flat_front null w e = refl
flat_front (boolean b) w e = refl
flat_front (number n) w e = refl
flat_front (string s) w e = refl
flat_front (array ds) w e = cc
flat_front (object ms) w e = cc

flat_whole : (o : Option Data) (n : ℕ) → IsWhole o n → depth_of o ≡ 0
flat_whole o n e = ap depth_of e

flat_integer : (o : Option Data) (z : ℤ) → IsInteger o z → depth_of o ≡ 0
flat_integer None z e = refl
flat_integer (Some null) z e = refl
flat_integer (Some (boolean b)) z e = refl
flat_integer (Some (number n)) z e = refl
flat_integer (Some (string s)) z e = refl
flat_integer (Some (array ds)) z e = cc
flat_integer (Some (object ms)) z e = cc

-- lists of one, two and three items
items1 : (w : List ℕ) (ds : Items) → front (array ds) ≡ Some w → count ds ≡ 1 → items_depth ds ≡ 0
items1 w no_items f e = refl
items1 w (item x no_items) f e = let flat = flat_front x w f in omega arith
items1 w (item x (item y ds)) f e = absurd (omega arith)

items2 : (w : List ℕ) (ds : Items) → front (array ds) ≡ Some w → count ds ≡ 2 → items_depth ds ≡ depth_of (get_item 1 ds)
items2 w no_items f e = refl
items2 w (item x no_items) f e = absurd (omega arith)
items2 w (item x (item y no_items)) f e = let flat = flat_front x w f in omega arith
items2 w (item x (item y (item z ds))) f e = absurd (omega arith)

items3 : (w : List ℕ) (ds : Items) → front (array ds) ≡ Some w → count ds ≡ 3 → items_depth ds ≡ max (depth_of (get_item 1 ds)) (depth_of (get_item 2 ds))
items3 w no_items f e = refl
items3 w (item x no_items) f e = absurd (omega arith)
items3 w (item x (item y no_items)) f e = absurd (omega arith)
items3 w (item x (item y (item z no_items))) f e = let flat = flat_front x w f in omega arith
items3 w (item x (item y (item z (item u ds)))) f e = absurd (omega arith)

deep1 : (w : List ℕ) (o : Option Data) → Begins w 1 o → depth_of o ≡ 1
deep1 w None h = cc (h.0)
deep1 w (Some null) h = cc (h.0)
deep1 w (Some (boolean b)) h = cc (h.0)
deep1 w (Some (number n)) h = cc (h.0)
deep1 w (Some (string s)) h = cc (h.0)
deep1 w (Some (object ms)) h = cc (h.0)
deep1 w (Some (array ds)) h = let e = items1 w ds h.0 (some_inj h.1) in omega arith

deep2 : (w : List ℕ) (o : Option Data) → Begins w 2 o → depth_of o ≡ suc (depth_of (nth 1 o))
deep2 w None h = cc (h.0)
deep2 w (Some null) h = cc (h.0)
deep2 w (Some (boolean b)) h = cc (h.0)
deep2 w (Some (number n)) h = cc (h.0)
deep2 w (Some (string s)) h = cc (h.0)
deep2 w (Some (object ms)) h = cc (h.0)
deep2 w (Some (array ds)) h = ap suc (items2 w ds h.0 (some_inj h.1))

deep3 : (w : List ℕ) (o : Option Data) → Begins w 3 o → depth_of o ≡ suc (max (depth_of (nth 1 o)) (depth_of (nth 2 o)))
deep3 w None h = cc (h.0)
deep3 w (Some null) h = cc (h.0)
deep3 w (Some (boolean b)) h = cc (h.0)
deep3 w (Some (number n)) h = cc (h.0)
deep3 w (Some (string s)) h = cc (h.0)
deep3 w (Some (object ms)) h = cc (h.0)
deep3 w (Some (array ds)) h = ap suc (items3 w ds h.0 (some_inj h.1))

deep : (t : Tree) (o : Option Data) → IsTree o t → depth_of o ≡ tree_depth t
deep (value v) o h = let e = deep2 _ o h.0 in let z = flat_integer (nth 1 o) v h.1 in omega arith
deep fail o h = deep1 _ o h
deep (sleep us) o h = let e = deep2 _ o h.0 in let z = flat_whole (nth 1 o) us h.1 in omega arith
deep check o h = deep1 _ o h
deep (seq a b) o h = let e = deep3 _ o h.0 in let x = deep a (nth 1 o) h.1 in let y = deep b (nth 2 o) h.2 in omega arith
deep (both a b) o h = let e = deep3 _ o h.0 in let x = deep a (nth 1 o) h.1 in let y = deep b (nth 2 o) h.2 in omega arith
deep (first a b) o h = let e = deep3 _ o h.0 in let x = deep a (nth 1 o) h.1 in let y = deep b (nth 2 o) h.2 in omega arith
deep (within us a) o h = let e = deep3 _ o h.0 in let x = flat_whole (nth 1 o) us h.1 in let y = deep a (nth 2 o) h.2 in omega arith

-- ---- within its depth, or beyond it
same_shape : {Q P A M N B C : Type 0} {V W : A → Type 0} {r : Read A} → Meets Q A r M B V → Meets P A r N C W → M → N
same_shape {N = N} h k m = out ((k.shape none).0 ((h.shape none).1 (inr m)))
  where
    none : Faults
    none = record { shape = false; limit = false }

    out : (none.shape ≡ true) ⊎ N → N
    out (inl x) = absurd (not_both x refl)
    out (inr n) = n

fits_so : (n : ℕ) (t : Tree) → tree_depth t ≤ n → fits_in n t ≡ true
fits_so n t h = le-leb (tree_depth t) n h

fits_not : (n : ℕ) (t : Tree) → n < tree_depth t → fits_in n t ≡ false
fits_not n t h = grind (arith, nat_tests)

shallow_at : (d : Data) → (depth d ≤ 16) ⊎ (16 < depth d) → Meets (Unit {0}) Tree (shallow_tree (Some d)) (IsMisshapen (one_of (tree 16)) d) (IsBeyond (one_of (tree 16)) d) (IsTree (Some d))
unfolding shallow_tree tree_of
shallow_at d (inl le) =
    let r : Tree = (tree_in d).value in
    let small : IsTree (Some d) r → (fits_in 16 r ≡ false) ↔ ⊥ = λ v. (λ e. not_both (fits_so 16 r (let k = deep r (Some d) v in omega arith)) e, λ x. absurd x) in
    recast {V = IsTree (Some d)} (λ x. x, λ x. x) (λ q. no_more) (λ v. v) (meets_tested (fits_in 16) fail (granted (λ q. le) (tree_at 16 d)) small)
shallow_at d (inr gt) =
    let r : Tree = (tree_in d).value in
    let n : ℕ = depth d in
    let tall : IsTree (Some d) r → (fits_in 16 r ≡ false) ↔ Unit {0} = λ v. (λ e. tt, λ x. fits_not 16 r (let k = deep r (Some d) v in omega arith)) in
    let far : IsBeyond (one_of (tree 16)) d = (one_of (tree 16), d, itself (one_of (tree 16)) d, gt) in
    recast {V = IsTree (Some d)} (same_shape (tree_at n d) (tree_at 16 d), same_shape (tree_at 16 d) (tree_at n d)) (λ q. (λ x. far, λ x. inr tt)) (λ v. v) (meets_tested (fits_in 16) fail (granted (λ q. omega arith) (tree_at n d)) tall)

deep_or_not : (n m : ℕ) → (n ≤ m) ⊎ (m < n)
deep_or_not n m = grind arith

pub reads_tree : Reads (one_of (tree 16)) Tree shallow_tree IsTree
unfolding shallow_tree tree_of
reads_tree = record { there = λ d. shallow_at d (deep_or_not (depth d) 16); absent = λ s. refl }
