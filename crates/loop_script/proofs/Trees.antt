-- A tree by the trees of its parts.
use Rattle.std.proofs.Common.{◌≡◌, ℕ, zero, suc, ◌+◌, ◌*◌, ◌<◌, ◌≤◌, Bool, true, false, refl, ap, sym, ◌∙◌, List, codes, Option, Some, None, arith}
use Rattle.std.specs.Bool.{Decides}
use Rattle.std.specs.Str.{bytes_eq}
use Rattle.std.proofs.lemmas.Slice.Eq.{bytes_eq-Decides}
use Rattle.serde_json.specs.Data.{Data, null, boolean, number, string, array, object, Items, no_items, item, depth, items_depth}
use Rattle.serde_json.specs.Find.{get_item}
use Rattle.loop_script.specs.Read.{misshapen}
use Rattle.loop_script.specs.Array.{part, word}
use Rattle.loop_script.specs.Words.{choice}
use Rattle.loop_script.specs.Tree.{fail}
use Rattle.loop_script.specs.TreeForm.{tree, tree_in, trees_in, part_reading, tree_from, forms, seq_form, both_form, first_form, within_form}

pub part_is : (n : ℕ) (ds : Items) → part_reading n (trees_in ds) ≡ tree (get_item n ds)
unfolding tree tree_in trees_in
part_is zero no_items = refl
part_is (suc n) no_items = refl
part_is zero (item d ds) = refl
part_is (suc n) (item d ds) = part_is n ds

pub tree_is : (d : Option Data) → tree d ≡ choice (word d) (forms d) (misshapen fail)
unfolding tree tree_in seq_form both_form first_form within_form
tree_is None = refl
tree_is (Some null) = refl
tree_is (Some (boolean b)) = refl
tree_is (Some (number n)) = refl
tree_is (Some (string s)) = refl
tree_is (Some (object ms)) = refl
tree_is (Some (array ds)) = λ i. tree_from (Some (array ds)) (λ n. part_is n ds i)

-- ---- no tree has another word
false-where : {P : Type 0} (r : Bool) → Decides r P → (P → ⊥) → r ≡ false
false-where true d n = absurd (n (d.0 refl))
false-where false d n = refl

other : (w v : List ℕ) → (w ≡ v → ⊥) → bytes_eq w v ≡ false
other w v n = false-where (bytes_eq w v) (bytes_eq-Decides w v) n

pub tree_of_other : (d : Option Data) (w : List ℕ) → w ≡ word d → (w ≡ codes "value" → ⊥) → (w ≡ codes "fail" → ⊥) → (w ≡ codes "sleep" → ⊥) → (w ≡ codes "check" → ⊥) → (w ≡ codes "seq" → ⊥) → (w ≡ codes "both" → ⊥) → (w ≡ codes "first" → ⊥) → (w ≡ codes "within" → ⊥) → tree d ≡ misshapen fail
tree_of_other d w e h1 h2 h3 h4 h5 h6 h7 h8 =
    let none : choice w (forms d) (misshapen fail) ≡ misshapen fail =
    rw (other w (codes "value") h1, other w (codes "fail") h2, other w (codes "sleep") h3, other w (codes "check") h4, other w (codes "seq") h5, other w (codes "both") h6, other w (codes "first") h7, other w (codes "within") h8) refl in
    tree_is d ∙ ap (λ v. choice v (forms d) (misshapen fail)) (sym e) ∙ none

-- how deep a part goes, or 0 where there is none
abbrev pub height : Option Data → ℕ
height None = 0
height (Some d) = depth d + 1

pub item_falls : (n : ℕ) (ds : Items) → height (get_item n ds) ≤ items_depth ds + 1
item_falls zero no_items = omega arith
item_falls (suc n) no_items = omega arith
item_falls zero (item d ds) = omega arith
item_falls (suc n) (item d ds) = omega (arith, item_falls n ds)

pub part_falls : (n : ℕ) (d : Data) → height (part n (Some d)) ≤ depth d
part_falls n null = omega arith
part_falls n (boolean b) = omega arith
part_falls n (number m) = omega arith
part_falls n (string s) = omega arith
part_falls n (object ms) = omega arith
part_falls n (array ds) = omega (arith, item_falls n ds)

-- the reading of a part is nearer the end than that of the whole
pub falls : (o : Option Data) (n : ℕ) (d : Data) → o ≡ part n (Some d) → 2 * height o + 1 < 2 * (depth d + 1)
falls o n d e = let below = part_falls n d in rw e (omega (arith, below))
