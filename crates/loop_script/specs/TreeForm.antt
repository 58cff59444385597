-- Trees as arrays.
use Rattle.std.specs.Prelude.{ℕ, pos, negsuc, zero, suc, List, [], ◌∷◌, codes, Option, Some, None}
use Rattle.serde_json.specs.Data.{Data, null, boolean, number, string, array, object, Items, no_items, item}
use Rattle.loop_script.specs.Read.{Read, done, misshapen, ◌>>=◌}
use Rattle.loop_script.specs.Number.{whole, integer}
use Rattle.loop_script.specs.Array.{part, arity, word}
use Rattle.loop_script.specs.Words.{choice}
use Rattle.loop_script.specs.Tree.{Tree, value, fail, sleep, check, seq, both, first, within}
use Rattle.loop_script.specs.Bounds.{longest_time}

-- the reading of the part n, from those of all parts
abbrev pub part_reading : ℕ → List (Read Tree) → Read Tree
part_reading n [] = misshapen fail
part_reading zero (r ∷ rs) = r
part_reading (suc n) (r ∷ rs) = part_reading n rs

-- `["value",n]`
unfoldable pub value_form : Option Data → Read Tree
value_form d = do
  _ ← arity 2 d
  v ← integer (negsuc 9223372036854775807) (pos 9223372036854775807) (part 1 d)
  done (value v)

-- `["fail"]`
unfoldable pub fail_form : Option Data → Read Tree
fail_form d = do
  _ ← arity 1 d
  done fail

-- `["sleep",us]`
unfoldable pub sleep_form : Option Data → Read Tree
sleep_form d = do
  _ ← arity 2 d
  us ← whole 0 longest_time (part 1 d)
  done (sleep us)

-- `["check"]`
unfoldable pub check_form : Option Data → Read Tree
check_form d = do
  _ ← arity 1 d
  done check

-- two trees joined, from the readings of the parts
abbrev pub pair_from : (Tree → Tree → Tree) → Option Data → (ℕ → Read Tree) → Read Tree
pair_from join d parts = do
  _ ← arity 3 d
  a ← parts 1
  b ← parts 2
  done (join a b)

-- `["within",us,a]`, its part read by what is given
abbrev pub within_from : Option Data → (ℕ → Read Tree) → Read Tree
within_from d parts = do
  _ ← arity 3 d
  us ← whole 0 longest_time (part 1 d)
  a ← parts 2
  done (within us a)

-- the form of each word, parts read by what is given
abbrev pub forms_from : Option Data → (ℕ → Read Tree) → List (List ℕ × Read Tree)
forms_from d parts =
    (codes "value", value_form d)
    ∷ (codes "fail", fail_form d)
    ∷ (codes "sleep", sleep_form d)
    ∷ (codes "check", check_form d)
    ∷ (codes "seq", pair_from seq d parts)
    ∷ (codes "both", pair_from both d parts)
    ∷ (codes "first", pair_from first d parts)
    ∷ (codes "within", within_from d parts)
    ∷ []

-- a tree by its word, parts read by what is given
abbrev pub tree_from : Option Data → (ℕ → Read Tree) → Read Tree
tree_from d parts = choice (word d) (forms_from d parts) (misshapen fail)

-- a tree of data, whose parts are trees
unfoldable mutual
  pub tree_in : Data → Read Tree
  tree_in null = misshapen fail
  tree_in (boolean b) = misshapen fail
  tree_in (number n) = misshapen fail
  tree_in (string s) = misshapen fail
  tree_in (object ms) = misshapen fail
  tree_in (array ds) = tree_from (Some (array ds)) (λ n. part_reading n (trees_in ds))

  pub trees_in : Items → List (Read Tree)
  trees_in no_items = []
  trees_in (item d ds) = tree_in d ∷ trees_in ds

-- a tree, where there is one
unfoldable pub tree : Option Data → Read Tree
tree None = misshapen fail
tree (Some d) = tree_in d

-- `["seq",a,b]`
unfoldable pub seq_form : Option Data → Read Tree
seq_form d = pair_from seq d (λ n. tree (part n d))

-- `["both",a,b]`
unfoldable pub both_form : Option Data → Read Tree
both_form d = pair_from both d (λ n. tree (part n d))

-- `["first",a,b]`
unfoldable pub first_form : Option Data → Read Tree
first_form d = pair_from first d (λ n. tree (part n d))

-- `["within",us,a]`
unfoldable pub within_form : Option Data → Read Tree
within_form d = within_from d (λ n. tree (part n d))

-- the form of each word
abbrev pub forms : Option Data → List (List ℕ × Read Tree)
forms d =
    (codes "value", value_form d)
    ∷ (codes "fail", fail_form d)
    ∷ (codes "sleep", sleep_form d)
    ∷ (codes "check", check_form d)
    ∷ (codes "seq", seq_form d)
    ∷ (codes "both", both_form d)
    ∷ (codes "first", first_form d)
    ∷ (codes "within", within_form d)
    ∷ []
