-- Laws of the definitions.
use Rattle.std.specs.Prelude.{◌≡◌, ℕ, ◌≤◌, Bool, true, List, [], ◌∷◌, ◌++◌, filter}
use Rattle.std.specs.List.{AllByRecursion}
use Rattle.std.specs.Ordering.{is_lt}
use Rattle.source_rows.specs.declared.row.Row.{Row}
use Rattle.source_rows.specs.Rows.{in_order, placed, stands_before, key_cmp}
use Rattle.source_rows.specs.Order.{Apart}
use Rattle.source_rows.specs.Tree.{IsForest, IsOneTree, IsPostOrder, two_level_key, NotBehind, starts, Fills}

-- what order means
pub record OrderLaws : Type 0 where
  -- a new row is put into its place
  pub push : (rows : List Row) (r : Row) → AllByRecursion (Apart r) rows → in_order (rows ++ r ∷ []) ≡ placed r (in_order rows)
  -- what is left stands as it stood
  pub filtered : (p : Row → Bool) (rows : List Row) → filter p (in_order rows) ≡ in_order (filter p rows)

-- what a tree of rows is
pub record TreeLaws : Type 0 where
  -- one tree has one priority
  pub one : (rows : List Row) → IsForest rows → IsOneTree rows
  -- at any level the order is the post-order of the trees
  pub post_order : (rows : List Row) → IsForest rows → IsPostOrder rows
  -- at two levels it is by priority, the root's number, children before their parent, the own number
  pub two_levels : (rows : List Row) → IsForest rows → AllByRecursion (λ r. r.level ≤ 2) rows
      → AllByRecursion (λ r. AllByRecursion (λ q. stands_before r q ≡ is_lt (key_cmp (two_level_key rows r) (two_level_key rows q))) rows) rows

-- what paths say of trees
pub record PathLaws : Type 0 where
  -- what stands between a path and one that goes on from it goes on from it too
  pub between : (l : ℕ) (p q x : List ℕ) → starts l p q ≡ true → NotBehind q x → NotBehind x p → starts l p x ≡ true
  -- what goes on from a path does not stand behind it
  pub post : (l : ℕ) (p x : List ℕ) → starts l p x ≡ true → Fills l p x → NotBehind x p
