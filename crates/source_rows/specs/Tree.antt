-- How rows stand in trees.
use Rattle.std.specs.Prelude.{◌≡◌, ◌≢◌, ℕ, ◌<◌, ◌≤◌, ◌+◌, zero, suc, ◌==◌, ◌&&◌, Bool, true, false, Option, Some, None, List, [], ◌∷◌}
use Rattle.std.specs.List.{AllByRecursion}
use Rattle.std.specs.Ordering.{is_gt, nat_cmp}
use Rattle.std.specs.Cmp.Lexicographic.{slice_cmp}
use Rattle.loop_script.specs.Bounds.{count_end}
use Rattle.source_rows.specs.declared.row.Row.{Row}
use Rattle.source_rows.specs.Row.{no_number, root_lineage, root_path, lineage_under, path_under}
use Rattle.source_rows.specs.Rows.{Key, row_of, is_under, stands_before}
use Rattle.source_rows.specs.Lists.{Pairs}
use Rattle.loop_script.specs.Units.{SourceId}

-- ---- rows as trees

-- the ids rise
abbrev pub IdsRise : List Row → Type 0
IdsRise rows = Pairs (λ r q. r.id < q.id) rows

-- no two rows have one order number
abbrev pub OrdersDiffer : List Row → Type 0
OrdersDiffer rows = Pairs (λ r q. r.order ≢ q.order) rows

-- a row that stands below none
pub record IsRoot (r : Row) : Type 0 where
  pub level : r.level ≡ 1
  pub lineage : r.lineage ≡ root_lineage r.id
  pub path : r.path ≡ root_path r.order

-- the lineage and the path of a row are its parent's, with its own id and its own number
pub record IsChildOf (parent r : Row) : Type 0 where
  pub level : r.level ≡ parent.level + 1
  pub lineage : r.lineage ≡ lineage_under parent.level parent.lineage r.id
  pub path : r.path ≡ path_under parent.level parent.path r.order
  pub priority : r.priority ≡ parent.priority

-- a row with no parent is a root; else the parent is one of the rows
abbrev pub HasPlace : List Row → Option SourceId → Row → Type 0
HasPlace rows None r = IsRoot r
HasPlace rows (Some id) r = (parent : Row) × (row_of id rows ≡ Some parent) × IsChildOf parent r

-- rows in trees
pub record IsForest (rows : List Row) : Type 0 where
  pub rising : IdsRise rows
  pub placed : AllByRecursion (λ r. HasPlace rows r.parent r) rows
  pub differ : OrdersDiffer rows
  pub numbers : AllByRecursion (λ r. r.order < count_end) rows
  pub levels : AllByRecursion (λ r. r.level ≤ 4) rows

-- ---- what follows

-- a row under another has its priority
abbrev pub IsOneTree : List Row → Type 0
IsOneTree rows = AllByRecursion (λ r. AllByRecursion (λ q. is_under r.id q ≡ true → q.priority ≡ r.priority) rows) rows

-- a row stands behind all that are under it
abbrev pub ChildrenFirst : List Row → Type 0
ChildrenFirst rows = AllByRecursion (λ r. AllByRecursion (λ q. is_under r.id q ≡ true → stands_before r q ≡ false) rows) rows

-- what stands between a row and one under it is under it too
abbrev pub Together : List Row → Type 0
Together rows = AllByRecursion (λ r. AllByRecursion (λ q. AllByRecursion (λ x. is_under r.id q ≡ true → stands_before x q ≡ false → stands_before r x ≡ false → is_under r.id x ≡ true) rows) rows) rows

-- the children of one row stand by their own numbers, and so do roots of one priority
abbrev pub SiblingsByNumber : List Row → Type 0
SiblingsByNumber rows = AllByRecursion (λ r. AllByRecursion (λ q. r.parent ≡ q.parent → r.priority ≡ q.priority → r.order < q.order → stands_before r q ≡ true) rows) rows

-- the order is the post-order of the trees
pub record IsPostOrder (rows : List Row) : Type 0 where
  pub children_first : ChildrenFirst rows
  pub together : Together rows
  pub siblings : SiblingsByNumber rows

-- the order number of the root at two levels: the parent's, or the own
abbrev pub order_or : ℕ → Option Row → ℕ
order_or n None = n
order_or n (Some r) = r.order

-- the row of a parent
abbrev pub parent_of : List Row → Option SourceId → Option Row
parent_of rows None = None
parent_of rows (Some id) = row_of id rows

-- 0 for a child, 1 for a root
abbrev pub side_of : Option SourceId → ℕ
side_of None = 1
side_of (Some id) = 0

-- priority; then the root's number; then children before their parent; then the own number
abbrev pub two_level_key : List Row → Row → Key
two_level_key rows r = (r.priority, order_or r.order (parent_of rows r.parent) ∷ side_of r.parent ∷ r.order ∷ [])

-- ---- paths

-- the path does not stand behind the other
abbrev pub NotBehind : List ℕ → List ℕ → Type 0
NotBehind p q = is_gt (slice_cmp nat_cmp p q) ≡ false

-- the first l numbers are the same
abbrev pub starts : ℕ → List ℕ → List ℕ → Bool
starts zero p q = true
starts (suc l) [] q = false
starts (suc l) (a ∷ p) [] = false
starts (suc l) (a ∷ p) (b ∷ q) = (a == b) && starts l p q

-- behind the first l numbers the path is filled up, and another as long has no greater number there
abbrev pub Fills : ℕ → List ℕ → List ℕ → Type 0
Fills l [] [] = Unit {0}
Fills l [] (b ∷ q) = ⊥
Fills l (a ∷ p) [] = ⊥
Fills zero (a ∷ p) (b ∷ q) = (a ≡ no_number) × (b ≤ no_number) × Fills zero p q
Fills (suc l) (a ∷ p) (b ∷ q) = Fills l p q
