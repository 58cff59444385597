-- What the steps of a move of a tree come to.
use Rattle.std.proofs.Common.{◌≡◌, ◌≢◌, ℕ, ℤ, ◌<◌, ◌+◌, ◌^◌, Bool, Some, List, map, filter, ap, sym, ◌∙◌, arith}
use Rattle.source_rows.specs.declared.row.Row.{Row}
use Rattle.std.specs.List.{AllByRecursion}
use Rattle.source_rows.specs.Rows.{Key, row_of, is_under, in_order, moved, changed}
use Rattle.source_rows.proofs.Alone.{all_own, one_moved}
use Rattle.source_rows.proofs.Kept.{one_changed}
use Rattle.source_rows.proofs.MayBe.{NoParent}
use Rattle.source_rows.specs.Kept.{IsSound}
use Rattle.source_rows.proofs.Kin.{kins}
use Rattle.source_rows.specs.InOrder.{rows_of}
use Rattle.source_rows.specs.Moves.{with_each, moved_row, NoneTwice}
use Rattle.source_rows.specs.Tree.{IdsRise}
use Rattle.source_rows.proofs.Lists.{all_true, pairs_map, pairs_filter, pairs_with}
use Rattle.source_rows.proofs.Order.{pairs_in_order}
use Rattle.source_rows.specs.Band.{first_key, last_key, stands_between}
use Rattle.source_rows.proofs.Replanted.{moved_id}
use Rattle.source_rows.proofs.Moved.{sound_moved, not_moved}
use Rattle.source_rows.proofs.Band.{picked, moved_tree, all_changed}

-- the rows between the keys of a root's tree
pub tree_picked : (x : Row) (rows : List Row) (i n l : ℕ) (keys : Key × Key) → IsSound rows i n l → row_of x.id rows ≡ Some x → x.level ≡ 1 → keys ≡ (first_key x, last_key x)
    → rows_of rows (map (λ r. r.id) (filter (stands_between keys.0 keys.1) (in_order rows))) ≡ filter (is_under x.id) (in_order rows)
tree_picked x rows i n l keys s is level e =
    ap (λ (p : Key × Key). rows_of rows (map (λ r. r.id) (filter (stands_between p.0 p.1) (in_order rows)))) e ∙ picked x n rows s.rising (kins x n rows s.forest is level s.below)

-- the ids of rows in order that a test takes are not those of one another
pub none_twice : (p : Row → Bool) (rows : List Row) → IdsRise rows → NoneTwice (map (λ r. r.id) (filter p (in_order rows)))
none_twice p rows h =
    pairs_map (λ (a b : Row). a.id ≢ b.id) (λ (m n : ℕ). m ≢ n) (λ r. r.id) (λ a b far. far) (filter p (in_order rows))
    (pairs_filter (λ (a b : Row). a.id ≢ b.id) p (in_order rows) (pairs_in_order (λ a b. a.id ≢ b.id) (λ a b far e. far (sym e)) rows
    (pairs_with (λ (a b : Row). a.id < b.id) (λ a b. a.id ≢ b.id) (λ r. Unit {0}) (λ a b x y less e. absurd (omega (arith, e, less))) rows (all_true (λ r. Unit {0}) (λ r. tt) rows) h)))

-- the set in which the rows of a tree were moved is the set with the tree moved
pub record TreeMoves (x : Row) (z : ℤ) (rows : List Row) (i n l : ℕ) (new : List Row) : Type 0 where
  pub table : new ≡ map (moved x.id z n) rows
  pub sound : IsSound (map (moved x.id z n) rows) i (n + 1) l

pub tree_moves : (x : Row) (z : ℤ) (rows : List Row) (i n l : ℕ) (ids : List ℕ) (new : List Row) → n < 2 ^ 63 → IsSound rows i n l → row_of x.id rows ≡ Some x → x.level ≡ 1
    → rows_of rows ids ≡ filter (is_under x.id) (in_order rows) → new ≡ with_each (map (moved_row x.id z n) (rows_of rows ids)) rows → TreeMoves x z rows i n l new
tree_moves x z rows i n l ids new f s is level t m = record {
  table =
      let made : map (moved_row x.id z n) (rows_of rows ids) ≡ map (moved x.id z n) (filter (is_under x.id) (in_order rows)) = ap (map (moved_row x.id z n)) t ∙ moved_tree x.id z n rows in
      m ∙ (ap (λ (ms : List Row). with_each ms rows) made ∙ all_changed (is_under x.id) (moved x.id z n) (moved_id x.id z n) (not_moved x.id z n) rows s.rising);
  sound = sound_moved x z rows i n l f (kins x n rows s.forest is level s.below) is level s;
}

-- where no row has a parent, the root alone is put in its place
pub root_moves : (x : Row) (z : ℤ) (rows : List Row) (i n l : ℕ) (new : List Row) → n < 2 ^ 63 → IsSound rows i n l → row_of x.id rows ≡ Some x → x.level ≡ 1 → AllByRecursion NoParent rows
    → new ≡ changed x.id (λ _. moved_row x.id z n x) rows → TreeMoves x z rows i n l new
root_moves x z rows i n l new f s is level h m = record {
  table = m ∙ (one_changed x.id x (moved_row x.id z n) rows s.rising is ∙ one_moved x.id z n rows (all_own x.id rows s.forest h));
  sound = sound_moved x z rows i n l f (kins x n rows s.forest is level s.below) is level s;
}
