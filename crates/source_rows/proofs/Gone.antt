-- A row gone with all that are under it.
use Rattle.std.proofs.Common.{◌≡◌, ℕ, ◌<◌, ◌≤◌, true, false, not, Some, None, List, filter, ap, ◌∙◌, subst}
use Rattle.std.specs.List.{AllByRecursion}
use Rattle.std.specs.Ordering.{is_lt, is_gt}
use Rattle.source_rows.specs.declared.row.Row.{Row}
use Rattle.source_rows.specs.Rows.{key_cmp, key_of, row_of, is_under, stands_before}
use Rattle.source_rows.specs.Tree.{IsForest}
use Rattle.source_rows.specs.Order.{Apart}
use Rattle.source_rows.specs.Kept.{IsBelow, IsSound}
use Rattle.source_rows.specs.Removal.{StandNear}
use Rattle.source_rows.proofs.Lists.{all_of, all_filter, pairs_filter}
use Rattle.source_rows.proofs.Order.{key_total}
use Rattle.source_rows.proofs.Forest.{InForest, members, found}
use Rattle.source_rows.proofs.Edits.{forest_filter, under_some}
use Rattle.source_rows.proofs.Post.{back_by, flip_by, children_first, together}
use Rattle.source_rows.proofs.Kept.{found_id}
use Rattle.source_rows.proofs.Taken.{all_stay}

turned : (a b : Row) → stands_before a b ≡ false → is_gt (key_cmp (key_of b) (key_of a)) ≡ false
turned a b h = ap is_gt (key_total.antisymm (key_of b) (key_of a)) ∙ (back_by (key_cmp (key_of a) (key_of b)) ∙ h)

back : (a b : Row) → is_gt (key_cmp (key_of b) (key_of a)) ≡ false → stands_before a b ≡ false
back a b h = ap is_lt (key_total.antisymm (key_of a) (key_of b)) ∙ (flip_by (key_cmp (key_of b) (key_of a)) ∙ h)

near_own : (rows : List Row) (a : Row) → AllByRecursion (InForest rows) rows → InForest rows a → StandNear a.id (key_of a) rows
near_own rows a all f = record {
  behind = all_of (InForest rows) (λ q. is_under a.id q ≡ true → is_gt (key_cmp (key_of q) (key_of a)) ≡ false) (λ q g u. turned a q (children_first rows all a q f g u)) rows all;
  between = all_of (InForest rows) (λ q. AllByRecursion (λ x. is_under a.id q ≡ true → is_lt (key_cmp (key_of x) (key_of q)) ≡ false → is_gt (key_cmp (key_of x) (key_of a)) ≡ false → is_under a.id x ≡ true) rows)
      (λ q g. all_of (InForest rows) (λ x. is_under a.id q ≡ true → is_lt (key_cmp (key_of x) (key_of q)) ≡ false → is_gt (key_cmp (key_of x) (key_of a)) ≡ false → is_under a.id x ≡ true)
      (λ x h u k j. together rows all a q x f g h u k (back a x j)) rows all) rows all;
}

-- the rows under a row stand next to each other, up to its key
pub near : (rows : List Row) (id : ℕ) (a : Row) → IsForest rows → row_of id rows ≡ Some a → StandNear id (key_of a) rows
near rows id a f is =
    let all = members rows f in
    subst (λ (n : ℕ). StandNear n (key_of a) rows) (found_id id a rows is) (near_own rows a all (found (InForest rows) id a rows all is))

pub none_gone : (id : ℕ) (rows : List Row) → IsForest rows → row_of id rows ≡ None → filter (λ r. not (is_under id r)) rows ≡ rows
none_gone id rows f none =
    let all = members rows f in
    all_stay (is_under id) rows (all_of (InForest rows) (λ r. is_under id r ≡ false) (λ r g. under_some rows all id none r g) rows all)

pub sound_filter : (id : ℕ) (rows : List Row) (i n l : ℕ) → IsSound rows i n l → IsSound (filter (λ r. not (is_under id r)) rows) i n l
sound_filter id rows i n l s =
    let p = λ (r : Row). not (is_under id r) in
    record {
      below = all_filter (λ r. IsBelow n r.path) p rows s.below;
      fresh = all_filter (λ r. r.id < i) p rows s.fresh;
      rising = pairs_filter (λ r q. r.id < q.id) p rows s.rising;
      apart = pairs_filter Apart p rows s.apart;
      within = all_filter (λ r. r.level ≤ l) p rows s.within;
      some = s.some;
      few = s.few;
      numbered = all_filter (λ r. r.order < n) p rows s.numbered;
      numbers = s.numbers;
      forest = forest_filter id rows s.forest;
    }
