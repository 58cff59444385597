-- The rows of ids, as rows are put in others' places.
use Rattle.std.proofs.Common.{◌≡◌, ◌≢◌, ℕ, ℤ, ◌<◌, ◌+◌, ◌==◌, Bool, true, false, cond, Option, Some, None, List, [], ◌∷◌, drop, length, map, get_or, refl, ap, sym, ◌∙◌, subst}
use Rattle.std.proofs.lemmas.List.{drop_more}
use Rattle.std.specs.List.{AllByRecursion, cons_option}
use Rattle.source_rows.specs.declared.row.Row.{Row}
use Rattle.source_rows.specs.Rows.{row_of, changed}
use Rattle.source_rows.specs.InOrder.{rows_of}
use Rattle.source_rows.specs.Moves.{with_each, moved_row, with_moved, NoneTwice}
use Rattle.source_rows.proofs.Compared.{are_same, not_same}
use Rattle.source_rows.proofs.Kept.{found_id}

-- a row put in another's place is not that of another id
other_by : (n : ℕ) (d q : Row) (s t : Option Row) → d.id ≢ n → s ≡ t → (b : Bool) → (q.id == d.id) ≡ b → cond ((cond b d q).id == n) (Some (cond b d q)) s ≡ cond (q.id == n) (Some q) t
other_by n d q s t h ih true e =
    let same : q.id ≡ d.id = are_same q.id d.id e in
    let other : (d.id == n) ≡ false = not_same d.id n h in
    let mine : (q.id == n) ≡ false = ap (λ (m : ℕ). m == n) same ∙ other in
    rw (other, mine) ih
other_by n d q s t h ih false e = ap (cond (q.id == n) (Some q)) ih

other : (n : ℕ) (d : Row) (rows : List Row) → d.id ≢ n → row_of n (changed d.id (λ _. d) rows) ≡ row_of n rows
other n d [] h = refl
other n d (q ∷ rows) h = other_by n d q (row_of n (changed d.id (λ _. d) rows)) (row_of n rows) h (other n d rows h) (q.id == d.id) refl

others : (d : Row) (rows : List Row) (ids : List ℕ) → AllByRecursion (λ n. d.id ≢ n) ids → rows_of (changed d.id (λ _. d) rows) ids ≡ rows_of rows ids
others d rows [] h = refl
others d rows (n ∷ ids) h = ap (cons_option (row_of n (changed d.id (λ _. d) rows))) (others d rows ids h.1) ∙ ap (λ (o : Option Row). cons_option o (rows_of rows ids)) (other n d rows h.0)

-- what is left to be moved, once the first of it is
pub record Moves (root : ℕ) (z : ℤ) (order : ℕ) (all rows now : List Row) (ids : List ℕ) : Type 0 where
  pub apart : NoneTwice ids
  pub same : with_each (map (moved_row root z order) (rows_of now ids)) now ≡ with_each (map (moved_row root z order) all) rows

moves_one : (root : ℕ) (z : ℤ) (order : ℕ) (rows : List Row) (ids : List ℕ) (i : ℕ) (r : Row) → i < length ids → NoneTwice (drop i ids) → row_of (get_or ids i 0) rows ≡ Some r
    → Moves root z order (rows_of rows (drop i ids)) rows (changed r.id (λ _. moved_row root z order r) rows) (drop (i + 1) ids)
moves_one root z order rows ids i r less apart is =
    let e = drop_more ids i 0 less in
    let d : Row = moved_row root z order r in
    let far = subst NoneTwice e apart in
    let here : r.id ≡ get_or ids i 0 = found_id (get_or ids i 0) r rows is in
    let rest = subst (λ (n : ℕ). AllByRecursion (λ m. n ≢ m) (drop (i + 1) ids)) (sym here) far.0 in
    let all : rows_of rows (drop i ids) ≡ r ∷ rows_of rows (drop (i + 1) ids) = ap (rows_of rows) e ∙ ap (λ (o : Option Row). cons_option o (rows_of rows (drop (i + 1) ids))) is in
    record {
      apart = far.1;
      same =
          ap (λ (xs : List Row). with_each (map (moved_row root z order) xs) (changed r.id (λ _. d) rows)) (others d rows (drop (i + 1) ids) rest)
          ∙ sym (ap (λ (xs : List Row). with_each (map (moved_row root z order) xs) rows) all);
    }

moves_none : (root : ℕ) (z : ℤ) (order : ℕ) (rows : List Row) (ids : List ℕ) (i : ℕ) → i < length ids → NoneTwice (drop i ids) → row_of (get_or ids i 0) rows ≡ None
    → Moves root z order (rows_of rows (drop i ids)) rows rows (drop (i + 1) ids)
moves_none root z order rows ids i less apart is =
    let e = drop_more ids i 0 less in
    let all : rows_of rows (drop i ids) ≡ rows_of rows (drop (i + 1) ids) = ap (rows_of rows) e ∙ ap (λ (o : Option Row). cons_option o (rows_of rows (drop (i + 1) ids))) is in
    record { apart = (subst NoneTwice e apart).1; same = sym (ap (λ (xs : List Row). with_each (map (moved_row root z order) xs) rows) all) }

pub moves_next : (root : ℕ) (z : ℤ) (order : ℕ) (rows : List Row) (ids : List ℕ) (i : ℕ) → i < length ids → NoneTwice (drop i ids)
    → Moves root z order (rows_of rows (drop i ids)) rows (with_moved root z order (row_of (get_or ids i 0) rows) rows) (drop (i + 1) ids)
moves_next root z order rows ids i less apart = by (row_of (get_or ids i 0) rows) refl
  where
    by : (o : Option Row) → row_of (get_or ids i 0) rows ≡ o → Moves root z order (rows_of rows (drop i ids)) rows (with_moved root z order o rows) (drop (i + 1) ids)
    by None e = moves_none root z order rows ids i less apart e
    by (Some r) e = moves_one root z order rows ids i r less apart e
