-- Lists of rows that are filtered, extended and put in order.
use Rattle.std.proofs.Common.{◌≡◌, ℕ, ◌+◌, ◌≤◌, Bool, true, false, cond, List, [], ◌∷◌, ◌++◌, map, length, filter, refl, ◌∙◌, arith}
use Rattle.std.proofs.lemmas.List.{length-map}
use Rattle.std.proofs.lemmas.List.Sums.{length-filter, count_by-le-length}
use Rattle.std.specs.List.{AllByRecursion}
use Rattle.source_rows.specs.declared.row.Row.{Row}
use Rattle.source_rows.specs.Rows.{in_order, placed, stands_before}
use Rattle.context_core.specs.Ready.{Own, selected, ready_rows, is_ready, is_most_urgent}

-- what holds of each row stays so when one is taken away, or put at the end
pub each_kept : (P : Row → Type 0) (p : Row → Bool) (r : Row) (rows : List Row) (b : Bool) → P r → AllByRecursion P (filter p rows) → AllByRecursion P (cond b (r ∷ filter p rows) (filter p rows))
each_kept P p r rows true h hs = (h, hs)
each_kept P p r rows false h hs = hs

pub each-filter : (P : Row → Type 0) (p : Row → Bool) (rows : List Row) → AllByRecursion P rows → AllByRecursion P (filter p rows)
each-filter P p [] h = tt
each-filter P p (r ∷ rows) h = each_kept P p r rows (p r) h.0 (each-filter P p rows h.1)

pub each-push : {A : Type 0} (P : A → Type 0) (xs : List A) (x : A) → AllByRecursion P xs → P x → AllByRecursion P (xs ++ x ∷ [])
each-push P [] x h p = (p, tt)
each-push P (y ∷ xs) x h p = (h.0, each-push P xs x h.1 p)

pub each_weaker : (P Q : Row → Type 0) (f : (r : Row) → P r → Q r) (rows : List Row) → AllByRecursion P rows → AllByRecursion Q rows
each_weaker P Q f [] h = tt
each_weaker P Q f (r ∷ rows) h = (f r h.0, each_weaker P Q f rows h.1)

length_placed : (r q : Row) (qs : List Row) (b : Bool) → length (placed r qs) ≡ length qs + 1 → length (cond b (r ∷ q ∷ qs) (q ∷ placed r qs)) ≡ length qs + 2
length_placed r q qs true h = grind arith
length_placed r q qs false h = grind (arith, h)

length-placed : (r : Row) (qs : List Row) → length (placed r qs) ≡ length qs + 1
length-placed r [] = refl
length-placed r (q ∷ qs) = length_placed r q qs (stands_before r q) (length-placed r qs) ∙ omega arith

length-in_order : (rows : List Row) → length (in_order rows) ≡ length rows
length-in_order [] = refl
length-in_order (r ∷ rows) = length-placed r (in_order rows) ∙ grind (arith, length-in_order rows)

pub length-selected : (ready : Own) (busy : List ℕ) (rows : List Row) → length (selected ready busy rows) ≤ length rows
length-selected ready busy rows =
    let some = ready_rows ready busy rows in
    let kept = filter (is_most_urgent some) some in
    let e : length (map (λ (r : Row). r.id) (in_order kept)) ≡ length (in_order kept) = simp length-map in
    omega (
      arith,
      e,
      length-in_order kept,
      length-filter (is_most_urgent some) some,
      count_by-le-length (is_most_urgent some) some,
      length-filter (is_ready ready busy rows) rows,
      count_by-le-length (is_ready ready busy rows) rows,
    )
