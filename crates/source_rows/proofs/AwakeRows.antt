-- The first seat that is awake is that of the first row that is.
use Rattle.std.proofs.Common.{◌≡◌, ℕ, ◌&&◌, Bool, true, false, not, cond, Option, Some, None, List, [], ◌∷◌, map, option_map, refl, ap, ◌∙◌}
use Rattle.std.specs.Prelude.{IfSome}
use Rattle.std.specs.List.{AllByRecursion, find}
use Rattle.std.specs.Ordering.{is_lt, ordering_then}
use Rattle.std.specs.declared.cmp.Ordering.{Ordering}
use Rattle.std.specs.declared.cmp.Ordering.TheVariants.{Less, Equal, Greater}
use Rattle.source_rows.specs.declared.row.Row.{Row}
use Rattle.source_rows.specs.declared.sight.Sight.{Sight}
use Rattle.source_rows.specs.Inserted.{inserted}
use Rattle.source_rows.specs.Order.{Apart}
use Rattle.source_rows.specs.Kept.{AllApart}
use Rattle.source_rows.specs.Rows.{key_cmp, key_of, row_of, stands_before, placed, in_order}
use Rattle.source_rows.specs.Tree.{IsForest}
use Rattle.source_rows.specs.Candidates.{sleeps, opened_by, due_at}
use Rattle.source_rows.specs.declared.seats.Seat.{Seat}
use Rattle.source_rows.specs.Seats.{is_ahead, seat_of, in_seats, is_passed, first_awake}
use Rattle.source_rows.specs.Steps.{wakes}
use Rattle.source_rows.proofs.Lists.{all_of}
use Rattle.source_rows.proofs.Order.{all_in_order}
use Rattle.source_rows.proofs.Kept.{equal_not}
use Rattle.source_rows.proofs.Forest.{InForest, members}
use Rattle.source_rows.proofs.Steps.{find_holds}

ahead_by : (o p : Ordering) → (o ≡ Equal → ⊥) → is_lt (ordering_then o p) ≡ is_lt o
ahead_by Less p h = refl
ahead_by Equal p h = absurd (h refl)
ahead_by Greater p h = refl

ahead_is : (r q : Row) → Apart r q → is_ahead (seat_of r) (seat_of q) ≡ stands_before r q
ahead_is r q a = ahead_by (key_cmp (key_of r) (key_of q)) _ (λ e. equal_not r q e a)

mapped_by : (r q : Row) (qs : List Row) (ss : List Seat) → ss ≡ map seat_of (placed r qs) → (b : Bool) → cond b (seat_of r ∷ seat_of q ∷ map seat_of qs) (seat_of q ∷ ss) ≡ map seat_of (cond b (r ∷ q ∷ qs) (q ∷ placed r qs))
mapped_by r q qs ss ih true = refl
mapped_by r q qs ss ih false = ap (λ (ys : List Seat). seat_of q ∷ ys) ih

inserted_mapped : (r : Row) (qs : List Row) → AllByRecursion (Apart r) qs → inserted is_ahead (seat_of r) (map seat_of qs) ≡ map seat_of (placed r qs)
inserted_mapped r [] h = refl
inserted_mapped r (q ∷ qs) h =
    ap (λ (b : Bool). cond b (seat_of r ∷ seat_of q ∷ map seat_of qs) (seat_of q ∷ inserted is_ahead (seat_of r) (map seat_of qs))) (ahead_is r q h.0)
    ∙ mapped_by r q qs (inserted is_ahead (seat_of r) (map seat_of qs)) (inserted_mapped r qs h.1) (stands_before r q)

pub seats_in_order : (rows : List Row) → AllApart rows → in_seats rows ≡ map seat_of (in_order rows)
seats_in_order [] h = refl
seats_in_order (r ∷ rows) h = ap (inserted is_ahead (seat_of r)) (seats_in_order rows h.1) ∙ inserted_mapped r (in_order rows) (all_in_order (Apart r) rows h.0)

awake_by : (r : Row) (o : Option ℕ) (p : Option Row) → o ≡ option_map (λ (x : Row). x.id) p → (u v : Bool) → cond u o (cond v o (Some r.id)) ≡ option_map (λ (x : Row). x.id) (cond (not u && not v) (Some r) p)
awake_by r o p ih true v = ih
awake_by r o p ih false true = ih
awake_by r o p ih false false = refl

awake_mapped : (last : Option Row) (sight : Sight) (qs : List Row) → first_awake (option_map key_of last) sight (map seat_of qs) ≡ option_map (λ (x : Row). x.id) (find (wakes sight last) qs)
awake_mapped last sight [] = refl
awake_mapped last sight (r ∷ qs) =
    awake_by r (first_awake (option_map key_of last) sight (map seat_of qs)) (find (wakes sight last) qs) (awake_mapped last sight qs) (is_passed (option_map key_of last) (key_of r)) (sleeps sight (opened_by r.kind) (due_at r.ready))

pub awake_is : (rows : List Row) (last : Option Row) (sight : Sight) → AllApart rows → first_awake (option_map key_of last) sight (in_seats rows) ≡ option_map (λ (x : Row). x.id) (find (wakes sight last) (in_order rows))
awake_is rows last sight h = ap (first_awake (option_map key_of last) sight) (seats_in_order rows h) ∙ awake_mapped last sight (in_order rows)

there_by : (rows : List Row) (p : Option Row) → IfSome p (λ r. row_of r.id rows ≡ Some r) → (id : ℕ) → Some id ≡ option_map (λ (x : Row). x.id) p → row_of id rows ≡ p
there_by rows None h id e = cc
there_by rows (Some r) h id e = let same : id ≡ r.id = cc in ap (λ (n : ℕ). row_of n rows) same ∙ h

holds_some : (P : Row → Type 0) (f : Row → Bool) (xs : List Row) → AllByRecursion P xs → (o : Option Row) → find f xs ≡ o → IfSome o P
holds_some P f xs h None e = tt
holds_some P f xs h (Some z) e = find_holds P f z xs h e

-- the row of the id that is found is the one that wakes
pub awake_row : (rows : List Row) (last : Option Row) (sight : Sight) → IsForest rows → AllApart rows → (id : ℕ) → Some id ≡ first_awake (option_map key_of last) sight (in_seats rows) → row_of id rows ≡ find (wakes sight last) (in_order rows)
awake_row rows last sight forest apart id e =
    there_by rows (find (wakes sight last) (in_order rows))
    (holds_some (λ r. row_of r.id rows ≡ Some r) (wakes sight last) (in_order rows)
    (all_in_order (λ r. row_of r.id rows ≡ Some r) rows (all_of (InForest rows) (λ r. row_of r.id rows ≡ Some r) (λ r f. f.is) rows (members rows forest))) (find (wakes sight last) (in_order rows)) refl)
    id (e ∙ awake_is rows last sight apart)

none_of : (p : Option Row) → None ≡ option_map (λ (x : Row). x.id) p → p ≡ None
none_of None e = refl
none_of (Some r) e = cc

pub awake_none : (rows : List Row) (last : Option Row) (sight : Sight) → AllApart rows → None ≡ first_awake (option_map key_of last) sight (in_seats rows) → find (wakes sight last) (in_order rows) ≡ None
awake_none rows last sight apart e = none_of (find (wakes sight last) (in_order rows)) (e ∙ awake_is rows last sight apart)
