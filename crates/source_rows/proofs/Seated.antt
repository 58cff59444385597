-- The seats of rows beside the rows: what an edit of both leaves.
use Rattle.std.proofs.Common.{◌≡◌, ◌≤◌, ◌<◌, ◌^◌, ◌+◌, ℕ, ℤ, Bool, true, false, not, cond, Some, List, [], ◌∷◌, ◌++◌, length, filter, refl, ap, sym, ◌∙◌, subst, arith}
use Rattle.std.specs.List.{AllByRecursion, list_any}
use Rattle.std.specs.Ordering.{is_eq}
use Rattle.slab.specs.Slab.{Slab}
use Rattle.loop_script.specs.Bounds.{count_end}
use Rattle.source_rows.specs.declared.row.Row.{Row}
use Rattle.source_rows.specs.Candidates.{mark_number, due_at}
use Rattle.source_rows.specs.Inserted.{inserted, Rises}
use Rattle.source_rows.specs.Rows.{key_of, row_of, has_id, changed}
use Rattle.source_rows.specs.Slots.{rows_at, IsTable}
use Rattle.source_rows.specs.declared.seats.Seat.{Seat}
use Rattle.source_rows.specs.Seats.{seat_cmp, is_ahead, is_other, stays, swapped, without, replaced, seat_of, in_seats, fewest, IsLow, IsSeated}
use Rattle.source_rows.specs.Tree.{IdsRise}
use Rattle.source_rows.proofs.SeatTree.{length_inserted, length_filter}
use Rattle.source_rows.proofs.Filled.{few_before, rises_rows_at}
use Rattle.source_rows.proofs.Ahead.{one_key, same_time}
use Rattle.source_rows.proofs.InSeats.{rises_in_seats, in_seats-push, in_seats-removed, in_seats-changed, in_seats-swapped, in_seats-same, seated}

length_in_seats : (rows : List Row) → length (in_seats rows) ≡ length rows
length_in_seats [] = refl
length_in_seats (r ∷ rows) =
    let one : length (in_seats (r ∷ rows)) ≡ length (in_seats rows) + 1 = length_inserted {A = Seat} is_ahead (seat_of r) (in_seats rows) in
    let ih = length_in_seats rows in
    omega (arith, one, ih)

pub rises_seats : (s : Slab Row) (es : List (ℕ × ℕ)) (ss : List Seat × ℕ) → IsTable s es → IsSeated (rows_at s es) ss → Rises is_ahead ss.0
rises_seats s es ss h k = rw k.are (rises_in_seats (rows_at s es) (rises_rows_at s es h))

pub seats_before : (s : Slab Row) (es : List (ℕ × ℕ)) (ss : List Seat × ℕ) (id : ℕ) → IsTable s es → IsSeated (rows_at s es) ss → AllByRecursion (λ q. q.id < id) (rows_at s es) → length ss.0 ≤ id
seats_before s es ss id h k below =
    let many = ap (λ (l : List Seat). length l) k.are ∙ length_in_seats (rows_at s es) in
    let few = few_before s es id h below in
    omega (arith, many, few)

pub same_seated : (rows new : List Row) (ss : List Seat × ℕ) → IsSeated rows ss → new ≡ rows → IsSeated new ss
same_seated rows new ss h e = subst (λ (l : List Row). IsSeated l ss) (sym e) h

pub pushed_seated : (rows new : List Row) (r : Row) (ss us : List Seat × ℕ) → IsSeated rows ss → new ≡ rows ++ r ∷ [] → AllByRecursion (λ q. q.id < r.id) rows → length ss.0 ≤ r.id → r.id < 2 ^ 63
    → us.0 ≡ inserted is_ahead (seat_of r) ss.0 → IsLow us → IsSeated new us
pushed_seated rows new r ss us h n above before small e low = record {
  are = e ∙ (ap (inserted is_ahead (seat_of r)) h.are ∙ (sym (in_seats-push rows r above) ∙ ap in_seats (sym n)));
  few = let one = ap (λ (l : List Seat). length l) e ∙ length_inserted is_ahead (seat_of r) ss.0 in omega (arith, one, before, small);
  low = low;
}

not_false : (b : Bool) → not b ≡ false → b ≡ true
not_false true h = refl
not_false false h = cc

replaced_by : (row old : Row) (rows : List Row) → IdsRise rows → row_of row.id rows ≡ Some old → (b : Bool) → is_other (seat_of old) (seat_of row) ≡ b
    → cond b (cond (stays (seat_of old) (seat_of row)) (swapped (seat_of old) (seat_of row) (in_seats rows)) (inserted is_ahead (seat_of row) (without (seat_of old) (in_seats rows)))) (in_seats rows) ≡ in_seats (changed row.id (λ _. row) rows)
replaced_by row old rows h e true o = stays_by (stays (seat_of old) (seat_of row)) refl
  where
    stays_by : (c : Bool) → stays (seat_of old) (seat_of row) ≡ c → cond c (swapped (seat_of old) (seat_of row) (in_seats rows)) (inserted is_ahead (seat_of row) (without (seat_of old) (in_seats rows))) ≡ in_seats (changed row.id (λ _. row) rows)
    stays_by true k = sym (in_seats-swapped row old rows (sym (one_key (key_of old) (key_of row) k)) h e)
    stays_by false k = sym (in_seats-changed row old rows h e)
replaced_by row old rows h e false o =
    sym (in_seats-same row old rows h e (same_time (seat_of old) (seat_of row) (not_false (is_eq (seat_cmp (seat_of old) (seat_of row))) o)))

length_changed : (id : ℕ) (f : Row → Row) (rows : List Row) → length (changed id f rows) ≡ length rows
length_changed id f [] = refl
length_changed id f (r ∷ rows) = let ih = length_changed id f rows in omega (arith, ih)

pub put_seated : (rows new : List Row) (row old : Row) (ss us : List Seat × ℕ) → IsSeated rows ss → IdsRise rows → row_of row.id rows ≡ Some old → new ≡ changed row.id (λ _. row) rows
    → us.0 ≡ replaced (seat_of old) (seat_of row) ss.0 → IsLow us → IsSeated new us
put_seated rows new row old ss us h rising f n e low =
    let are : us.0 ≡ in_seats new = e ∙ (ap (replaced (seat_of old) (seat_of row)) h.are ∙ (replaced_by row old rows rising f (is_other (seat_of old) (seat_of row)) refl ∙ ap in_seats (sym n))) in
    record {
      are = are;
      few =
          let now = ap (λ (l : List Seat). length l) are ∙ (length_in_seats new ∙ (ap (λ (l : List Row). length l) n ∙ length_changed row.id (λ _. row) rows)) in
          let before = ap (λ (l : List Seat). length l) h.are ∙ length_in_seats rows in
          let few = h.few in
          omega (arith, now, before, few);
      low = low;
    }

-- a row that keeps its key has its seat changed where it stands
pub set_seated : (rows new : List Row) (row old : Row) (ss us : List Seat × ℕ) → IsSeated rows ss → IdsRise rows → row_of row.id rows ≡ Some old → new ≡ changed row.id (λ _. row) rows → key_of row ≡ key_of old
    → us.0 ≡ swapped (seat_of old) (seat_of row) ss.0 → us.1 ≡ ss.1 → IsSeated new us
set_seated rows new row old ss us h rising f n k e height =
    let are : us.0 ≡ in_seats new = e ∙ (ap (swapped (seat_of old) (seat_of row)) h.are ∙ (sym (in_seats-swapped row old rows k rising f) ∙ ap in_seats (sym n))) in
    let now = ap (λ (l : List Seat). length l) are ∙ (length_in_seats new ∙ (ap (λ (l : List Row). length l) n ∙ length_changed row.id (λ _. row) rows)) in
    let before = ap (λ (l : List Seat). length l) h.are ∙ length_in_seats rows in
    let same : length us.0 ≡ length ss.0 = now ∙ sym before in
    record { are = are; few = subst (λ (n : ℕ). n ≤ count_end) (sym same) h.few; low = low_of us ss same height h.low }
  where
    low_of : (us ss : List Seat × ℕ) → length us.0 ≡ length ss.0 → us.1 ≡ ss.1 → IsLow ss → IsLow us
    low_of us ss same height low = (subst (λ (n : ℕ). n ≤ length us.0) (sym height) (subst (λ (n : ℕ). ss.1 ≤ n) (sym same) low.0), subst (λ (n : ℕ). fewest n ≤ length us.0) (sym height) (subst (λ (n : ℕ). fewest ss.1 ≤ n) (sym same) low.1))

-- a row that keeps its seat leaves the seats as they are
pub kept_seated : (rows new : List Row) (row old : Row) (ss : List Seat × ℕ) → IsSeated rows ss → IdsRise rows → row_of row.id rows ≡ Some old → new ≡ changed row.id (λ _. row) rows → seat_of old ≡ seat_of row → IsSeated new ss
kept_seated rows new row old ss h rising f n e = record { are = h.are ∙ (sym (in_seats-same row old rows rising f e) ∙ ap in_seats (sym n)); few = h.few; low = h.low }

abbrev due_from : Row → ℕ → Seat
due_from r n = record { key = key_of r; id = r.id; mark = mark_number r.kind; due = n }

-- a row that is due when it was keeps its seat
pub seat_kept : (r : Row) (t : ℤ) → due_at r.ready ≡ due_at t → seat_of r ≡ seat_of (record r { ready = t })
seat_kept r t e = ap (due_from r) e

pub there_seated : (rows : List Row) (id : ℕ) (old : Row) (ss : List Seat × ℕ) → IsSeated rows ss → row_of id rows ≡ Some old → list_any (λ u. is_eq (seat_cmp (seat_of old) u)) ss.0 ≡ true
there_seated rows id old ss h f = ap (list_any (λ u. is_eq (seat_cmp (seat_of old) u))) h.are ∙ seated id old rows f

pub left_seated : (rows new : List Row) (id : ℕ) (r : Row) (ss us : List Seat × ℕ) → IsSeated rows ss → IdsRise rows → row_of id rows ≡ Some r → new ≡ filter (λ q. not (has_id id q)) rows
    → us.0 ≡ without (seat_of r) ss.0 → IsLow us → IsSeated new us
left_seated rows new id r ss us h rising f n e low = record {
  are = e ∙ (ap (without (seat_of r)) h.are ∙ (sym (in_seats-removed id r rows rising f) ∙ ap in_seats (sym n)));
  few =
      let now = ap (λ (l : List Seat). length l) e in
      let fewer = length_filter (λ u. not (is_eq (seat_cmp (seat_of r) u))) ss.0 in
      let few = h.few in
      omega (arith, now, fewer, few);
  low = low;
}
