use Rattle.std.proofs.Common.{◌≡◌, true, false, Option, Some, None, sym, subst, List}
use Rattle.std.specs.Prelude.{IfSome, IfNone}
use Rattle.std.specs.Borrow.{Bor}
use Rattle.std.specs.List.{AllByRecursion}
use Rattle.std.specs.Option.{option_copied}
use Rattle.std.specs.Ordering.{is_gt}
use Rattle.source_rows.specs.declared.row.Row.{Row}
use Rattle.source_rows.specs.declared.seats.Seat.{Seat}
use Rattle.source_rows.specs.LastTo.{stands_to, IsLastTo, IsLastRow}
use Rattle.source_rows.specs.Rows.{Key, key_cmp, key_of, row_of}
use Rattle.source_rows.specs.Seats.{in_seats}
use Rattle.source_rows.specs.Tree.{IdsRise}
use Rattle.source_rows.proofs.Filled.{rises_rows_at}
use Rattle.source_rows.proofs.Found.{last_row, has_last, no_last}
use Rattle.source_rows.proofs.InSeats.{rises_in_seats}
use Rattle.source_rows.proofs.Seated.{rises_seats}
use Rattle.source_rows.proofs.table.Table.last_to.Goals as goal

pub last_to-requires : goal.last_to-requires
last_to-requires c = rises_seats c.self.inside.slots c.self.inside.keys c.self.inside.seats c.self.invariant.filled.table c.self.invariant.seated

pub returns-in_err-seat-clause-none : goal.returns-in_err-seat-clause-none
returns-in_err-seat-clause-none c =
    let none = subst (AllByRecursion (λ u. stands_to c.args.key u ≡ false)) c.self.invariant.seated.are c.in_err-seat.ensures.none in
    rw c.from_residual.ensures (no_last c.args.key c.args.self.now (subst (λ (rows : List Row). AllByRecursion (λ u. stands_to c.args.key u ≡ false) (in_seats rows)) c.self.view_is none))

some_by : (key : Key) (rows : List Row) (s : Seat) → IdsRise rows → IsLastTo key (in_seats rows) s → (o : Option (Bor Row)) → option_copied o ≡ row_of s.id rows → IfSome o (λ r. IsLastRow key rows r.now)
some_by key rows s h last None e = tt
some_by key rows s h last (Some r) e = last_row key rows s r.now h (rises_in_seats rows h) last (sym e)

none_by : (key : Key) (rows : List Row) (s : Seat) → IdsRise rows → IsLastTo key (in_seats rows) s → (o : Option (Bor Row)) → option_copied o ≡ row_of s.id rows → IfNone o (AllByRecursion (λ r. is_gt (key_cmp (key_of r) key) ≡ true) rows)
none_by key rows s h last None e = absurd (has_last key rows s h last (sym e))
none_by key rows s h last (Some r) e = tt

rising : (c : goal.After-found) → IdsRise c.args.self.now
rising c = subst IdsRise c.self.view_is (rises_rows_at c.self.inside.slots c.self.inside.keys c.self.invariant.filled.table)

last : (c : goal.After-found) → IsLastTo c.args.key (in_seats c.args.self.now) c.in_ok-seat.seat.now
last c =
    subst (λ (rows : List Row). IsLastTo c.args.key (in_seats rows) c.in_ok-seat.seat.now) c.self.view_is
    (subst (λ (l : List Seat). IsLastTo c.args.key l c.in_ok-seat.seat.now) c.self.invariant.seated.are c.in_ok-seat.ensures.some)

pub returns-clause-some : goal.returns-clause-some
returns-clause-some c = some_by c.args.key c.args.self.now c.in_ok-seat.seat.now (rising c) (last c) c.found.result c.found.ensures

pub returns-clause-none : goal.returns-clause-none
returns-clause-none c = none_by c.args.key c.args.self.now c.in_ok-seat.seat.now (rising c) (last c) c.found.result c.found.ensures
