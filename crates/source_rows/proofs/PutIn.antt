-- A seat put into a side of a tree.
use Rattle.std.proofs.Common.{◌≡◌, ℕ, ◌+◌, ◌<◌, ◌^◌, max, nat_lt, Bool, true, false, cond, List, ◌∷◌, ◌++◌, length, refl, ap, ap₂, sym, ◌∙◌, subst, arith}
use Rattle.std.proofs.lemmas.Bool.Decides.{nat_tests}
use Rattle.cancel_view.specs.Marks.{opening}
use Rattle.source_rows.specs.Inserted.{inserted, Rises}
use Rattle.source_rows.specs.declared.seats.Fork.{Fork}
use Rattle.source_rows.specs.declared.least.Least.{Least}
use Rattle.source_rows.specs.declared.seats.Seat.{Seat}
use Rattle.source_rows.specs.Seats.{is_ahead, least_of, lesser, IsLow}
use Rattle.source_rows.specs.SeatTree.{seats_of, DifferBy, IsEvenFork, IsLowered, AreNearlyEven}
use Rattle.source_rows.specs.Lending.{with_side}
use Rattle.source_rows.proofs.Inserted.{inserted_left, inserted_right}
use Rattle.source_rows.proofs.Ahead.{sooner_order}
use Rattle.std.specs.Prelude.{bit_or}
use Rattle.source_rows.proofs.AllMarks.{marks_more}
use Rattle.source_rows.proofs.Soonest.{least_put}
use Rattle.source_rows.proofs.SeatTree.{length_inserted, sides_shorter}

-- what a fork is once a seat was put into one of its sides, where that side may be higher for it
pub record PutIn (old new : Fork) (seat : Seat) (higher : Bool) : Type 0 where
  pub seats : seats_of new ≡ inserted is_ahead seat (seats_of old)
  pub sooner : IsLow new.sooner
  pub later : IsLow new.later
  pub height : new.height ≡ old.height
  pub least : new.least ≡ least_of (seats_of new)
  pub differ : DifferBy 2 new.sooner.1 new.later.1
  pub still : higher ≡ false → (new.sooner.1 ≡ old.sooner.1) × (new.later.1 ≡ old.later.1)

-- marks and least time of a list with one more seat
least_more : (seat : Seat) (xs : List Seat) → least_of (inserted is_ahead seat xs) ≡ record { marks = bit_or (least_of xs).marks (opening seat.mark); due = lesser seat.due (least_of xs).due }
least_more seat xs =
    ap₂ (λ (w d : ℕ). let l : Least = record { marks = w; due = d } in l) (marks_more seat xs) (least_put (λ s. s.due) seat xs)

-- so they are right in a fork with one more seat, once that is noted
put_least : (old new : Fork) (seat : Seat) → IsEvenFork old → seats_of new ≡ inserted is_ahead seat (seats_of old) → new.least ≡ record { marks = bit_or old.least.marks (opening seat.mark); due = lesser seat.due old.least.due } → new.least ≡ least_of (seats_of new)
put_least old new seat even seats noted =
    noted ∙ (ap (λ (l : Least). let m : Least = record { marks = bit_or l.marks (opening seat.mark); due = lesser seat.due l.due } in m) even.4 ∙ (sym (least_more seat (seats_of old)) ∙ ap least_of (sym seats)))

pub put_sooner : (old : Fork) (seat : Seat) (side : List Seat × ℕ) (least : Least) (higher : Bool) → IsEvenFork old → is_ahead seat old.seat ≡ true → side.0 ≡ inserted is_ahead seat old.sooner.0 → IsLow side → IsLowered side.1 old.sooner.1 → higher ≡ nat_lt old.sooner.1 side.1
    → least ≡ record { marks = bit_or old.least.marks (opening seat.mark); due = lesser seat.due old.least.due } → PutIn old (record old { least = least; sooner = side }) seat higher
put_sooner old seat side least higher even before is low lowered h noted =
    let seats = ap (λ (x : List Seat). x ++ old.seat ∷ old.later.0) is ∙ sym (inserted_left is_ahead seat old.sooner.0 old.seat old.later.0 before) in record {
      seats = seats;
      sooner = low;
      later = even.3;
      height = refl;
      least = put_least old (record old { least = least; sooner = side }) seat even seats noted;
      differ = let a = even.1 in let b = lowered in (omega (arith, a.0, a.1, b.0, b.1), omega (arith, a.0, a.1, b.0, b.1));
      still = λ e. (let same : nat_lt old.sooner.1 side.1 ≡ false = sym h ∙ e in let b = lowered in grind (arith, nat_tests, same, b.0, b.1), refl);
    }

pub put_later : (old : Fork) (seat : Seat) (side : List Seat × ℕ) (least : Least) (higher : Bool) → IsEvenFork old → Rises is_ahead (seats_of old) → is_ahead seat old.seat ≡ false → side.0 ≡ inserted is_ahead seat old.later.0 → IsLow side → IsLowered side.1 old.later.1
    → higher ≡ nat_lt old.later.1 side.1 → least ≡ record { marks = bit_or old.least.marks (opening seat.mark); due = lesser seat.due old.least.due } → PutIn old (record old { least = least; later = side }) seat higher
put_later old seat side least higher even rises before is low lowered h noted =
    let seats = ap (λ (x : List Seat). old.sooner.0 ++ old.seat ∷ x) is ∙ sym (inserted_right is_ahead sooner_order seat old.sooner.0 old.seat old.later.0 rises before) in record {
      seats = seats;
      sooner = even.2;
      later = low;
      height = refl;
      least = put_least old (record old { least = least; later = side }) seat even seats noted;
      differ = let a = even.1 in let b = lowered in (omega (arith, a.0, a.1, b.0, b.1), omega (arith, a.0, a.1, b.0, b.1));
      still = λ e. (refl, let same : nat_lt old.later.1 side.1 ≡ false = sym h ∙ e in let b = lowered in grind (arith, nat_tests, same, b.0, b.1));
    }

-- in the side where it belongs
pub put_side : (old : Fork) (seat : Seat) (was side : List Seat × ℕ) (least : Least) (first higher : Bool) → IsEvenFork old → Rises is_ahead (seats_of old) → is_ahead seat old.seat ≡ first → was ≡ cond first old.sooner old.later
    → side.0 ≡ inserted is_ahead seat was.0 → IsLow side → IsLowered side.1 was.1 → higher ≡ nat_lt was.1 side.1 → least ≡ record { marks = bit_or old.least.marks (opening seat.mark); due = lesser seat.due old.least.due }
    → PutIn old (with_side (record old { least = least }) first side) seat higher
put_side old seat was side least true higher even rises before at is low lowered h noted =
    put_sooner old seat side least higher even before (is ∙ ap (λ (v : List Seat × ℕ). inserted is_ahead seat v.0) at) low (subst (λ (v : List Seat × ℕ). IsLowered side.1 v.1) at lowered) (h ∙ ap (λ (v : List Seat × ℕ). nat_lt v.1 side.1) at) noted
put_side old seat was side least false higher even rises before at is low lowered h noted =
    put_later old seat side least higher even rises before (is ∙ ap (λ (v : List Seat × ℕ). inserted is_ahead seat v.0) at) low (subst (λ (v : List Seat × ℕ). IsLowered side.1 v.1) at lowered) (h ∙ ap (λ (v : List Seat × ℕ). nat_lt v.1 side.1) at) noted

-- where no side is higher, the fork is even
pub put_even : (old new : Fork) (seat : Seat) → IsEvenFork old → PutIn old new seat false → IsEvenFork new
put_even old new seat even put =
    let same = put.still refl in
    let a = even.1 in (
      put.height ∙ (even.0 ∙ ap₂ (λ (m n : ℕ). max m n + 1) (sym same.0) (sym same.1)),
      (omega (arith, same.0, same.1, a.0, a.1), omega (arith, same.0, same.1, a.0, a.1)),
      put.sooner,
      put.later,
      put.least,
    )

-- the sides are near enough to be balanced
pub put_near : (old new : Fork) (seat : Seat) (higher : Bool) → PutIn old new seat higher → length (seats_of old) < 2 ^ 63 → AreNearlyEven new.sooner new.later
put_near old new seat higher put few =
    let more = ap length put.seats ∙ length_inserted is_ahead seat (seats_of old) in
    let parts = sides_shorter new.sooner.0 new.seat new.later.0 in
    (put.differ, put.sooner, put.later, omega (arith, more, parts, few))
