-- A fork of which a side has lost a seat.
use Rattle.std.proofs.Common.{◌≡◌, ℕ, ◌+◌, ◌≤◌, ◌^◌, ◌⊎◌, inl, inr, max, Bool, true, false, not, cond, nat_lt, List, ◌∷◌, ◌++◌, length, refl, sym, ap, subst, ◌∙◌, arith}
use Rattle.std.proofs.lemmas.Bool.Decides.{nat_tests}
use Rattle.std.specs.List.{list_any}
use Rattle.std.specs.Ordering.{is_eq}
use Rattle.source_rows.specs.Inserted.{Rises}
use Rattle.source_rows.specs.declared.seats.Fork.{Fork}
use Rattle.source_rows.specs.declared.seats.Seat.{Seat}
use Rattle.source_rows.specs.Seats.{seat_cmp, is_ahead, without, least_of, IsLow}
use Rattle.source_rows.specs.SeatTree.{seats_of, DifferBy, IsEvenFork, AreNearlyEven, IsHeight, IsLowered}
use Rattle.source_rows.specs.Lending.{with_side}
use Rattle.source_rows.proofs.Ahead.{behind, there_left, there_right, without_left, without_right}
use Rattle.source_rows.proofs.SeatTree.{length_filter, sides_shorter}

-- what a fork is once a seat was taken out of one of its sides, where that side may be lower for it
pub record TakenOut (old new : Fork) (seat : Seat) (lower : Bool) : Type 0 where
  pub seats : seats_of new ≡ without seat (seats_of old)
  pub height : new.height ≡ old.height
  pub least : new.least ≡ old.least
  pub sooner : IsLow new.sooner
  pub later : IsLow new.later
  pub low : IsLowered old.sooner.1 new.sooner.1
  pub high : IsLowered old.later.1 new.later.1
  pub one : (new.sooner.1 ≡ old.sooner.1) ⊎ (new.later.1 ≡ old.later.1)
  pub still : lower ≡ false → (new.sooner.1 ≡ old.sooner.1) × (new.later.1 ≡ old.later.1)

pub taken_sooner : (old : Fork) (seat : Seat) (side : List Seat × ℕ) (lower : Bool) → IsEvenFork old → Rises is_ahead (seats_of old) → is_ahead seat old.seat ≡ true → side.0 ≡ without seat old.sooner.0 → IsLow side → IsLowered old.sooner.1 side.1 → lower ≡ nat_lt side.1 old.sooner.1
    → TakenOut old (record old { sooner = side }) seat lower
taken_sooner old seat side lower even rises ahead is low h l = record {
  seats = ap (λ (l : List Seat). l ++ old.seat ∷ old.later.0) is ∙ sym (without_left seat old.sooner.0 old.seat old.later.0 rises ahead);
  height = refl;
  least = refl;
  sooner = low;
  later = even.3;
  low = h;
  high = (omega arith, omega arith);
  one = inr refl;
  still = λ e. (let same : nat_lt side.1 old.sooner.1 ≡ false = sym l ∙ e in grind (arith, nat_tests, same, h.0, h.1), refl);
}

pub taken_later : (old : Fork) (seat : Seat) (side : List Seat × ℕ) (lower : Bool) → IsEvenFork old → Rises is_ahead (seats_of old) → is_ahead old.seat seat ≡ true → side.0 ≡ without seat old.later.0 → IsLow side → IsLowered old.later.1 side.1 → lower ≡ nat_lt side.1 old.later.1
    → TakenOut old (record old { later = side }) seat lower
taken_later old seat side lower even rises behind is low h l = record {
  seats = ap (λ (l : List Seat). old.sooner.0 ++ old.seat ∷ l) is ∙ sym (without_right seat old.sooner.0 old.seat old.later.0 rises behind);
  height = refl;
  least = refl;
  sooner = even.2;
  later = low;
  low = (omega arith, omega arith);
  high = h;
  one = inl refl;
  still = λ e. (refl, let same : nat_lt side.1 old.later.1 ≡ false = sym l ∙ e in grind (arith, nat_tests, same, h.0, h.1));
}

-- in the side where it belongs
pub taken_side : (old : Fork) (seat : Seat) (was side : List Seat × ℕ) (first lower : Bool) → IsEvenFork old → Rises is_ahead (seats_of old) → is_ahead seat old.seat ≡ first → is_eq (seat_cmp seat old.seat) ≡ false → was ≡ cond first old.sooner old.later
    → side.0 ≡ without seat was.0 → IsLow side → IsLowered was.1 side.1 → lower ≡ nat_lt side.1 was.1 → TakenOut old (with_side old first side) seat lower
taken_side old seat was side true lower even rises before other at is low h l =
    taken_sooner old seat side lower even rises before (is ∙ ap (λ (v : List Seat × ℕ). without seat v.0) at) low (subst (λ (v : List Seat × ℕ). IsLowered v.1 side.1) at h) (l ∙ ap (λ (v : List Seat × ℕ). nat_lt side.1 v.1) at)
taken_side old seat was side false lower even rises before other at is low h l =
    taken_later old seat side lower even rises (behind seat old.seat before other) (is ∙ ap (λ (v : List Seat × ℕ). without seat v.0) at) low (subst (λ (v : List Seat × ℕ). IsLowered v.1 side.1) at h) (l ∙ ap (λ (v : List Seat × ℕ). nat_lt side.1 v.1) at)

-- it is in the fork where it is there
pub there_side : (old : Fork) (seat : Seat) (was : List Seat × ℕ) (first : Bool) → Rises is_ahead (seats_of old) → is_ahead seat old.seat ≡ first → is_eq (seat_cmp seat old.seat) ≡ false → was ≡ cond first old.sooner old.later
    → list_any (λ u. is_eq (seat_cmp seat u)) (seats_of old) ≡ list_any (λ u. is_eq (seat_cmp seat u)) was.0
there_side old seat was true rises before other at = there_left seat old.sooner.0 old.seat old.later.0 rises before ∙ sym (ap (λ (v : List Seat × ℕ). list_any (λ u. is_eq (seat_cmp seat u)) v.0) at)
there_side old seat was false rises before other at = there_right seat old.sooner.0 old.seat old.later.0 rises (behind seat old.seat before other) ∙ sym (ap (λ (v : List Seat × ℕ). list_any (λ u. is_eq (seat_cmp seat u)) v.0) at)

-- one that balance may take
pub taken_near : (old new : Fork) (seat : Seat) (lower : Bool) → IsEvenFork old → TakenOut old new seat lower → length (seats_of old) ≤ 2 ^ 63 → AreNearlyEven new.sooner new.later
taken_near old new seat lower even t few =
    let less = length_filter (λ u. not (is_eq (seat_cmp seat u))) (seats_of old) in
    let long : length (seats_of new) ≤ length (seats_of old) = subst (λ (l : List Seat). length l ≤ length (seats_of old)) (sym t.seats) less in
    let parts = sides_shorter new.sooner.0 new.seat new.later.0 in
    ((omega (arith, even.1.0, even.1.1, t.low, t.high), omega (arith, even.1.0, even.1.1, t.low, t.high)), t.sooner, t.later, omega (arith, long, parts, few))

lowered_height : (a b c d h k : ℕ) → DifferBy 1 a b → IsLowered a c → IsLowered b d → (c ≡ a) ⊎ (d ≡ b) → h ≡ max a b + 1 → IsHeight c d k → IsLowered h k
lowered_height a b c d h k differ low high one is height = grind arith

-- how high it is once balanced
pub taken_height : (old new : Fork) (seat : Seat) (lower : Bool) → IsEvenFork old → TakenOut old new seat lower → (h : ℕ) → IsHeight new.sooner.1 new.later.1 h → IsLowered old.height h
taken_height old new seat lower even t h is = lowered_height old.sooner.1 old.later.1 new.sooner.1 new.later.1 old.height h even.1 t.low t.high t.one even.0 is

-- even already, where no side is lower
pub taken_even : (old new : Fork) (seat : Seat) → IsEvenFork old → TakenOut old new seat false → IsEvenFork (record new { least = least_of (seats_of new) })
taken_even old new seat even t =
    let same = t.still refl in
    (t.height ∙ (even.0 ∙ rw (same.0, same.1) refl), rw (same.0, same.1) even.1, t.sooner, t.later, refl)
