use Rattle.std.proofs.Common.{◌≡◌, ◌∙◌, ◌++◌, ℕ, List, true, false, sym, ap, subst, rules}
use Rattle.source_rows.specs.Inserted.{inserted, Rises}
use Rattle.source_rows.specs.declared.seats.Seat.{Seat}
use Rattle.source_rows.specs.SeatOrder.{ArePassed, AreBehind}
use Rattle.source_rows.specs.Seats.{is_ahead, is_passed}
use Rattle.source_rows.proofs.Inserted.{all_inserted}
use Rattle.source_rows.proofs.Parts.{rises_front, rises_behind, after_passed, before_others, inserted_front, inserted_behind, low_together}
use Rattle.source_rows.proofs.seat_order.SeatOrder.insert.Goals as goal

pub insert-requires-clause-rises : goal.insert-requires-clause-rises
insert-requires-clause-rises c =
    let are : c.self.inside.front.0 ++ c.self.inside.back.0 ≡ c.args.self.now.0 = ap (λ (v : List Seat × ℕ). v.0) c.self.view_is ∙ c.join.ensures.seats in
    rises_front c.self.inside.front.0 c.self.inside.back.0 (subst (Rises is_ahead) (sym are) c.requires.rises)

pub insert-requires-else-is_passed-clause-rises : goal.insert-requires-else-is_passed-clause-rises
insert-requires-else-is_passed-clause-rises c =
    let are : c.self.inside.front.0 ++ c.self.inside.back.0 ≡ c.args.self.now.0 = ap (λ (v : List Seat × ℕ). v.0) c.self.view_is ∙ c.join.ensures.seats in
    rises_behind c.self.inside.front.0 c.self.inside.back.0 (subst (Rises is_ahead) (sym are) c.requires.rises)

pub invariant_of-self : goal.invariant_of-self
invariant_of-self c =
    let v = c.self.invariant in
    let passed : is_passed c.self.inside.bound c.args.seat.now.key ≡ true = search rules in (
      c.insert.ensures.low,
      v.1,
      subst (ArePassed c.self.inside.bound) (sym c.insert.ensures.seats) (all_inserted is_ahead (λ u. is_passed c.self.inside.bound u.key ≡ true) c.args.seat.now c.self.inside.front.0 passed v.2),
      v.3,
    )

pub invariant_of-self-else-is_passed : goal.invariant_of-self-else-is_passed
invariant_of-self-else-is_passed c =
    let v = c.self.invariant in
    let behind : is_passed c.self.inside.bound c.args.seat.now.key ≡ false = search rules in (
      v.0,
      c.insert-else-is_passed.ensures.low,
      v.2,
      subst (AreBehind c.self.inside.bound) (sym c.insert-else-is_passed.ensures.seats) (all_inserted is_ahead (λ u. is_passed c.self.inside.bound u.key ≡ false) c.args.seat.now c.self.inside.back.0 behind v.3),
    )

pub returns-then-is_passed-clause-seats : goal.returns-then-is_passed-clause-seats
returns-then-is_passed-clause-seats c =
    let are : c.self.inside.front.0 ++ c.self.inside.back.0 ≡ c.args.self.now.0 = ap (λ (v : List Seat × ℕ). v.0) c.self.view_is ∙ c.join.ensures.seats in
    let passed : is_passed c.self.inside.bound c.args.seat.now.key ≡ true = search rules in
    ap (λ (l : List Seat). l ++ c.self.inside.back.0) c.insert.ensures.seats
    ∙ (sym (inserted_front c.args.seat.now c.self.inside.front.0 c.self.inside.back.0 (before_others c.self.inside.bound c.args.seat.now c.self.inside.back.0 passed c.self.invariant.3)) ∙ ap (inserted is_ahead c.args.seat.now) are)

pub returns-else-is_passed-clause-seats : goal.returns-else-is_passed-clause-seats
returns-else-is_passed-clause-seats c =
    let are : c.self.inside.front.0 ++ c.self.inside.back.0 ≡ c.args.self.now.0 = ap (λ (v : List Seat × ℕ). v.0) c.self.view_is ∙ c.join.ensures.seats in
    let behind : is_passed c.self.inside.bound c.args.seat.now.key ≡ false = search rules in
    ap (λ (l : List Seat). c.self.inside.front.0 ++ l) c.insert-else-is_passed.ensures.seats
    ∙ (sym (inserted_behind c.args.seat.now c.self.inside.front.0 c.self.inside.back.0 (after_passed c.self.inside.bound c.args.seat.now c.self.inside.front.0 behind c.self.invariant.2)) ∙ ap (inserted is_ahead c.args.seat.now) are)

pub returns-then-is_passed-clause-low : goal.returns-then-is_passed-clause-low
returns-then-is_passed-clause-low c = low_together c.insert.new.self c.self.inside.back c.insert.ensures.low c.self.invariant.1

pub returns-else-is_passed-clause-low : goal.returns-else-is_passed-clause-low
returns-else-is_passed-clause-low c = low_together c.self.inside.front c.insert-else-is_passed.new.self c.self.invariant.0 c.insert-else-is_passed.ensures.low
