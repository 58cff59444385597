use Rattle.std.proofs.Common.{◌≡◌, ◌∙◌, ◌++◌, ℕ, List, true, false, not, sym, ap, subst, rules}
use Rattle.std.specs.List.{list_any}
use Rattle.std.specs.Ordering.{is_eq}
use Rattle.source_rows.specs.Inserted.{Rises}
use Rattle.source_rows.specs.declared.seats.Seat.{Seat}
use Rattle.source_rows.specs.SeatOrder.{ArePassed, AreBehind}
use Rattle.source_rows.specs.Seats.{is_ahead, is_passed, seat_cmp, without}
use Rattle.source_rows.proofs.Lists.{all_filter}
use Rattle.source_rows.proofs.Parts.{rises_front, rises_behind, after_passed, before_others, without_front, without_behind, there_front, there_behind}
use Rattle.source_rows.proofs.seat_order.SeatOrder.take.Goals as goal

pub take-requires-clause-rises : goal.take-requires-clause-rises
take-requires-clause-rises c =
    let are : c.self.inside.front.0 ++ c.self.inside.back.0 ≡ c.args.self.now.0 = ap (λ (v : List Seat × ℕ). v.0) c.self.view_is in
    let rises : Rises is_ahead (c.self.inside.front.0 ++ c.self.inside.back.0) = subst (Rises is_ahead) (sym are) c.requires.rises in
    rises_front c.self.inside.front.0 c.self.inside.back.0 rises

pub take-requires-else-is_passed-clause-rises : goal.take-requires-else-is_passed-clause-rises
take-requires-else-is_passed-clause-rises c =
    let are : c.self.inside.front.0 ++ c.self.inside.back.0 ≡ c.args.self.now.0 = ap (λ (v : List Seat × ℕ). v.0) c.self.view_is in
    let rises : Rises is_ahead (c.self.inside.front.0 ++ c.self.inside.back.0) = subst (Rises is_ahead) (sym are) c.requires.rises in
    rises_behind c.self.inside.front.0 c.self.inside.back.0 rises

pub invariant_of-self : goal.invariant_of-self
invariant_of-self c =
    let v = c.self.invariant in (
      c.take.ensures.low,
      v.1,
      subst (ArePassed c.self.inside.bound) (sym c.take.ensures.seats) (all_filter (λ u. is_passed c.self.inside.bound u.key ≡ true) (λ u. not (is_eq (seat_cmp c.args.seat.now u))) c.self.inside.front.0 v.2),
      v.3,
    )

pub invariant_of-self-else-is_passed : goal.invariant_of-self-else-is_passed
invariant_of-self-else-is_passed c =
    let v = c.self.invariant in (
      v.0,
      c.take-else-is_passed.ensures.low,
      v.2,
      subst (AreBehind c.self.inside.bound) (sym c.take-else-is_passed.ensures.seats) (all_filter (λ u. is_passed c.self.inside.bound u.key ≡ false) (λ u. not (is_eq (seat_cmp c.args.seat.now u))) c.self.inside.back.0 v.3),
    )

pub returns-then-is_passed-clause-there : goal.returns-then-is_passed-clause-there
returns-then-is_passed-clause-there c =
    let are : c.self.inside.front.0 ++ c.self.inside.back.0 ≡ c.args.self.now.0 = ap (λ (v : List Seat × ℕ). v.0) c.self.view_is in
    let passed : is_passed c.self.inside.bound c.args.seat.now.key ≡ true = search rules in
    c.take.ensures.there ∙ (sym (there_front c.args.seat.now c.self.inside.front.0 c.self.inside.back.0 (before_others c.self.inside.bound c.args.seat.now c.self.inside.back.0 passed c.self.invariant.3)) ∙ ap (list_any (λ u. is_eq (seat_cmp c.args.seat.now u))) are)

pub returns-then-is_passed-clause-seats : goal.returns-then-is_passed-clause-seats
returns-then-is_passed-clause-seats c =
    let are : c.self.inside.front.0 ++ c.self.inside.back.0 ≡ c.args.self.now.0 = ap (λ (v : List Seat × ℕ). v.0) c.self.view_is in
    let passed : is_passed c.self.inside.bound c.args.seat.now.key ≡ true = search rules in
    ap (λ (l : List Seat). l ++ c.self.inside.back.0) c.take.ensures.seats
    ∙ (sym (without_front c.args.seat.now c.self.inside.front.0 c.self.inside.back.0 (before_others c.self.inside.bound c.args.seat.now c.self.inside.back.0 passed c.self.invariant.3)) ∙ ap (without c.args.seat.now) are)

pub returns-else-is_passed-clause-there : goal.returns-else-is_passed-clause-there
returns-else-is_passed-clause-there c =
    let are : c.self.inside.front.0 ++ c.self.inside.back.0 ≡ c.args.self.now.0 = ap (λ (v : List Seat × ℕ). v.0) c.self.view_is in
    let behind : is_passed c.self.inside.bound c.args.seat.now.key ≡ false = search rules in
    c.take-else-is_passed.ensures.there ∙ (sym (there_behind c.args.seat.now c.self.inside.front.0 c.self.inside.back.0 (after_passed c.self.inside.bound c.args.seat.now c.self.inside.front.0 behind c.self.invariant.2)) ∙ ap (list_any (λ u. is_eq (seat_cmp c.args.seat.now u))) are)

pub returns-else-is_passed-clause-seats : goal.returns-else-is_passed-clause-seats
returns-else-is_passed-clause-seats c =
    let are : c.self.inside.front.0 ++ c.self.inside.back.0 ≡ c.args.self.now.0 = ap (λ (v : List Seat × ℕ). v.0) c.self.view_is in
    let behind : is_passed c.self.inside.bound c.args.seat.now.key ≡ false = search rules in
    ap (λ (l : List Seat). c.self.inside.front.0 ++ l) c.take-else-is_passed.ensures.seats
    ∙ (sym (without_behind c.args.seat.now c.self.inside.front.0 c.self.inside.back.0 (after_passed c.self.inside.bound c.args.seat.now c.self.inside.front.0 behind c.self.invariant.2)) ∙ ap (without c.args.seat.now) are)
