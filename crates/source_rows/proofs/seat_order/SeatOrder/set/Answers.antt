use Rattle.std.proofs.Common.{◌≡◌, ◌∙◌, ◌++◌, ℕ, List, true, false, sym, ap, subst, rules}
use Rattle.source_rows.specs.Inserted.{Rises}
use Rattle.source_rows.specs.declared.seats.Seat.{Seat}
use Rattle.source_rows.specs.SeatOrder.{ArePassed, AreBehind}
use Rattle.source_rows.specs.Seats.{is_ahead, is_passed, swapped}
use Rattle.source_rows.proofs.Low.{side_swapped}
use Rattle.source_rows.proofs.Parts.{rises_front, rises_behind, after_passed, before_others, swapped_front, swapped_behind, sides_swapped}
use Rattle.source_rows.proofs.seat_order.SeatOrder.set.Goals as goal

pub set-requires-clause-rises : goal.set-requires-clause-rises
set-requires-clause-rises c =
    let are : c.self.inside.front.0 ++ c.self.inside.back.0 ≡ c.args.self.now.0 = ap (λ (v : List Seat × ℕ). v.0) c.self.view_is in
    let rises : Rises is_ahead (c.self.inside.front.0 ++ c.self.inside.back.0) = subst (Rises is_ahead) (sym are) c.requires.rises in
    rises_front c.self.inside.front.0 c.self.inside.back.0 rises

pub set-requires-else-is_passed-clause-rises : goal.set-requires-else-is_passed-clause-rises
set-requires-else-is_passed-clause-rises c =
    let are : c.self.inside.front.0 ++ c.self.inside.back.0 ≡ c.args.self.now.0 = ap (λ (v : List Seat × ℕ). v.0) c.self.view_is in
    let rises : Rises is_ahead (c.self.inside.front.0 ++ c.self.inside.back.0) = subst (Rises is_ahead) (sym are) c.requires.rises in
    rises_behind c.self.inside.front.0 c.self.inside.back.0 rises

pub invariant_of-self : goal.invariant_of-self
invariant_of-self c =
    let v = c.self.invariant in
    let a = c.args.before.now in
    let b = c.args.after.now in (
      side_swapped c.self.inside.front c.set.new.self a b c.set.ensures.seats c.set.ensures.height v.0,
      v.1,
      subst (ArePassed c.self.inside.bound) (sym c.set.ensures.seats) (sides_swapped (is_passed c.self.inside.bound) true a b c.self.inside.front.0 c.requires.key v.2),
      v.3,
    )

pub invariant_of-self-else-is_passed : goal.invariant_of-self-else-is_passed
invariant_of-self-else-is_passed c =
    let v = c.self.invariant in
    let a = c.args.before.now in
    let b = c.args.after.now in (
      v.0,
      side_swapped c.self.inside.back c.set-else-is_passed.new.self a b c.set-else-is_passed.ensures.seats c.set-else-is_passed.ensures.height v.1,
      v.2,
      subst (AreBehind c.self.inside.bound) (sym c.set-else-is_passed.ensures.seats) (sides_swapped (is_passed c.self.inside.bound) false a b c.self.inside.back.0 c.requires.key v.3),
    )

pub returns-then-is_passed-clause-seats : goal.returns-then-is_passed-clause-seats
returns-then-is_passed-clause-seats c =
    let are : c.self.inside.front.0 ++ c.self.inside.back.0 ≡ c.args.self.now.0 = ap (λ (v : List Seat × ℕ). v.0) c.self.view_is in
    let passed : is_passed c.self.inside.bound c.args.before.now.key ≡ true = search rules in
    ap (λ (l : List Seat). l ++ c.self.inside.back.0) c.set.ensures.seats
    ∙ (sym (swapped_front c.args.before.now c.args.after.now c.self.inside.front.0 c.self.inside.back.0 (before_others c.self.inside.bound c.args.before.now c.self.inside.back.0 passed c.self.invariant.3)) ∙ ap (swapped c.args.before.now c.args.after.now) are)

pub returns-else-is_passed-clause-seats : goal.returns-else-is_passed-clause-seats
returns-else-is_passed-clause-seats c =
    let are : c.self.inside.front.0 ++ c.self.inside.back.0 ≡ c.args.self.now.0 = ap (λ (v : List Seat × ℕ). v.0) c.self.view_is in
    let behind : is_passed c.self.inside.bound c.args.before.now.key ≡ false = search rules in
    ap (λ (l : List Seat). c.self.inside.front.0 ++ l) c.set-else-is_passed.ensures.seats
    ∙ (sym (swapped_behind c.args.before.now c.args.after.now c.self.inside.front.0 c.self.inside.back.0 (after_passed c.self.inside.bound c.args.before.now c.self.inside.front.0 behind c.self.invariant.2)) ∙ ap (swapped c.args.before.now c.args.after.now) are)
