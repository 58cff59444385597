use Rattle.std.proofs.Common.{◌≡◌, ◌∙◌, ◌++◌, [], ℕ, List, sym, ap, subst, rules}
use Rattle.source_rows.specs.Inserted.{Rises}
use Rattle.source_rows.specs.declared.seats.Seat.{Seat}
use Rattle.source_rows.specs.SeatOrder.{AreBehind}
use Rattle.source_rows.specs.Seats.{is_ahead, IsLow}
use Rattle.source_rows.proofs.Parts.{rises_behind, bound_passed}
use Rattle.source_rows.proofs.seat_order.SeatOrder.join.Goals as goal

pub invariant_of-self : goal.invariant_of-self
invariant_of-self c =
    let v = c.self.invariant in
    let are : c.self.inside.front.0 ++ c.self.inside.back.0 ≡ c.args.self.now.0 = ap (λ (v : List Seat × ℕ). v.0) c.self.view_is in
    let rises : Rises is_ahead (c.self.inside.front.0 ++ c.self.inside.back.0) = subst (Rises is_ahead) (sym are) c.requires.rises in
    let x : c.swap.new.x ≡ c.self.inside.back = search rules in
    let y : c.swap.new.y ≡ c.self.inside.front = search rules in
    let none : c.self.inside.front ≡ ([], 0) = search rules in
    let up : Rises is_ahead c.swap.new.x.0 = subst (λ (w : List Seat × ℕ). Rises is_ahead w.0) (sym x) (rises_behind c.self.inside.front.0 c.self.inside.back.0 rises) in (
      subst IsLow (sym x) v.1,
      subst IsLow (sym y) v.0,
      bound_passed c.last_key-self-inside.result c.swap.new.x.0 up c.last_key-self-inside.ensures.some c.last_key-self-inside.ensures.none,
      subst (λ (w : List Seat × ℕ). AreBehind c.last_key-self-inside.result w.0) (sym (y ∙ none)) tt,
    )

pub invariant_of-self-then-height : goal.invariant_of-self-then-height
invariant_of-self-then-height c =
    let are : c.self.inside.front.0 ++ c.self.inside.back.0 ≡ c.args.self.now.0 = ap (λ (v : List Seat × ℕ). v.0) c.self.view_is in
    let rises : Rises is_ahead (c.self.inside.front.0 ++ c.self.inside.back.0) = subst (Rises is_ahead) (sym are) c.requires.rises in
    let none = c.move_over.ensures.none in
    let up : Rises is_ahead c.move_over.new.front.0 = subst (Rises is_ahead) (sym c.move_over.ensures.seats) rises in (
      c.move_over.ensures.low,
      search rules,
      bound_passed c.last_key-self-inside-then-height.result c.move_over.new.front.0 up c.last_key-self-inside-then-height.ensures.some c.last_key-self-inside-then-height.ensures.none,
      subst (λ (w : List Seat × ℕ). AreBehind c.last_key-self-inside-then-height.result w.0) (sym none) tt,
    )
