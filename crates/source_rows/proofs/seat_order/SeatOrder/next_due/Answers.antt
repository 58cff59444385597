use Rattle.std.proofs.Common.{◌≡◌, ◌∙◌, ◌++◌, ℕ, List, sym, ap, rules}
use Rattle.source_rows.specs.declared.seats.Seat.{Seat}
use Rattle.source_rows.specs.Seats.{next_due, due_after, lesser}
use Rattle.source_rows.proofs.Soonest.{least_join}
use Rattle.source_rows.proofs.seat_order.SeatOrder.next_due.Goals as goal

pub returns : goal.returns
returns c =
    let are : c.self.inside.front.0 ++ c.self.inside.back.0 ≡ c.args.self.now.0 = ap (λ (v : List Seat × ℕ). v.0) c.self.view_is in
    let front : c.next_due.result ≡ next_due c.args.now c.self.inside.front.0 = search rules in
    let back : c.next_due-2.result ≡ next_due c.args.now c.self.inside.back.0 = search rules in
    let e : c.lesser.result ≡ lesser c.next_due.result c.next_due-2.result = search rules in
    e ∙ (rw (front, back) (sym (least_join (due_after c.args.now) c.self.inside.front.0 c.self.inside.back.0)) ∙ ap (next_due c.args.now) are)
