use Rattle.std.proofs.Common.{◌≡◌, ◌++◌, ℕ, List, sym, ap, subst}
use Rattle.source_rows.specs.Inserted.{Rises}
use Rattle.source_rows.specs.declared.seats.Seat.{Seat}
use Rattle.source_rows.specs.Seats.{is_ahead}
use Rattle.source_rows.proofs.Parts.{rises_front, rises_behind}
use Rattle.source_rows.proofs.seat_order.SeatOrder.add_between.Goals as goal

pub add_between-requires : goal.add_between-requires
add_between-requires c =
    let are : c.self.inside.front.0 ++ c.self.inside.back.0 ≡ c.args.self.now.0 = ap (λ (v : List Seat × ℕ). v.0) c.self.view_is in
    rises_front c.self.inside.front.0 c.self.inside.back.0 (subst (Rises is_ahead) (sym are) c.requires)

pub add_between-requires-2 : goal.add_between-requires-2
add_between-requires-2 c =
    let are : c.self.inside.front.0 ++ c.self.inside.back.0 ≡ c.args.self.now.0 = ap (λ (v : List Seat × ℕ). v.0) c.self.view_is in
    rises_behind c.self.inside.front.0 c.self.inside.back.0 (subst (Rises is_ahead) (sym are) c.requires)
