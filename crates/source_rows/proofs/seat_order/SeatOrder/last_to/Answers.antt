use Rattle.std.proofs.Common.{◌≡◌, ◌++◌, ℕ, List, sym, ap, subst}
use Rattle.std.specs.Borrow.{Bor}
use Rattle.source_rows.specs.Inserted.{Rises}
use Rattle.source_rows.specs.LastTo.{IsLastTo}
use Rattle.source_rows.specs.declared.seats.Seat.{Seat}
use Rattle.source_rows.specs.Seats.{is_ahead}
use Rattle.source_rows.proofs.LastTo.{some_of}
use Rattle.source_rows.proofs.Parts.{rises_front, rises_behind, last_behind}
use Rattle.source_rows.proofs.seat_order.SeatOrder.last_to.Goals as goal

pub last_to-requires : goal.last_to-requires
last_to-requires c =
    let are : c.self.inside.front.0 ++ c.self.inside.back.0 ≡ c.args.self.now.0 = ap (λ (v : List Seat × ℕ). v.0) c.self.view_is in
    rises_behind c.self.inside.front.0 c.self.inside.back.0 (subst (Rises is_ahead) (sym are) c.requires)

pub last_to-requires-in-None : goal.last_to-requires-in-None
last_to-requires-in-None c =
    let are : c.self.inside.front.0 ++ c.self.inside.back.0 ≡ c.args.self.now.0 = ap (λ (v : List Seat × ℕ). v.0) c.self.view_is in
    rises_front c.self.inside.front.0 c.self.inside.back.0 (subst (Rises is_ahead) (sym are) c.requires)

pub returns-in_default-clause-some : goal.returns-in_default-clause-some
returns-in_default-clause-some c =
    let are : c.self.inside.front.0 ++ c.self.inside.back.0 ≡ c.args.self.now.0 = ap (λ (v : List Seat × ℕ). v.0) c.self.view_is in
    some_of (λ (s : Bor Seat). IsLastTo c.args.key.now c.self.inside.back.0 s.now) (λ (s : Bor Seat). IsLastTo c.args.key.now c.args.self.now.0 s.now)
    (λ s h. subst (λ (l : List Seat). IsLastTo c.args.key.now l s.now) are (last_behind c.args.key.now c.self.inside.front.0 c.self.inside.back.0 s.now h)) c.last_to.result c.last_to.ensures.some
