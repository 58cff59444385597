use Rattle.std.proofs.Common.{◌≡◌, ◌++◌, ℕ, List, sym, ap, subst}
use Rattle.source_rows.specs.Inserted.{Rises}
use Rattle.source_rows.specs.declared.seats.Seat.{Seat}
use Rattle.source_rows.specs.Seats.{is_ahead}
use Rattle.source_rows.proofs.Parts.{rises_front, rises_behind}
use Rattle.source_rows.proofs.walk.Path.begin.Goals as goal

pub seek-requires : goal.seek-requires
seek-requires c =
    let are : c.seats.inside.front.0 ++ c.seats.inside.back.0 ≡ c.args.seats.now.0 = ap (λ (v : List Seat × ℕ). v.0) c.seats.view_is in
    rises_front c.seats.inside.front.0 c.seats.inside.back.0 (subst (Rises is_ahead) (sym are) c.requires.rises)

pub seek-requires-then-is_empty : goal.seek-requires-then-is_empty
seek-requires-then-is_empty c =
    let are : c.seats.inside.front.0 ++ c.seats.inside.back.0 ≡ c.args.seats.now.0 = ap (λ (v : List Seat × ℕ). v.0) c.seats.view_is in
    rises_behind c.seats.inside.front.0 c.seats.inside.back.0 (subst (Rises is_ahead) (sym are) c.requires.rises)
