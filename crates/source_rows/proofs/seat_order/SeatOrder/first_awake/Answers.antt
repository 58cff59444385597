use Rattle.std.proofs.Common.{◌≡◌, ◌∙◌, ◌++◌, ℕ, Option, Some, None, is_some, true, List, sym, ap, subst, rules}
use Rattle.source_rows.specs.Inserted.{Rises}
use Rattle.source_rows.specs.Rows.{Key}
use Rattle.source_rows.specs.declared.seats.Seat.{Seat}
use Rattle.source_rows.specs.declared.sight.Sight.{Sight}
use Rattle.source_rows.specs.Seats.{is_ahead, first_awake}
use Rattle.source_rows.proofs.Ahead.{awake_join_some, awake_join_none}
use Rattle.source_rows.proofs.Parts.{rises_front, rises_behind}
use Rattle.source_rows.proofs.seat_order.SeatOrder.first_awake.Goals as goal

pub first_awake-requires : goal.first_awake-requires
first_awake-requires c =
    let are : c.self.inside.front.0 ++ c.self.inside.back.0 ≡ c.args.self.now.0 = ap (λ (v : List Seat × ℕ). v.0) c.self.view_is in
    rises_front c.self.inside.front.0 c.self.inside.back.0 (subst (Rises is_ahead) (sym are) c.requires)

pub first_awake-requires-in-None : goal.first_awake-requires-in-None
first_awake-requires-in-None c =
    let are : c.self.inside.front.0 ++ c.self.inside.back.0 ≡ c.args.self.now.0 = ap (λ (v : List Seat × ℕ). v.0) c.self.view_is in
    rises_behind c.self.inside.front.0 c.self.inside.back.0 (subst (Rises is_ahead) (sym are) c.requires)

pub returns-in-None : goal.returns-in-None
returns-in-None c =
    let are : c.self.inside.front.0 ++ c.self.inside.back.0 ≡ c.args.self.now.0 = ap (λ (v : List Seat × ℕ). v.0) c.self.view_is in
    let none : first_awake c.args.after c.args.sight.now c.self.inside.front.0 ≡ None = sym c.first_awake.ensures ∙ c.in-None.is in
    c.first_awake-in-None.ensures ∙ (sym (awake_join_none c.args.after c.args.sight.now c.self.inside.front.0 c.self.inside.back.0 none) ∙ ap (first_awake c.args.after c.args.sight.now) are)

in_front : (after : Option Key) (sight : Sight) (l r : List Seat) (o : Option ℕ) → is_some o ≡ true → o ≡ first_awake after sight l → o ≡ first_awake after sight (l ++ r)
in_front after sight l r None h e = cc
in_front after sight l r (Some z) h e = sym (awake_join_some after sight z l r (sym e))

pub returns-in_default : goal.returns-in_default
returns-in_default c =
    let are : c.self.inside.front.0 ++ c.self.inside.back.0 ≡ c.args.self.now.0 = ap (λ (v : List Seat × ℕ). v.0) c.self.view_is in
    let some : is_some c.first_awake.result ≡ true = search rules in
    in_front c.args.after c.args.sight.now c.self.inside.front.0 c.self.inside.back.0 c.first_awake.result some c.first_awake.ensures ∙ ap (first_awake c.args.after c.args.sight.now) are
