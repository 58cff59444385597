use Rattle.std.proofs.Common.{◌≡◌, ◌∙◌, true, false, sym, is_some, arith, rules}
use Rattle.source_rows.specs.Seats.{is_ahead}
use Rattle.source_rows.proofs.Inserted.{rises_filter}
use Rattle.source_rows.proofs.SeatTree.{length_without}
use Rattle.source_rows.proofs.seat_order.SeatOrder.change.Goals as goal

pub insert-requires-clause-rises : goal.insert-requires-clause-rises
insert-requires-clause-rises c = rw c.take.ensures.seats (rises_filter is_ahead _ c.args.self.now.0 c.requires.rises)

pub insert-requires-clause-few : goal.insert-requires-clause-few
insert-requires-clause-few c =
    let less = length_without c.args.before.now c.args.self.now.0 c.requires.there in
    let is = c.take.ensures.seats in
    rw is (omega (arith, less, c.requires.few))

pub returns-in_default-clause-seats : goal.returns-in_default-clause-seats
returns-in_default-clause-seats c =
    let none : is_some c.take.result ≡ false = search rules in
    let there : is_some c.take.result ≡ true = search rules in
    let never : true ≡ false = sym there ∙ none in
    cc
