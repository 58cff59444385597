use Rattle.std.proofs.Common.{◌≡◌, ◌∙◌, ◌<◌, ◌^◌, ℕ, List, length, sym, ap, subst, arith, rules}
use Rattle.source_rows.specs.Inserted.{inserted, Rises}
use Rattle.source_rows.specs.declared.seats.Seat.{Seat}
use Rattle.source_rows.specs.Lending.{with_side}
use Rattle.source_rows.specs.Seats.{is_ahead, IsLow}
use Rattle.source_rows.specs.SeatTree.{seats_of}
use Rattle.source_rows.proofs.SeatTree.{at_Fork, even_at, of_side}
use Rattle.source_rows.proofs.Low.{low_fork}
use Rattle.source_rows.proofs.PutIn.{PutIn, put_side, put_even, put_near}
use Rattle.source_rows.proofs.seats.Seats.+insert.Goals as goal
use Rattle.source_rows.proofs.seats.Seats.+insert.Goals.{After-insert-higher}

pub insert-higher-requires : goal.insert-higher-requires
insert-higher-requires t c =
    let same : c.deref_mut-fork.result.now ≡ c.in-Some.fork.value = search rules in
    let f = at_Fork c.self.view_is c.requires.rises c.in-Some.is same in
    let even = even_at c.self.invariant c.in-Some.is same in
    let first = c.is_ahead-is_sooner.result in
    let v = c.deref_mut-fork.result.now.sooner in
    let w = c.deref_mut-fork.result.now.later in
    let rises : Rises is_ahead c.side.result.now.0 = of_side (λ u. Rises is_ahead u.0) first v w _ c.side.ensures.value f.sooner f.later in
    let few : length c.side.result.now.0 < 2 ^ 63 = of_side (λ u. length u.0 < 2 ^ 63) first v w _ c.side.ensures.value (omega (arith, f.parts, c.requires.few)) (omega (arith, f.parts, c.requires.few)) in
    let fewer : length c.side.result.now.0 < length c.args.self.now.0 = of_side (λ u. length u.0 < length c.args.self.now.0) first v w _ c.side.ensures.value (omega (arith, f.parts)) (omega (arith, f.parts)) in
    let low : IsLow c.side.result.now = of_side IsLow first v w _ c.side.ensures.value even.2 even.3 in
    search rules

new_one : (t : ℕ) (c : After-insert-higher t) → PutIn c.deref_mut-fork.result.now (with_side (record c.deref_mut-fork.result.now { least = c.note.new.self }) c.is_ahead-is_sooner.result c.insert-higher.new.self) c.args.seat.now c.insert-higher.result
new_one t c =
    let same : c.deref_mut-fork.result.now ≡ c.in-Some.fork.value = search rules in
    let f = at_Fork c.self.view_is c.requires.rises c.in-Some.is same in
    let even = even_at c.self.invariant c.in-Some.is same in
    let a = c.insert-higher.ensures in
    put_side c.deref_mut-fork.result.now c.args.seat.now c.side.result.now c.insert-higher.new.self c.note.new.self c.is_ahead-is_sooner.result c.insert-higher.result even f.rises (sym c.is_ahead-is_sooner.ensures) c.side.ensures.value a.seats a.low a.height a.higher c.note.ensures

pub balance_noted-requires-clause-near : goal.balance_noted-requires-clause-near
balance_noted-requires-clause-near t c =
    let same : c.deref_mut-fork.result.now ≡ c.in-Some.fork.value = search rules in
    let f = at_Fork c.self.view_is c.requires.rises c.in-Some.is same in
    let even = even_at c.self.invariant c.in-Some.is same in
    let few : length (seats_of c.deref_mut-fork.result.now) < 2 ^ 63 = subst (λ (xs : List Seat). length xs < 2 ^ 63) f.is c.requires.few in
    put_near c.deref_mut-fork.result.now _ c.args.seat.now _ (new_one t c.before.before.before.before) few

pub balance_noted-requires-clause-noted : goal.balance_noted-requires-clause-noted
balance_noted-requires-clause-noted t c = (new_one t c.before.before.before.before).least

pub invariant_of-self-then-not-higher : goal.invariant_of-self-then-not-higher
invariant_of-self-then-not-higher t c =
    let same : c.deref_mut-fork.result.now ≡ c.in-Some.fork.value = search rules in
    let f = at_Fork c.self.view_is c.requires.rises c.in-Some.is same in
    let even = even_at c.self.invariant c.in-Some.is same in
    let put = subst (PutIn c.deref_mut-fork.result.now (with_side (record c.deref_mut-fork.result.now { least = c.note.new.self }) c.is_ahead-is_sooner.result c.insert-higher.new.self) c.args.seat.now) c.if-not-higher.true (new_one t c.before.before.before) in
    put_even c.deref_mut-fork.result.now _ c.args.seat.now even put

pub returns-then-not-higher-clause-seats : goal.returns-then-not-higher-clause-seats
returns-then-not-higher-clause-seats t c =
    let same : c.deref_mut-fork.result.now ≡ c.in-Some.fork.value = search rules in
    let f = at_Fork c.self.view_is c.requires.rises c.in-Some.is same in
    let even = even_at c.self.invariant c.in-Some.is same in
    (new_one t c.before.before.before).seats ∙ sym (ap (inserted is_ahead c.args.seat.now) f.is)

pub returns-then-not-higher-clause-low : goal.returns-then-not-higher-clause-low
returns-then-not-higher-clause-low t c = low_fork _ (invariant_of-self-then-not-higher t c)

pub returns-clause-seats : goal.returns-clause-seats
returns-clause-seats t c =
    let same : c.deref_mut-fork.result.now ≡ c.in-Some.fork.value = search rules in
    let f = at_Fork c.self.view_is c.requires.rises c.in-Some.is same in
    let even = even_at c.self.invariant c.in-Some.is same in
    c.balance_noted.ensures.1 ∙ ((new_one t c.before.before.before.before.before.before).seats ∙ sym (ap (inserted is_ahead c.args.seat.now) f.is))
