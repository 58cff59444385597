use Rattle.std.proofs.Common.{◌≡◌, ◌∙◌, ◌<◌, ◌≤◌, ◌^◌, ℕ, List, ◌++◌, true, false, length, is_some, refl, sym, ap, subst, arith, rules}
use Rattle.std.proofs.lemmas.Bool.Decides.{nat_tests}
use Rattle.std.specs.List.{list_any}
use Rattle.std.specs.Ordering.{is_eq}
use Rattle.source_rows.specs.Inserted.{Rises}
use Rattle.source_rows.specs.declared.seats.Fork.{Fork}
use Rattle.source_rows.specs.declared.seats.Seat.{Seat}
use Rattle.source_rows.specs.Lending.{with_side}
use Rattle.source_rows.specs.Seats.{seat_cmp, is_ahead, least_of, without, IsLow}
use Rattle.source_rows.specs.SeatTree.{seats_of, seen_of, IsHeight}
use Rattle.source_rows.proofs.SeatTree.{at_Fork, even_at, of_side}
use Rattle.source_rows.proofs.Ahead.{same_time, there_here, without_here}
use Rattle.source_rows.proofs.Low.{low_fork}
use Rattle.source_rows.proofs.TakenOut.{TakenOut, taken_side, there_side, taken_near, taken_height, taken_even}
use Rattle.source_rows.proofs.seats.Seats.+take_out.Goals as goal
use Rattle.source_rows.proofs.seats.Seats.+take_out.Goals.{After-leave_out}

pub take_out-lower-requires : goal.take_out-lower-requires
take_out-lower-requires t c =
    let same : c.deref_mut-fork.result.now ≡ c.in-Some.fork.value = search rules in
    let f = at_Fork c.self.view_is c.requires.rises c.in-Some.is same in
    let even = even_at c.self.invariant c.in-Some.is same in
    let first = c.is_ahead-is_sooner.result in
    let v = c.deref_mut-fork.result.now.sooner in
    let w = c.deref_mut-fork.result.now.later in
    let rises : Rises is_ahead c.side.result.now.0 = of_side (λ u. Rises is_ahead u.0) first v w _ c.side.ensures.value f.sooner f.later in
    let few : length c.side.result.now.0 ≤ 2 ^ 63 = of_side (λ u. length u.0 ≤ 2 ^ 63) first v w _ c.side.ensures.value (omega (arith, f.parts, c.requires.few)) (omega (arith, f.parts, c.requires.few)) in
    let fewer : length c.side.result.now.0 < length c.args.self.now.0 = of_side (λ u. length u.0 < length c.args.self.now.0) first v w _ c.side.ensures.value (omega (arith, f.parts)) (omega (arith, f.parts)) in
    let low : IsLow c.side.result.now = of_side IsLow first v w _ c.side.ensures.value even.2 even.3 in
    search rules

pub returns-then-is_same-clause-there : goal.returns-then-is_same-clause-there
returns-then-is_same-clause-there t c =
    let same : c.deref_mut-fork.result.now ≡ c.in-Some.fork.value = search rules in
    let f = at_Fork c.self.view_is c.requires.rises c.in-Some.is same in
    let x = c.args.seat.now in
    let old = c.deref_mut-fork.result.now in
    let one : is_eq (seat_cmp x old.seat) ≡ true = search rules in
    let is : is_some c.remove_root.result ≡ true = search rules in
    is ∙ sym (ap (list_any (λ u. is_eq (seat_cmp x u))) f.is ∙ there_here x old.sooner.0 old.seat old.later.0 (same_time x old.seat one))

pub returns-then-is_same-clause-seats : goal.returns-then-is_same-clause-seats
returns-then-is_same-clause-seats t c =
    let same : c.deref_mut-fork.result.now ≡ c.in-Some.fork.value = search rules in
    let f = at_Fork c.self.view_is c.requires.rises c.in-Some.is same in
    let x = c.args.seat.now in
    let old = c.deref_mut-fork.result.now in
    let one : is_eq (seat_cmp x old.seat) ≡ true = search rules in
    let is : (seen_of c.remove_root.new.root).0 ≡ old.sooner.0 ++ old.later.0 = search rules in
    is ∙ sym (ap (without x) f.is ∙ (ap (λ u. without u (seats_of old)) (same_time x old.seat one) ∙ without_here old.sooner.0 old.seat old.later.0 f.rises))

-- what is left of the fork once a side has lost the seat
taken : (t : ℕ) (c : After-leave_out t) → TakenOut c.deref_mut-fork.result.now (with_side c.deref_mut-fork.result.now c.is_ahead-is_sooner.result c.take_out-lower.new.self) c.args.seat.now c.take_out-lower.result
taken t c =
    let same : c.deref_mut-fork.result.now ≡ c.in-Some.fork.value = search rules in
    let f = at_Fork c.self.view_is c.requires.rises c.in-Some.is same in
    let even = even_at c.self.invariant c.in-Some.is same in
    let other : is_eq (seat_cmp c.args.seat.now c.deref_mut-fork.result.now.seat) ≡ false = search rules in
    let a = c.take_out-lower.ensures in
    taken_side c.deref_mut-fork.result.now c.args.seat.now c.side.result.now c.take_out-lower.new.self c.is_ahead-is_sooner.result c.take_out-lower.result even f.rises (sym c.is_ahead-is_sooner.ensures) other c.side.ensures.value a.seats a.low a.height a.lower

there : (t : ℕ) (c : After-leave_out t) → is_some c.take_out-lower.new.room ≡ list_any (λ u. is_eq (seat_cmp c.args.seat.now u)) c.args.self.now.0
there t c =
    let same : c.deref_mut-fork.result.now ≡ c.in-Some.fork.value = search rules in
    let f = at_Fork c.self.view_is c.requires.rises c.in-Some.is same in
    let x = c.args.seat.now in
    let other : is_eq (seat_cmp x c.deref_mut-fork.result.now.seat) ≡ false = search rules in
    c.take_out-lower.ensures.there
    ∙ sym (ap (list_any (λ u. is_eq (seat_cmp x u))) f.is ∙ there_side c.deref_mut-fork.result.now x c.side.result.now c.is_ahead-is_sooner.result f.rises (sym c.is_ahead-is_sooner.ensures) other c.side.ensures.value)

-- the fork once its marks and its least time are noted
noted : (t : ℕ) (c : After-leave_out t)
    → (let new = with_side c.deref_mut-fork.result.now c.is_ahead-is_sooner.result c.take_out-lower.new.self in c.leave_out.new.self ≡ record new { least = least_of (seats_of new) })
noted t c =
    let same : c.deref_mut-fork.result.now ≡ c.in-Some.fork.value = search rules in
    let even = even_at c.self.invariant c.in-Some.is same in
    let out = taken t c in
    c.leave_out.ensures (seats_of c.deref_mut-fork.result.now) (out.least ∙ even.4) out.seats

height_was : (t : ℕ) (c : After-leave_out t) → c.args.self.now.1 ≡ c.deref_mut-fork.result.now.height
height_was t c =
    let same : c.deref_mut-fork.result.now ≡ c.in-Some.fork.value = search rules in
    ap (λ (v : List Seat × ℕ). v.1) (sym c.self.view_is ∙ ap seen_of c.in-Some.is) ∙ sym (ap (λ (g : Fork). g.height) same)

pub invariant_of-self-then-not-lower : goal.invariant_of-self-then-not-lower
invariant_of-self-then-not-lower t c =
    let same : c.deref_mut-fork.result.now ≡ c.in-Some.fork.value = search rules in
    let even = even_at c.self.invariant c.in-Some.is same in
    let kept : c.take_out-lower.result ≡ false = search rules in
    let new = with_side c.deref_mut-fork.result.now c.is_ahead-is_sooner.result c.take_out-lower.new.self in
    let out = subst (TakenOut c.deref_mut-fork.result.now new c.args.seat.now) kept (taken t c.before.before) in
    rw (noted t c.before.before) (taken_even c.deref_mut-fork.result.now new c.args.seat.now even out)

pub returns-then-not-lower-clause-there : goal.returns-then-not-lower-clause-there
returns-then-not-lower-clause-there t c = there t c.before.before

pub returns-then-not-lower-clause-seats : goal.returns-then-not-lower-clause-seats
returns-then-not-lower-clause-seats t c =
    let same : c.deref_mut-fork.result.now ≡ c.in-Some.fork.value = search rules in
    let f = at_Fork c.self.view_is c.requires.rises c.in-Some.is same in
    ap seats_of (noted t c.before.before) ∙ ((taken t c.before.before).seats ∙ sym (ap (without c.args.seat.now) f.is))

pub returns-then-not-lower-clause-low : goal.returns-then-not-lower-clause-low
returns-then-not-lower-clause-low t c = low_fork c.leave_out.new.self (invariant_of-self-then-not-lower t c)

height_is : (t : ℕ) (c : After-leave_out t) → c.leave_out.new.self.height ≡ c.args.self.now.1
height_is t c = ap (λ (g : Fork). g.height) (noted t c) ∙ ((taken t c).height ∙ sym (height_was t c))

pub returns-then-not-lower-clause-height : goal.returns-then-not-lower-clause-height
returns-then-not-lower-clause-height t c =
    let is = height_is t c.before.before in
    (omega (arith, is), omega (arith, is))

pub returns-then-not-lower-clause-lower : goal.returns-then-not-lower-clause-lower
returns-then-not-lower-clause-lower t c =
    let is = height_is t c.before.before in
    grind (arith, nat_tests, is)

pub balance_noted-requires-clause-near : goal.balance_noted-requires-clause-near
balance_noted-requires-clause-near t c =
    let same : c.deref_mut-fork.result.now ≡ c.in-Some.fork.value = search rules in
    let f = at_Fork c.self.view_is c.requires.rises c.in-Some.is same in
    let even = even_at c.self.invariant c.in-Some.is same in
    let few : length (seats_of c.deref_mut-fork.result.now) ≤ 2 ^ 63 = subst (λ (xs : List Seat). length xs ≤ 2 ^ 63) f.is c.requires.few in
    rw (noted t c.before.before.before) (taken_near c.deref_mut-fork.result.now _ c.args.seat.now c.take_out-lower.result even (taken t c.before.before.before) few)

pub balance_noted-requires-clause-noted : goal.balance_noted-requires-clause-noted
balance_noted-requires-clause-noted t c = rw (noted t c.before.before.before) refl

pub returns-clause-there : goal.returns-clause-there
returns-clause-there t c = there t c.before.before.before.before.before

pub returns-clause-seats : goal.returns-clause-seats
returns-clause-seats t c =
    let same : c.deref_mut-fork.result.now ≡ c.in-Some.fork.value = search rules in
    let f = at_Fork c.self.view_is c.requires.rises c.in-Some.is same in
    c.balance_noted.ensures.1 ∙ (ap seats_of (noted t c.before.before.before.before.before) ∙ (taken t c.before.before.before.before.before).seats ∙ sym (ap (without c.args.seat.now) f.is))

pub returns-clause-height : goal.returns-clause-height
returns-clause-height t c =
    let same : c.deref_mut-fork.result.now ≡ c.in-Some.fork.value = search rules in
    let even = even_at c.self.invariant c.in-Some.is same in
    let out = taken t c.before.before.before.before.before in
    let high : IsHeight c.leave_out.new.self.sooner.1 c.leave_out.new.self.later.1 (seen_of c.balance_noted.new.root).1 = c.balance_noted.ensures.2 in
    rw (height_was t c.before.before.before.before.before) (taken_height c.deref_mut-fork.result.now _ c.args.seat.now c.take_out-lower.result even out _ (subst (λ (g : Fork). IsHeight g.sooner.1 g.later.1 (seen_of c.balance_noted.new.root).1) (noted t c.before.before.before.before.before) high))

pub returns-clause-lower : goal.returns-clause-lower
returns-clause-lower t c =
    let is = height_is t c.before.before.before.before.before in
    search rules
