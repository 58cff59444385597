use Rattle.std.proofs.Common.{◌≡◌, ◌<◌, List, length, true, false, sym, subst, arith, rules}
use Rattle.std.specs.Borrow.{Bor}
use Rattle.std.specs.List.{AllByRecursion}
use Rattle.source_rows.specs.declared.seats.Seat.{Seat}
use Rattle.source_rows.specs.LastTo.{stands_to, IsLastTo}
use Rattle.source_rows.proofs.SeatTree.{at_Fork}
use Rattle.source_rows.proofs.LastTo.{some_of, none_of, last_sooner, none_sooner, last_here, last_later}
use Rattle.source_rows.proofs.seats.Seats.+last_to.Goals as goal

pub last_to-requires : goal.last_to-requires
last_to-requires t c =
    let same : c.deref-fork.result.now ≡ c.in-Some.fork.value = search rules in
    let f = at_Fork c.self.view_is c.requires c.in-Some.is same in
    let fewer : length c.deref-fork.result.now.sooner.0 < length c.args.self.now.0 = omega (arith, f.parts) in
    search rules

pub last_to-requires-in-Some : goal.last_to-requires-in-Some
last_to-requires-in-Some t c =
    let same : c.deref-fork.result.now ≡ c.in-Some.fork.value = search rules in
    let f = at_Fork c.self.view_is c.requires c.in-Some.is same in
    let fewer : length c.deref-fork.result.now.later.0 < length c.args.self.now.0 = omega (arith, f.parts) in
    search rules

pub returns-then-is_before-clause-some : goal.returns-then-is_before-clause-some
returns-then-is_before-clause-some t c =
    let same : c.deref-fork.result.now ≡ c.in-Some.fork.value = search rules in
    let f = at_Fork c.self.view_is c.requires c.in-Some.is same in
    let fork = c.deref-fork.result.now in
    let behind : stands_to c.args.key.now fork.seat ≡ false = search rules in
    some_of (λ (s : Bor Seat). IsLastTo c.args.key.now fork.sooner.0 s.now) (λ (s : Bor Seat). IsLastTo c.args.key.now c.args.self.now.0 s.now)
    (λ s h. subst (λ (l : List Seat). IsLastTo c.args.key.now l s.now) (sym f.is) (last_sooner c.args.key.now fork.sooner.0 fork.seat fork.later.0 s.now f.rises behind h)) c.last_to.result c.last_to.ensures.some

pub returns-then-is_before-clause-none : goal.returns-then-is_before-clause-none
returns-then-is_before-clause-none t c =
    let same : c.deref-fork.result.now ≡ c.in-Some.fork.value = search rules in
    let f = at_Fork c.self.view_is c.requires c.in-Some.is same in
    let fork = c.deref-fork.result.now in
    let behind : stands_to c.args.key.now fork.seat ≡ false = search rules in
    none_of (AllByRecursion (λ u. stands_to c.args.key.now u ≡ false) fork.sooner.0) (AllByRecursion (λ u. stands_to c.args.key.now u ≡ false) c.args.self.now.0)
    (λ h. subst (AllByRecursion (λ u. stands_to c.args.key.now u ≡ false)) (sym f.is) (none_sooner c.args.key.now fork.sooner.0 fork.seat fork.later.0 f.rises behind h)) c.last_to.result c.last_to.ensures.none

pub returns-in-None-last_to-clause-some : goal.returns-in-None-last_to-clause-some
returns-in-None-last_to-clause-some t c =
    let same : c.deref-fork.result.now ≡ c.in-Some.fork.value = search rules in
    let f = at_Fork c.self.view_is c.requires c.in-Some.is same in
    let fork = c.deref-fork.result.now in
    let here : stands_to c.args.key.now fork.seat ≡ true = search rules in
    subst (λ (l : List Seat). IsLastTo c.args.key.now l fork.seat) (sym f.is) (last_here c.args.key.now fork.sooner.0 fork.seat fork.later.0 here c.in-None-last_to.ensures.none)

pub returns-in_default-clause-some : goal.returns-in_default-clause-some
returns-in_default-clause-some t c =
    let same : c.deref-fork.result.now ≡ c.in-Some.fork.value = search rules in
    let f = at_Fork c.self.view_is c.requires c.in-Some.is same in
    let fork = c.deref-fork.result.now in
    some_of (λ (s : Bor Seat). IsLastTo c.args.key.now fork.later.0 s.now) (λ (s : Bor Seat). IsLastTo c.args.key.now c.args.self.now.0 s.now)
    (λ s h. subst (λ (l : List Seat). IsLastTo c.args.key.now l s.now) (sym f.is) (last_later c.args.key.now fork.sooner.0 fork.seat fork.later.0 s.now h)) c.last_to-in-Some.result c.last_to-in-Some.ensures.some
