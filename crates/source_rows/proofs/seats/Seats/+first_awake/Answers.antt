use Rattle.std.proofs.Common.{◌≡◌, ◌∙◌, Some, None, ℕ, Option, is_some, false, true, List, ◌∷◌, ◌++◌, sym, ap, rules}
use Rattle.source_rows.specs.Rows.{Key}
use Rattle.source_rows.specs.declared.seats.Seat.{Seat}
use Rattle.source_rows.specs.declared.sight.Sight.{Sight}
use Rattle.cancel_view.specs.Marks.{opening}
use Rattle.source_rows.specs.Candidates.{sleeps}
use Rattle.source_rows.specs.Seats.{first_awake, least_by, least_of, marks_of, is_passed}
use Rattle.source_rows.specs.declared.least.Least.{Least}
use Rattle.source_rows.proofs.SeatTree.{at_Fork, even_at}
use Rattle.source_rows.proofs.Ahead.{none_awake, awake_left, awake_here, awake_over, awake_right}
use Rattle.source_rows.proofs.seats.Seats.+first_awake.Goals as goal

pub returns-then-sleeps : goal.returns-then-sleeps
returns-then-sleeps t c =
    let same : c.deref-fork.result.now ≡ c.in-Some.fork.value = search rules in
    let f = at_Fork c.self.view_is c.requires c.in-Some.is same in
    let even = even_at c.self.invariant c.in-Some.is same in
    let least : c.deref-fork.result.now.least ≡ least_of (c.deref-fork.result.now.sooner.0 ++ c.deref-fork.result.now.seat ∷ c.deref-fork.result.now.later.0) = even.4 in
    let low : sleeps c.args.sight.now c.deref-fork.result.now.least.marks c.deref-fork.result.now.least.due ≡ true = search rules in
    let under : sleeps c.args.sight.now (marks_of c.args.self.now.0) (least_by (λ s. s.due) c.args.self.now.0) ≡ true =
    ap (λ (l : Least). sleeps c.args.sight.now l.marks l.due) (ap least_of f.is ∙ sym least) ∙ low in
    sym (none_awake c.args.after c.args.sight.now c.args.self.now.0 under)

pub first_awake-requires : goal.first_awake-requires
first_awake-requires t c =
    let same : c.deref-fork.result.now ≡ c.in-Some.fork.value = search rules in
    let f = at_Fork c.self.view_is c.requires c.in-Some.is same in
    search rules

pub first_awake-requires-in-Some : goal.first_awake-requires-in-Some
first_awake-requires-in-Some t c =
    let same : c.deref-fork.result.now ≡ c.in-Some.fork.value = search rules in
    let f = at_Fork c.self.view_is c.requires c.in-Some.is same in
    search rules

pub first_awake-requires-then-one_sleeps : goal.first_awake-requires-then-one_sleeps
first_awake-requires-then-one_sleeps t c =
    let same : c.deref-fork.result.now ≡ c.in-Some.fork.value = search rules in
    let f = at_Fork c.self.view_is c.requires c.in-Some.is same in
    search rules

pub returns-then-is_passed : goal.returns-then-is_passed
returns-then-is_passed t c =
    let same : c.deref-fork.result.now ≡ c.in-Some.fork.value = search rules in
    let f = at_Fork c.self.view_is c.requires c.in-Some.is same in
    let e = c.first_awake.ensures in
    let passed : is_passed c.args.after c.deref-fork.result.now.seat.key ≡ true = search rules in
    e ∙ sym (ap (first_awake c.args.after c.args.sight.now) f.is ∙ awake_right c.args.after c.args.sight.now c.deref-fork.result.now.sooner.0 c.deref-fork.result.now.seat c.deref-fork.result.now.later.0 f.rises passed)

pub returns-else-one_sleeps : goal.returns-else-one_sleeps
returns-else-one_sleeps t c =
    let same : c.deref-fork.result.now ≡ c.in-Some.fork.value = search rules in
    let f = at_Fork c.self.view_is c.requires c.in-Some.is same in
    let e = c.first_awake-in-Some.ensures in
    let passed : is_passed c.args.after c.deref-fork.result.now.seat.key ≡ false = search rules in
    let due : sleeps c.args.sight.now (opening c.deref-fork.result.now.seat.mark) c.deref-fork.result.now.seat.due ≡ false = search rules in
    let none : first_awake c.args.after c.args.sight.now c.deref-fork.result.now.sooner.0 ≡ None = sym e ∙ c.in-None-first_awake.is in
    sym (ap (first_awake c.args.after c.args.sight.now) f.is ∙ awake_here c.args.after c.args.sight.now c.deref-fork.result.now.sooner.0 c.deref-fork.result.now.seat c.deref-fork.result.now.later.0 passed due none)

pub returns-then-one_sleeps : goal.returns-then-one_sleeps
returns-then-one_sleeps t c =
    let same : c.deref-fork.result.now ≡ c.in-Some.fork.value = search rules in
    let f = at_Fork c.self.view_is c.requires c.in-Some.is same in
    let e = c.first_awake-in-Some.ensures in
    let g = c.first_awake-then-one_sleeps.ensures in
    let passed : is_passed c.args.after c.deref-fork.result.now.seat.key ≡ false = search rules in
    let due : sleeps c.args.sight.now (opening c.deref-fork.result.now.seat.mark) c.deref-fork.result.now.seat.due ≡ true = search rules in
    let none : first_awake c.args.after c.args.sight.now c.deref-fork.result.now.sooner.0 ≡ None = sym e ∙ c.in-None-first_awake.is in
    g ∙ sym (ap (first_awake c.args.after c.args.sight.now) f.is ∙ awake_over c.args.after c.args.sight.now c.deref-fork.result.now.sooner.0 c.deref-fork.result.now.seat c.deref-fork.result.now.later.0 passed due none)

left_is : (after : Option Key) (sight : Sight) (l : List Seat) (k : Seat) (r : List Seat) (o : Option ℕ) → is_some o ≡ true → first_awake after sight l ≡ o → o ≡ first_awake after sight (l ++ k ∷ r)
left_is after sight l k r None h e = cc
left_is after sight l k r (Some z) h e = sym (awake_left after sight z l k r e)

pub returns-in_default : goal.returns-in_default
returns-in_default t c =
    let same : c.deref-fork.result.now ≡ c.in-Some.fork.value = search rules in
    let f = at_Fork c.self.view_is c.requires c.in-Some.is same in
    let e = c.first_awake-in-Some.ensures in
    let found : first_awake c.args.after c.args.sight.now c.deref-fork.result.now.sooner.0 ≡ c.first_awake-in-Some.result = sym e in
    let some : is_some c.first_awake-in-Some.result ≡ true = search rules in
    left_is c.args.after c.args.sight.now c.deref-fork.result.now.sooner.0 c.deref-fork.result.now.seat c.deref-fork.result.now.later.0 c.first_awake-in-Some.result some found ∙ sym (ap (first_awake c.args.after c.args.sight.now) f.is)
