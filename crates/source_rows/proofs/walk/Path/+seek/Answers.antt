use Rattle.std.proofs.Common.{◌≡◌, ◌<◌, ◌∷◌, ◌++◌, List, length, true, false, ap, sym, ◌∙◌, subst, arith, rules, append_assoc}
use Rattle.source_rows.specs.declared.seats.Seat.{Seat}
use Rattle.source_rows.specs.Seats.{is_passed}
use Rattle.source_rows.specs.Walk.{Begins, behind_key}
use Rattle.source_rows.proofs.SeatTree.{at_Fork}
use Rattle.source_rows.proofs.Walking.{begins_by, begins_after, behind_left, behind_right, nothing_behind}
use Rattle.source_rows.proofs.walk.Path.+seek.Goals as goal

pub seek-requires : goal.seek-requires
seek-requires t c =
    let same : c.deref-fork.result.now ≡ c.in-Some.fork.value = search rules in
    let f = at_Fork c.seats.view_is c.requires c.in-Some.is same in
    let fewer : length c.deref-fork.result.now.later.0 < length c.args.seats.now.0 = omega (arith, f.parts) in
    search rules

pub seek-requires-else-is_passed : goal.seek-requires-else-is_passed
seek-requires-else-is_passed t c =
    let same : c.deref-fork.result.now ≡ c.in-Some.fork.value = search rules in
    let f = at_Fork c.seats.view_is c.requires c.in-Some.is same in
    let fewer : length c.deref-fork.result.now.sooner.0 < length c.args.seats.now.0 = omega (arith, f.parts) in
    search rules

pub returns-then-is_passed-clause-begins : goal.returns-then-is_passed-clause-begins
returns-then-is_passed-clause-begins t c =
    let same : c.deref-fork.result.now ≡ c.in-Some.fork.value = search rules in
    let f = at_Fork c.seats.view_is c.requires c.in-Some.is same in
    let fork = c.deref-fork.result.now in
    let passed : is_passed c.args.after fork.seat.key ≡ true = search rules in
    let e : behind_key c.args.after c.args.seats.now.0 ≡ behind_key c.args.after fork.later.0 = ap (behind_key c.args.after) f.is ∙ behind_right c.args.after fork.sooner.0 fork.seat fork.later.0 f.rises passed in
    subst (λ (l : List Seat). Begins (l ++ c.args.self.now) c.seek.new.self) (sym e) c.seek.ensures.begins

pub returns-then-is_passed-clause-none : goal.returns-then-is_passed-clause-none
returns-then-is_passed-clause-none t c = λ none.
    let same : c.deref-fork.result.now ≡ c.in-Some.fork.value = search rules in
    let f = at_Fork c.seats.view_is c.requires c.in-Some.is same in
    let fork = c.deref-fork.result.now in
    let passed : is_passed c.args.after fork.seat.key ≡ true = search rules in
    let e : behind_key c.args.after c.args.seats.now.0 ≡ behind_key c.args.after fork.later.0 = ap (behind_key c.args.after) f.is ∙ behind_right c.args.after fork.sooner.0 fork.seat fork.later.0 f.rises passed in
    ap (λ (l : List Seat). l ++ c.args.self.now) e ∙ c.seek.ensures.none none

pub returns-else-is_passed-clause-begins : goal.returns-else-is_passed-clause-begins
returns-else-is_passed-clause-begins t c =
    let same : c.deref-fork.result.now ≡ c.in-Some.fork.value = search rules in
    let f = at_Fork c.seats.view_is c.requires c.in-Some.is same in
    let fork = c.deref-fork.result.now in
    let passed : is_passed c.args.after fork.seat.key ≡ false = search rules in
    let e : behind_key c.args.after c.args.seats.now.0 ≡ behind_key c.args.after fork.sooner.0 ++ fork.seat ∷ fork.later.0 = ap (behind_key c.args.after) f.is ∙ behind_left c.args.after fork.sooner.0 fork.seat fork.later.0 f.rises passed in
    let all : behind_key c.args.after c.args.seats.now.0 ++ c.args.self.now ≡ behind_key c.args.after fork.sooner.0 ++ (fork.seat ∷ fork.later.0 ++ c.args.self.now) =
    ap (λ (l : List Seat). l ++ c.args.self.now) e ∙ append_assoc (behind_key c.args.after fork.sooner.0) (fork.seat ∷ fork.later.0) c.args.self.now in
    subst (λ (l : List Seat). Begins l c.seek-else-is_passed.new.self) (sym all)
    (begins_by _ (behind_key c.args.after fork.sooner.0 ++ c.push.new.self) c.seek-else-is_passed.new.self (begins_after (behind_key c.args.after fork.sooner.0) _ c.push.new.self c.push.ensures.begins) c.seek-else-is_passed.ensures.begins)

pub returns-else-is_passed-clause-none : goal.returns-else-is_passed-clause-none
returns-else-is_passed-clause-none t c = λ none. absurd (c.push.ensures.some (nothing_behind (behind_key c.args.after c.deref-fork.result.now.sooner.0) c.push.new.self (c.seek-else-is_passed.ensures.none none)))
