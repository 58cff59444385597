use Rattle.std.proofs.Common.{◌≡◌, ◌∙◌, true, ◌∷◌, ◌++◌, sym, ap, rules, arith}
use Rattle.std.proofs.lemmas.Bool.Decides.{nat_tests}
use Rattle.std.specs.Prelude.{nat_lt}
use Rattle.source_rows.specs.declared.least.Least.{Least}
use Rattle.source_rows.specs.Seats.{due_after, least_by, least_of, lesser, next_due}
use Rattle.source_rows.proofs.SeatTree.{parts_of, even_at}
use Rattle.source_rows.proofs.Soonest.{all_due, least_join}
use Rattle.source_rows.proofs.seats.Seats.+next_due.Goals as goal

pub returns-then-now-fork : goal.returns-then-now-fork
returns-then-now-fork t c =
    let same : c.deref-fork.result.now ≡ c.in-Some.fork.value = search rules in
    let is = parts_of c.self.view_is c.in-Some.is same in
    let even = even_at c.self.invariant c.in-Some.is same in
    let least : c.deref-fork.result.now.least ≡ least_of (c.deref-fork.result.now.sooner.0 ++ c.deref-fork.result.now.seat ∷ c.deref-fork.result.now.later.0) = even.4 in
    let due : c.deref-fork.result.now.least.due ≡ least_by (λ s. s.due) c.args.self.now.0 = ap (λ (l : Least). l.due) least ∙ sym (ap (least_by (λ s. s.due)) is) in
    let low : nat_lt c.args.now c.deref-fork.result.now.least.due ≡ true = grind (arith, nat_tests, c.if-now-fork.true) in
    let under : nat_lt c.args.now (least_by (λ s. s.due) c.args.self.now.0) ≡ true = ap (nat_lt c.args.now) (sym due) ∙ low in
    due ∙ sym (all_due c.args.now c.args.self.now.0 under)

pub returns-else-now-fork : goal.returns-else-now-fork
returns-else-now-fork t c =
    let same : c.deref-fork.result.now ≡ c.in-Some.fork.value = search rules in
    let is = parts_of c.self.view_is c.in-Some.is same in
    let sooner : c.next_due.result ≡ next_due c.args.now c.deref-fork.result.now.sooner.0 = search rules in
    let later : c.next_due-in-Some.result ≡ next_due c.args.now c.deref-fork.result.now.later.0 = search rules in
    let e : c.lesser-in-Some.result ≡ lesser c.next_due.result (lesser (due_after c.args.now c.deref-fork.result.now.seat) c.next_due-in-Some.result) = search rules in
    e ∙ (rw (sooner, later) (sym (ap (next_due c.args.now) is ∙ least_join (due_after c.args.now) c.deref-fork.result.now.sooner.0 (c.deref-fork.result.now.seat ∷ c.deref-fork.result.now.later.0))))
