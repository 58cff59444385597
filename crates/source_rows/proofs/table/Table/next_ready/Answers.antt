use Rattle.std.proofs.Common.{◌≡◌, ◌∙◌, ℤ, pos, true, false, cond, Some, None, ap, sym, rules, arith, w64}
use Rattle.std.proofs.lemmas.Bool.Decides.{nat_tests}
use Rattle.std.specs.Prelude.{nat_lt}
use mir.Val.{to_z}
use Rattle.source_rows.specs.Candidates.{never}
use Rattle.source_rows.specs.Rows.{next_ready}
use Rattle.source_rows.specs.Seats.{next_due, in_seats}
use Rattle.source_rows.specs.Slots.{rows_at}
use Rattle.source_rows.proofs.NextDue.{time, next_is}
use Rattle.source_rows.proofs.table.Table.next_ready.Goals as goal
use Rattle.source_rows.proofs.table.Table.next_ready.Goals.{After-next_due-due}

answered : (c : After-next_due-due) → next_ready c.args.now c.args.self.now ≡ time c.next_due-due.result
answered c =
    let rows = rows_at c.self.inside.slots c.self.inside.keys in
    let e : c.next_due-due.result ≡ next_due c.args.now (in_seats rows) = c.next_due-due.ensures ∙ ap (next_due c.args.now) c.self.invariant.seated.are in
    ap (next_ready c.args.now) (sym c.self.view_is) ∙ (next_is c.args.now rows c.self.invariant.times ∙ ap time (sym e))

pub returns-then-due-lt-NEVER : goal.returns-then-due-lt-NEVER
returns-then-due-lt-NEVER c =
    let due = c.next_due-due.result in
    let low : nat_lt due never ≡ true = grind (arith, nat_tests, c.if-due-lt-NEVER.true) in
    let z : to_z w64 due ≡ pos due = search rules in
    ap (λ (x : ℤ). Some x) z ∙ sym (answered c.before ∙ ap (λ b. cond b (Some (pos due)) None) low)

pub returns-else-due-lt-NEVER : goal.returns-else-due-lt-NEVER
returns-else-due-lt-NEVER c =
    let due = c.next_due-due.result in
    let high : nat_lt due never ≡ false = grind (arith, nat_tests, c.if-due-lt-NEVER.false) in
    sym (answered c.before ∙ ap (λ b. cond b (Some (pos due)) None) high)
