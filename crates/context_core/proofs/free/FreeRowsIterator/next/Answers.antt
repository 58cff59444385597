use Rattle.std.proofs.Common.{◌≡◌, ◌∷◌, [], false, filter, not, ap, sym, ◌∙◌, rules}
use Rattle.context_core.specs.Ready.{is_free}
use Rattle.context_core.proofs.Unblocked.{Leaves, passed_over, fewer_left, none_left}
use Rattle.context_core.proofs.free.FreeRowsIterator.next.Goals as goal

pub returns-in_err-row-2-clause-steps : goal.returns-in_err-row-2-clause-steps
returns-in_err-row-2-clause-steps c =
    let busy = c.loop-id.self-inside.busy.now in
    let left : Leaves busy c.in-Some.id c.leave_under.result c.loop-id.self-inside.rows c.leave_under.new.rows = (c.in-Some.ensures.some.0, c.leave_under.ensures.left, c.leave_under.ensures.same) in
    let blocked : is_free busy c.loop-id.row.now ≡ false = ap not (sym c.in-Some.ensures.any) in
    let first : c.self.inside.rows ≡ c.in_ok-row.row.now ∷ c.next.new.self = c.in_ok-row.ensures.steps in
    let none = none_left busy c.in-Some.id c.leave_under.result c.loop-id.row.now c.loop-id.self-inside.rows c.leave_under.new.rows _ left blocked c.in_err-row-2.ensures.steps.0 c.loop-id.invariant.rows in
    let all : c.args.self.now ≡ [] = sym c.self.view_is ∙ (ap (filter (is_free c.self.inside.busy.now)) first ∙ none) in
    let rest : filter (is_free busy) c.next-in-Some.new.self ≡ [] = ap (filter (is_free busy)) c.in_err-row-2.ensures.steps.1 in
    search rules

pub loop-id-smaller : goal.loop-id-smaller
loop-id-smaller c =
    fewer_left c.loop-id.self-inside.busy.now c.in-Some.id c.leave_under.result c.in_ok-row-2.row.now c.loop-id.self-inside.rows c.leave_under.new.rows c.next-in-Some.new.self
    (c.in-Some.ensures.some.0, c.leave_under.ensures.left, c.leave_under.ensures.same) c.in_ok-row-2.ensures.steps

pub loop-id-preserved : goal.loop-id-preserved
loop-id-preserved c =
    let busy = c.loop-id.self-inside.busy.now in
    let blocked : is_free busy c.loop-id.row.now ≡ false = ap not (sym c.in-Some.ensures.any) in
    record {
      busy = c.loop-id.invariant.busy;
      rows = passed_over busy c.in-Some.id c.leave_under.result c.loop-id.row.now c.in_ok-row-2.row.now c.loop-id.self-inside.rows c.leave_under.new.rows c.next-in-Some.new.self _
          (c.in-Some.ensures.some.0, c.leave_under.ensures.left, c.leave_under.ensures.same) blocked c.in_ok-row-2.ensures.steps c.loop-id.invariant.rows;
    }
