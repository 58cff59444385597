use Rattle.std.proofs.Common.{get_or, is_some, ap, ◌∙◌, sym, subst, arith}
use Rattle.lane_turn.specs.Lane.{State, Turn}
use Rattle.lane_turn.specs.Step.{step}
use Rattle.lane_turn.specs.Turn.{stepped}
use Rattle.lane_turn.specs.Traces.{Grows, IsOf}
use Rattle.account.specs.Standing.{turn_in}
use Rattle.account.proofs.Lines.{grows_put, at_put, same_there}
use Rattle.account.proofs.Moments.{step_grows}
use Rattle.account.proofs.States.{owns_here, held_here, steps_at, owns_put, unspent_put}
use Rattle.account.proofs.turns.step.Goals as goal

pub step-requires-clause-own : goal.step-requires-clause-own
step-requires-clause-own c _ = owns_here c.args.lanes.now c.args.at c.index-lanes-at.result c.args.begun.now (omega arith) c.requires.own

pub step-requires-clause-going : goal.step-requires-clause-going
step-requires-clause-going c _ = held_here c.args.script.now c.args.tick c.args.lanes.now c.args.at c.index-lanes-at.result c.args.begun.now (omega arith) c.requires.held

pub returns-clause-moved : goal.returns-clause-moved
returns-clause-moved c posted =
    steps_at c.args.script.now c.args.tick c.args.lanes.now c.args.at c.index-lanes-at.result c.step.new.self c.args.begun.now _ _ posted (omega arith) c.in_ok-step.ensures.more c.in_ok-step.ensures.next

pub returns-clause-own : goal.returns-clause-own
returns-clause-own c = owns_put c.args.lanes.now c.args.at c.step.new.self _ (omega arith) c.in_ok-step.ensures.own

pub returns-clause-unspent : goal.returns-clause-unspent
returns-clause-unspent c = unspent_put c.args.lanes.now c.args.at c.step.new.self c.requires.unspent c.in_ok-step.ensures.lasts

pub returns-clause-grows : goal.returns-clause-grows
returns-clause-grows c =
    let d : State = c.index-lanes-at.result in
    let t : Turn = turn_in (get_or c.args.lanes.now c.args.at d).lane c.args.begun.now in
    grows_put c.args.tick c.args.lanes.now c.args.at d c.step.new.self (omega arith)
    (subst (λ (u : Turn). Grows (IsOf c.args.tick) t.lane.trace u.lane.trace) (sym c.in_ok-step.ensures.next) (step_grows c.args.script.now c.args.tick t))

pub returns-clause-more : goal.returns-clause-more
returns-clause-more c d =
    c.in_ok-step.ensures.more ∙ ap (λ (s : State). is_some (step c.args.script.now c.args.tick (turn_in s.lane c.args.begun.now))) (same_there c.args.lanes.now c.args.at c.index-lanes-at.result d (omega arith))

pub returns-clause-trace : goal.returns-clause-trace
returns-clause-trace c d =
    at_put c.args.lanes.now c.args.at c.step.new.self (omega arith)
    ∙ (ap (λ (u : Turn). u.lane.trace) c.in_ok-step.ensures.next
    ∙ ap (λ (s : State). (stepped c.args.script.now c.args.tick (turn_in s.lane c.args.begun.now)).lane.trace) (same_there c.args.lanes.now c.args.at c.index-lanes-at.result d (omega arith)))
