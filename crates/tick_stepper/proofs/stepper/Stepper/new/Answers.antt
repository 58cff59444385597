use Rattle.std.proofs.Common.{false, rules, arith}
use Rattle.tick_stepper.proofs.Resting.{opening_at}
use Rattle.tick_stepper.proofs.stepper.Stepper.new.Goals as goal

pub invariant_of-result : goal.invariant_of-result
invariant_of-result c =
    (search rules, omega arith, c.in_ok-lanes.ensures.few, λ u. opening_at c.args.script c.in_ok-lanes.lanes.items c.in_ok-lanes.ensures.lanes c.in_ok-lanes.ensures.due c.in_ok-lanes.ensures.few)

pub returns-clause-opened : goal.returns-clause-opened
returns-clause-opened c =
    let at = opening_at c.args.script c.in_ok-lanes.lanes.items c.in_ok-lanes.ensures.lanes c.in_ok-lanes.ensures.due c.in_ok-lanes.ensures.few in
    λ i. record { script = c.args.script; lanes = at.lanes i; tick = 0; spent = false }
