use Rattle.std.proofs.Common.{None, refl, ◌∙◌, ap, arith}
use Rattle.tick_stepper.specs.Account.{started}
use Rattle.account.specs.declared.going.Going.{Going}
use Rattle.account.specs.declared.going.Phase.TheVariants as phases
use Rattle.account.proofs.Goings.{starts_at, stands_started}
use Rattle.account.proofs.account.Account.new.Goals as goal

pub invariant_of-result : goal.invariant_of-result
invariant_of-result c =
    let lanes = c.in_ok-lanes.ensures.lanes in
    let g : Going = record { lanes = c.in_ok-lanes.lanes; letters = c.new.result; phase = phases.Turning 0; begun = None } in
    let there = starts_at g refl refl c.new.ensures.items in (
      omega arith,
      c.in_ok-lanes.ensures.few,
      λ _. record {
        stands = stands_started c.args.script 0 g c.in_ok-lanes.ensures.few (omega arith) there refl refl c.in_ok-lanes.ensures.unspent lanes;
        last = λ _. there ∙ ap started lanes;
      },
    )
