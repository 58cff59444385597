use Rattle.std.proofs.Common.{rules, tests}
use Rattle.std.proofs.lemmas.List.Elements.{filter_from_retain}
use Rattle.tick_stepper.specs.Share.{has_lanes}
use Rattle.tick_stepper.proofs.deal.leave_out_idle.Goals as goal

pub returns : goal.returns
returns c = filter_from_retain _ has_lanes (λ p x b q k. search (rules, tests)) _ _ _ c.retain.ensures.filtered
