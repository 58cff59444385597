use Rattle.tick_stepper.proofs.Workers.{each_turned_once}
use Rattle.tick_stepper.proofs.Delivery.{delivery_is_one, tick_is_one}
use Rattle.tick_stepper.proofs.Changes.{changes_are_partial}
use Rattle.tick_stepper.proofs.Happens.{claims_happen}
use Rattle.tick_stepper.proofs.laws.lanes_commute.Goals as goal

pub returns : goal.returns
returns c = record { turned = each_turned_once; delivered = delivery_is_one; tick = tick_is_one; parts = changes_are_partial; happens = claims_happen }
