use Rattle.std.proofs.Common.{◌≡◌, ◌∙◌, false, sym, ap}
use Rattle.std.specs.List.{list_any}
use Rattle.tick_stepper.specs.Rest.{is_due}
use Rattle.tick_stepper.proofs.Resting.{turned_parted, none_any, idle_tick}
use Rattle.tick_stepper.proofs.Answering.{own_parted}
use Rattle.tick_stepper.proofs.span.step_tick.Goals as goal

pub turn_each-requires-clause-own : goal.turn_each-requires-clause-own
turn_each-requires-clause-own g c κs _ = own_parted _ _ _ _ _ c.requires.lanes c.in_ok-due.ensures.parted

pub end_tick-requires-clause-turns : goal.end_tick-requires-clause-turns
end_tick-requires-clause-turns g c =
    turned_parted _ _ _ _ _ _ _ c.requires.left c.requires.lanes c.in_ok-due.ensures.parted c.in_ok-done.ensures.lanes (c.as_slice-2.ensures.value ∙ c.in_ok-done.ensures.letters)

pub returns-then-not-any_due : goal.returns-then-not-any_due
returns-then-not-any_due g c =
    let lanes = c.args.lanes.items in
    let none : list_any (is_due c.args.tick) lanes ≡ false = ap (list_any (is_due c.args.tick)) (sym c.as_slice.ensures.value) ∙ (sym c.any_due.ensures ∙ c.if-not-any_due.true) in
    idle_tick c.args.script.now c.args.tick lanes c.requires.left c.requires.lanes (none_any c.args.tick lanes none)
