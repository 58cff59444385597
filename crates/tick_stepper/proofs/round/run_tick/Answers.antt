use Rattle.std.proofs.Common.{◌∙◌}
use Rattle.tick_stepper.proofs.Resting.{turned_parted}
use Rattle.tick_stepper.proofs.round.run_tick.Goals as goal

pub end_tick-requires-clause-turns : goal.end_tick-requires-clause-turns
end_tick-requires-clause-turns g c =
    turned_parted _ _ _ _ _ _ _ c.requires.left c.requires.lanes c.in_ok-due.ensures.parted c.in_ok-done.ensures.lanes (c.as_slice.ensures.value ∙ c.in_ok-done.ensures.letters)
