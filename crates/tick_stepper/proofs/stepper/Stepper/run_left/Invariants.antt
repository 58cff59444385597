use Rattle.tick_stepper.proofs.stepper.Stepper.run_left.Given as goal

abbrev pub ghosts-run_ticks : goal.ghosts-run_ticks
ghosts-run_ticks g a = record { plan = a.script.now }
