use Rattle.test_data.specs.Going.{GoesOn}
use Rattle.test_data.proofs.book_tests.take_all.Given as goal

abbrev pub invariant-steps : goal.invariant-steps
invariant-steps g l = GoesOn l.lane.book l.lane.view l.lane.cancellables l.lane.started l.lane.tick
