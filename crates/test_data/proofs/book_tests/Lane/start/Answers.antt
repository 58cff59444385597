use Rattle.test_data.proofs.Going.{going_started}
use Rattle.test_data.proofs.book_tests.Lane.start.Goals as goal

pub returns : goal.returns
returns g c =
    let lane = c.args.self.now in
    rw c.in_ok-number.ensures.ok (going_started lane.book lane.view lane.cancellables lane.started lane.tick 7 c.args.spec.now c.requires c.expect_known.ensures)
