use Rattle.test_data.proofs.Going.{going_cancelled}
use Rattle.test_data.proofs.book_tests.Lane.cancel.Goals as goal

pub returns : goal.returns
returns g c =
    let lane = c.args.self.now in
    rw c.in_ok-_fired.ensures.view (going_cancelled lane.book lane.view c.args.c lane.cancellables lane.started lane.tick c.requires)
