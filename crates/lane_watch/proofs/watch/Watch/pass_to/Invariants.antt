use Rattle.std.proofs.Common.{◌≡◌}
use Rattle.lane_watch.specs.Watch.{at_tick}
use Rattle.lane_watch.proofs.watch.Watch.pass_to.Given as goal

abbrev pub invariant-loop-at : goal.invariant-loop-at
invariant-loop-at l = l.self ≡ record l.fn.self { tasks = at_tick l.at l.fn.self.tasks }
