use Rattle.std.proofs.Common.{◌≡◌, ◌++◌, map}
use Rattle.std.specs.List.{flat_map}
use Rattle.tick_stepper.specs.Share.{turned_one, out_of_one}
use Rattle.tick_stepper.proofs.queue.finish.Given as goal

abbrev pub invariant-loop : goal.invariant-loop
invariant-loop g l =
    (goal.iterator-loop g).can_next l.iterator' × (goal.iterator-loop g).is_finite l.iterator'
    × (l.list ≡ record l.fn.list { taken = l.list.taken })
    × (l.lanes.items ≡ l.fn.lanes.items ++ map (turned_one l.script l.tick) l.list.taken)
    × (l.pass ≡ record { home = l.office; posted = flat_map (out_of_one l.script l.tick) l.list.taken })
