use Rattle.std.proofs.Common.{◌≡◌, map}
use Rattle.std.specs.List.{flat_map}
use Rattle.tick_stepper.specs.Share.{turned_one, out_of_one}
use Rattle.tick_stepper.proofs.work.work_through.Given as goal

abbrev pub invariant-loop : goal.invariant-loop
invariant-loop g l =
    (goal.iterator-loop g).can_next l.iterator' × (goal.iterator-loop g).is_finite l.iterator'
    × (l.work ≡ record { home = l.list; put = l.fn.hired.work.put; taken = l.work.taken })
    × (l.lanes.items ≡ map (turned_one l.script l.tick) l.work.taken)
    × (l.post ≡ record { home = l.office; posted = flat_map (out_of_one l.script l.tick) l.work.taken })
