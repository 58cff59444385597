-- what was found, and what is left
use Rattle.std.proofs.Common.{◌≡◌, ◌++◌, drop, map}
use Rattle.named.specs.Faults.{found_at}
use Rattle.named.specs.Views.{found_of, step_view}
use Rattle.named.proofs.check.push_own.Given as goal

abbrev pub invariant-loop-cause : goal.invariant-loop-cause
invariant-loop-cause l = map found_of l.faults.items ++ found_at (map step_view l.place.items) l.sort (drop l.cause-index l.cause-items) ≡ map found_of l.initial.faults.items ++ found_at (map step_view l.place.items) l.sort l.cause-items
