-- what was found, and what is left
use Rattle.std.proofs.Common.{◌≡◌, ◌++◌, drop, map}
use Rattle.script_check.specs.Faults.{found_at}
use Rattle.script_check.specs.Views.{form_of}
use Rattle.script_check.specs.Seen.{found_of}
use Rattle.script_check.proofs.check.push_own.Given as goal

abbrev pub invariant-loop-cause : goal.invariant-loop-cause
invariant-loop-cause l =
    map found_of l.faults.items ++ found_at l.place (form_of l.wanted) (drop l.cause-index l.cause-items) ≡ map found_of l.initial.faults.items ++ found_at l.place (form_of l.wanted) l.cause-items
