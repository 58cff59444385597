use Rattle.std.proofs.Common.{length}
use Rattle.source_rows.proofs.Taken.{Removing}
use Rattle.source_rows.proofs.removal.remove_under.Given as goal

abbrev pub invariant-loop-row : goal.invariant-loop-row
invariant-loop-row l = Removing l.id l.key l.table l.initial.table

abbrev pub decreases-loop-row : goal.decreases-loop-row
decreases-loop-row l = length l.table
