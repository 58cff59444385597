use Rattle.std.proofs.Common.{◌≡◌}
use Rattle.std.specs.Option.{option_copied}
use Rattle.source_rows.specs.Steps.{HasLeft, ready_in}
use Rattle.source_rows.proofs.candidates.look.Given as goal

abbrev pub invariant-near : goal.invariant-near
invariant-near l = (goal.iterator-near).can_next l.seats × (goal.iterator-near).is_finite l.seats × HasLeft l.table l.sight (option_copied l.last) l.seats × (ready_in l.sight l.table l.initial.seats ≡ ready_in l.sight l.table l.seats)
