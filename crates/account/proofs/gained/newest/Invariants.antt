use Rattle.std.proofs.Common.{◌≡◌, map}
use Rattle.source_rows.specs.Rows.{in_order}
use Rattle.account.specs.Gained.{newest}
use Rattle.account.proofs.gained.newest.Given as goal

abbrev pub invariant-ids : goal.invariant-ids
invariant-ids l = newest l.newest l.id-iterator ≡ newest 0 (map (λ r. r.id) (in_order l.rows.rows))
