use Rattle.std.proofs.Common.{refl}
use Rattle.source_rows.specs.Walk.{behind_key}
use Rattle.source_rows.proofs.walk.Walk.new.Goals as goal

pub invariant_of-result : goal.invariant_of-result
invariant_of-result c = (c.requires.rises, c.requires.keys, rw c.new.ensures (record { rest = behind_key c.args.after c.args.seats.now.0; is = refl }))
