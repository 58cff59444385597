use Rattle.std.proofs.Common.{refl}
use Rattle.source_rows.proofs.laws.worked_orders.Goals as goal

pub returns : goal.returns
returns c = record { chain = refl; tree = refl; later = refl; gone = refl }
