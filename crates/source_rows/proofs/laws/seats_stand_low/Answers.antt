use Rattle.source_rows.proofs.Heights.{logarithm, of_2000, of_100}
use Rattle.source_rows.proofs.laws.seats_stand_low.Goals as goal

pub returns : goal.returns
returns c = record { logarithm = logarithm; of_2000 = of_2000; of_100 = of_100 }
