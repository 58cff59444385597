use Rattle.loop_script.proofs.Readings.{one_reading}
use Rattle.loop_script.proofs.laws.bytes_have_one_reading.Goals as goal

pub returns : goal.returns
returns c = one_reading
