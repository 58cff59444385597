use Rattle.script_check.proofs.ClassesAgree.{first_class_is}
use Rattle.script_check.proofs.laws.first_class_is_that_of_reading.Goals as goal

pub returns : goal.returns
returns c = first_class_is
