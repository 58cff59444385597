use Rattle.script_check.proofs.ClassesAgree.{classes_agree as agree}
use Rattle.script_check.proofs.laws.classes_agree.Goals as goal

pub returns : goal.returns
returns c = agree
