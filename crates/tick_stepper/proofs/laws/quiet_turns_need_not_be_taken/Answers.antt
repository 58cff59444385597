use Rattle.tick_stepper.proofs.Sparse.{sparse_is_dense}
use Rattle.tick_stepper.proofs.laws.quiet_turns_need_not_be_taken.Goals as goal

pub returns : goal.returns
returns c = sparse_is_dense
