use Rattle.account.proofs.Attached.{tells_attach, tells_child}
use Rattle.account.proofs.laws.attached_is_next.Goals as goal

pub returns-clause-attach : goal.returns-clause-attach
returns-clause-attach c = tells_attach

pub returns-clause-child : goal.returns-clause-child
returns-clause-child c = tells_child
