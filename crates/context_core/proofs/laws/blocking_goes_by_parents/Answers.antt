use Rattle.context_core.proofs.AtTwo.{by_parents, blocked_two, ready_two, selected_two}
use Rattle.context_core.proofs.laws.blocking_goes_by_parents.Goals as goal

pub returns : goal.returns
returns c = record { by_parents = by_parents; blocked = blocked_two; ready = ready_two; selected = selected_two }
