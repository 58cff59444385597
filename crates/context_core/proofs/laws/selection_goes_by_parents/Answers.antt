use Rattle.context_core.proofs.AtFour.{blocked_four, lends_each, ready_four, selected_four}
use Rattle.context_core.proofs.laws.selection_goes_by_parents.Goals as goal

pub returns : goal.returns
returns c = record { blocked = blocked_four; lends = lends_each; ready = ready_four; selected = selected_four }
