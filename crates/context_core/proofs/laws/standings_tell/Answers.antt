use Rattle.context_core.proofs.Standings.{selected_exactly, blocked_exactly, names_so}
use Rattle.context_core.proofs.laws.standings_tell.Goals as goal

pub returns-clause-which : goal.returns-clause-which
returns-clause-which c = record { selected = selected_exactly; blocked = λ level cancelled now busy rows. blocked_exactly level cancelled now busy rows rows }

pub returns-clause-names : goal.returns-clause-names
returns-clause-names c = names_so
