use Rattle.source_rows.proofs.AtTwo.{by_parents, roots, under_two, children, destroyed_two, reprioritised_two, ordered_two}
use Rattle.source_rows.proofs.laws.levels_go_by_parents.Goals as goal

pub returns : goal.returns
returns c = record { by_parents = by_parents; roots = roots; under = under_two; children = children; destroyed = destroyed_two; reprioritised = reprioritised_two; ordered = ordered_two }
