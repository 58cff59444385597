use Rattle.std.proofs.Common.{◌≤◌, ◌↔◌, drop}
use Rattle.toml.specs.Data.{items_depth, members_depth}
use Rattle.toml.specs.View.{items_view, members_view}
use Rattle.toml_names.proofs.nesting.+nesting.Given as goal

abbrev pub invariant-items_nest_within-loop-item : goal.invariant-items_nest_within-loop-item
invariant-items_nest_within-loop-item l = (items_depth (items_view l.item-items) ≤ l.levels) ↔ (items_depth (items_view (drop l.item-index l.item-items)) ≤ l.levels)

abbrev pub invariant-members_nest_within-members : goal.invariant-members_nest_within-members
invariant-members_nest_within-members l = (members_depth (members_view l.table.entries) ≤ l.levels) ↔ (members_depth (members_view l.member-iterator) ≤ l.levels)
