-- what is left has the depth, and the levels that are left fall
use Rattle.std.proofs.Common.{◌≡◌, ◌+◌, ◌*◌, drop}
use Rattle.std.specs.Prelude.{nat_lt}
use Rattle.serde_json.specs.Data.{items_depth, members_depth}
use Rattle.serde_json.specs.View.{items_view, members_view}
use Rattle.script_check.proofs.depth.+is_deeper.Given as goal

abbrev pub decreases-is_deeper : goal.decreases-is_deeper
decreases-is_deeper l = 2 * l.levels

abbrev pub decreases-some_item_is_deeper : goal.decreases-some_item_is_deeper
decreases-some_item_is_deeper l = 2 * l.levels + 1

abbrev pub decreases-some_member_is_deeper : goal.decreases-some_member_is_deeper
decreases-some_member_is_deeper l = 2 * l.levels + 1

abbrev pub invariant-some_item_is_deeper-loop-item : goal.invariant-some_item_is_deeper-loop-item
invariant-some_item_is_deeper-loop-item l =
    nat_lt l.levels (items_depth (items_view l.items)) ≡ nat_lt l.levels (items_depth (items_view (drop l.item-index l.items)))

abbrev pub invariant-some_member_is_deeper-loop-name : goal.invariant-some_member_is_deeper-loop-name
invariant-some_member_is_deeper-loop-name l =
    nat_lt l.levels (members_depth (members_view l.members.entries)) ≡ nat_lt l.levels (members_depth (members_view l._name-iterator))
