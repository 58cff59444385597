-- what is left of the most is for the lanes that are left
use Rattle.std.proofs.Common.{◌≡◌, ◌+◌, drop}
use Rattle.serde_json.specs.View.{items_view}
use Rattle.loop_script.specs.Misfit.{contexts_in}
use Rattle.script_check.proofs.own.are_more_contexts.Given as goal

abbrev pub invariant-loop-lane : goal.invariant-loop-lane
invariant-loop-lane l = l.left + contexts_in (items_view l.lanes) ≡ l.most + contexts_in (items_view (drop l.lane-index l.lanes))
