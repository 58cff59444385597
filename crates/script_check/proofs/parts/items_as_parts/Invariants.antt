-- what was found, and what is left
use Rattle.std.proofs.Common.{◌≡◌, ◌++◌, drop, map}
use Rattle.serde_json.specs.View.{items_view}
use Rattle.script_check.specs.Parts.{items_from}
use Rattle.script_check.specs.Views.{form_of}
use Rattle.script_check.specs.Seen.{part_view}
use Rattle.script_check.proofs.parts.items_as_parts.Given as goal

abbrev pub invariant-loop-n : goal.invariant-loop-n
invariant-loop-n l =
    map part_view l.found.items ++ items_from l.n (form_of l.each) (items_view (drop l.n l.items)) ≡ items_from 0 (form_of l.each) (items_view l.items)
