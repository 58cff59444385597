-- what was found, and what is left
use Rattle.std.proofs.Common.{◌≡◌, ◌++◌, ◌+◌, drop, map}
use Rattle.serde_json.specs.View.{view}
use Rattle.script_check.specs.Parts.{from}
use Rattle.script_check.specs.Views.{form_of}
use Rattle.script_check.specs.Seen.{part_view}
use Rattle.script_check.proofs.parts.parts_from.Given as goal

abbrev pub invariant-loop-n : goal.invariant-loop-n
invariant-loop-n l =
    map part_view l.found.items ++ from (l.first + l.n) (map form_of (drop l.n l.wanted)) (view l.value) ≡ from l.first (map form_of l.wanted) (view l.value)
