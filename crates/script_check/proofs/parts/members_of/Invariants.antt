-- what was found, and what is left
use Rattle.std.proofs.Common.{◌≡◌, ◌++◌, drop, map}
use Rattle.serde_json.specs.View.{view}
use Rattle.script_check.specs.Parts.{under_keys}
use Rattle.script_check.specs.Views.{key_of}
use Rattle.script_check.specs.Seen.{part_view}
use Rattle.script_check.proofs.parts.members_of.Given as goal

abbrev pub invariant-loop-key : goal.invariant-loop-key
invariant-loop-key l =
    map part_view l.found.items ++ under_keys (map key_of (drop l.key-index l.keys)) (view l.value) ≡ under_keys (map key_of l.keys) (view l.value)
