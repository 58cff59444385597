-- what was found, and what is left
use Rattle.std.proofs.Common.{◌≡◌, ◌++◌, drop, map}
use Rattle.serde_json.specs.View.{view}
use Rattle.script_check.specs.VersionFaults.{gives_of}
use Rattle.script_check.specs.Seen.{found_of}
use Rattle.script_check.specs.Views.{name_of}
use Rattle.script_check.proofs.version_check.push_gives_of.Given as goal

abbrev pub invariant-loop-n : goal.invariant-loop-n
invariant-loop-n l =
    let left = gives_of (name_of l.name) (name_of l.actions) l.n (map view (drop l.n l.owners)) in
    map found_of l.faults.items ++ left ≡ map found_of l.initial.faults.items ++ gives_of (name_of l.name) (name_of l.actions) 0 (map view l.owners)
