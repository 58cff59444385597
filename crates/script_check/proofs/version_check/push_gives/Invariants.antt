-- what was found, and what is left
use Rattle.std.proofs.Common.{◌≡◌, ◌++◌, drop, map}
use Rattle.serde_json.specs.View.{view}
use Rattle.script_check.specs.VersionFaults.{gives_from}
use Rattle.script_check.specs.Seen.{found_of}
use Rattle.script_check.proofs.version_check.push_gives.Given as goal

abbrev pub invariant-loop-n : goal.invariant-loop-n
invariant-loop-n l = record {
  found : map found_of l.faults.items ++ gives_from l.initial.place l.n (map view (drop l.n l.actions)) ≡ map found_of l.initial.faults.items ++ gives_from l.initial.place 0 (map view l.actions);
  back : l.place ≡ l.initial.place;
}
