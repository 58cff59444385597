-- one level less at each part; what was found, and what is left
use Rattle.std.proofs.Common.{◌≡◌, ◌++◌, ◌-◌, [], ◌∷◌, List, drop, map}
use Rattle.script_check.specs.Found.{Found}
use Rattle.script_check.specs.Parts.{Part}
use Rattle.script_check.specs.Faults.{faults_in, together}
use Rattle.script_check.specs.Seen.{part_view, found_of}
use Rattle.script_check.proofs.check.+check.Given as goal

abbrev pub decreases-check : goal.decreases-check
decreases-check l = l.levels

abbrev pub invariant-loop-part : goal.invariant-loop-part
invariant-loop-part l =
    let each : Part → List Found = λ p. faults_in (l.levels - 1) (l.initial.place ++ p.step ∷ []) p.form p.inner in
    record {
      found : map found_of l.faults.items ++ together each (map part_view (drop l.part-index l.part-items)) ≡ map found_of l.initial.faults.items ++ together each (map part_view l.part-items);
      back : l.place ≡ l.initial.place;
    }
