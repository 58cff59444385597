use Rattle.std.proofs.Common.{◌≡◌, ◌≢◌, [], length, map, sym, ap, ◌∙◌, arith, rules}
use Rattle.std.proofs.lemmas.List.{nil_from_length}
use Rattle.serde_json.specs.View.{view}
use Rattle.loop_script.specs.Script.{IsJson}
use Rattle.script_check.specs.Laws.{IsShallow}
use Rattle.script_check.specs.ScriptFaults.{script_faults}
use Rattle.script_check.specs.Seen.{found_of}
use Rattle.script_report.proofs.Judged.{fine, faulty_told}
use Rattle.script_report.proofs.check.check_script.Goals as goal

pub returns-then-is_empty : goal.returns-then-is_empty
returns-then-is_empty c =
    let d = view c.in-Ok.value in
    let read : IsJson c.args.bytes.now d = search rules in
    let shallow : IsShallow d = let n = c.in-Ok.ensures.nests in omega arith in
    let told : map found_of c.in_ok-faults.faults.items ≡ script_faults d = search rules in
    let size : length c.in_ok-faults.faults.items ≡ 0 = search rules in
    let none = nil_from_length c.in_ok-faults.faults.items size in
    fine c.args.bytes.now d read shallow (sym told ∙ ap (map found_of) none)

pub returns : goal.returns
returns c =
    let d = view c.in-Ok.value in
    let read : IsJson c.args.bytes.now d = search rules in
    let shallow : IsShallow d = let n = c.in-Ok.ensures.nests in omega arith in
    let told : map found_of c.in_ok-faults.faults.items ≡ script_faults d = search rules in
    let some : c.in_ok-faults.faults.items ≢ [] = search rules in
    faulty_told c.args.bytes.now d c.in_ok-faults.faults.items read shallow told some
