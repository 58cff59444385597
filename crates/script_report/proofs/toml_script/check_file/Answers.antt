use Rattle.std.proofs.Common.{◌≡◌, ℕ, List, Bool, true, false, Result, Ok, Err, IfOk, inr, subst, sym, rules}
use Rattle.std.specs.declared.alloc.AllocError.{AllocError}
use Rattle.toml_names.specs.Answer.{StandsFor}
use Rattle.script_report.specs.Verdict.{JudgesEither}
use Rattle.script_report.specs.TomlVerdict.{JudgesToml, JudgesFile}
use Rattle.script_report.proofs.toml_script.check_file.Goals as goal

judged_toml : (bytes text : List ℕ) (r : Result Bool AllocError) → StandsFor bytes text → IfOk r (JudgesEither text) → IfOk r (JudgesToml bytes)
judged_toml bytes text (Ok true) s j = (text, s, j)
judged_toml bytes text (Ok false) s j = inr (text, s, j)
judged_toml bytes text (Err e) s j = tt

pub returns-in-Some : goal.returns-in-Some
returns-in-Some c =
    let stands : StandsFor c.args.bytes.now c.in-Some.text.items = rw c.in-Some.is at c.in_ok-text-in-Toml.ensures in
    let lent : c.as_slice.result.now ≡ c.in-Some.text.items = search rules in
    let judged = subst (λ bytes. IfOk c.check_either-in-Some.result (JudgesEither bytes)) lent c.check_either-in-Some.ensures in
    subst (λ language. IfOk c.check_either-in-Some.result (JudgesFile language c.args.bytes.now)) (sym c.in-Toml.is) (judged_toml _ _ _ stands judged)
