use Rattle.std.proofs.Common.{◌≡◌, false, None, rules, subst}
use Rattle.named.specs.Answer.{StandsFor, StandsForAny}
use Rattle.script_report.specs.Verdict.{Judges}
use Rattle.script_report.proofs.OfForm.{all_refused}
use Rattle.script_report.proofs.forms.read_either.Goals as goal

pub returns-in_default : goal.returns-in_default
returns-in_default c =
    let own : Judges c.args.bytes.now false = search rules in
    let none : StandsForAny c.args.bytes.now None = search rules in
    (own, λ m s. absurd (none m s))

pub returns-else-branch-2 : goal.returns-else-branch-2
returns-else-branch-2 c =
    let own : Judges c.args.bytes.now false = search rules in
    let stands : StandsFor c.args.bytes.now c.in-Some.numbered.items = search rules in
    let lent : c.as_slice.result.now ≡ c.in-Some.numbered.items = search rules in
    let judged = subst (λ b. Judges c.as_slice.result.now b) c.if-branch-2.false c.in_ok-is_script-2.ensures in
    let refused = subst (λ bytes. Judges bytes false) lent judged in
    (own, all_refused c.args.bytes.now c.in-Some.numbered.items stands refused)
