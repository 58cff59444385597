use Rattle.std.proofs.Common.{◌≡◌, false, None, Some, Err, rules, subst}
use Rattle.loop_script.specs.Script.{Answers}
use Rattle.named.specs.Answer.{StandsFor, StandsForAny}
use Rattle.script_report.specs.Verdict.{Judges}
use Rattle.mainctx_c.proofs.Refused.{all_refused}
use Rattle.mainctx_c.proofs.reading.read_script.Goals as goal

pub returns-in-Ok-None-clause-fault : goal.returns-in-Ok-None-clause-fault
returns-in-Ok-None-clause-fault c other =
    let own : Answers c.args.bytes.now (Err c.in-Err.fault) = search rules in
    let none : StandsForAny c.args.bytes.now None = search rules in
    record {
      neither = ((c.in-Err.fault, other, own), λ m s. absurd (none m s));
      numbered = None;
      stands = none;
      cause = (other, own);
    }

pub returns-in-Err-read-clause-fault : goal.returns-in-Err-read-clause-fault
returns-in-Err-read-clause-fault c other =
    let own : Judges c.args.bytes.now false = search rules in
    let numbered = c.in-Ok-Some.numbered.items in
    let stands : StandsFor c.args.bytes.now numbered = search rules in
    let lent : c.as_slice.result.now ≡ numbered = search rules in
    let cause : Answers c.as_slice.result.now (Err c.in-Err-read.fault) = search rules in
    let refused = subst (λ bytes. Answers bytes (Err c.in-Err-read.fault)) lent cause in
    record {
      neither = (own, all_refused c.args.bytes.now numbered stands (c.in-Err-read.fault, other, refused));
      numbered = Some numbered;
      stands = stands;
      cause = (other, refused);
    }
