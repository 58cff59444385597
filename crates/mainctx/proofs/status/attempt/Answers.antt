use Rattle.std.proofs.Common.{refl, subst}
use Rattle.mainctx.specs.Run.{IsRunFaultOf}
use Rattle.mainctx.proofs.Statuses.{refuses_by, no_crew_by}
use Rattle.mainctx.proofs.status.attempt.Goals as goal

pub returns-in_default-clause-usage : goal.returns-in_default-clause-usage
returns-in_default-clause-usage g c =
    (λ e ask. let asked = c.read.ensures.exact ask.0 ask.1 in let is = c.in_default.is in cc, λ n. refl)

pub returns-in-Err-Script-clause-refusal : goal.returns-in-Err-Script-clause-refusal
returns-in-Err-Script-clause-refusal g c =
    let script = c.in-Err-Script.field-0-is in
    let class = subst (IsRunFaultOf c.as_slice.result.now c.in-Some.field-0.workers c.in-Some.field-0.sharing) script c.in-Err-Script.ensures.script in
    let nothing = c.in-Err-Script.ensures.nothing (λ write. cc) in
    refuses_by (g.R.Read.remaining c.args.input.now) c.as_slice.result.now c.in-Ok.script.items c.in-Some.field-0.workers c.in-Some.field-0.sharing c.in-Err-Script.fault (g.W.Out.taken c.args.out.now) (g.W.Out.taken c.run_leaking.new.out) c.in-Ok.ensures.whole c.as_slice.ensures.value class nothing

pub returns-in-Err-Setup-clause-refusal : goal.returns-in-Err-Setup-clause-refusal
returns-in-Err-Setup-clause-refusal g c =
    let setup = c.in-Err-Setup.field-0-is in
    let class = subst (IsRunFaultOf c.as_slice.result.now c.in-Some.field-0.workers c.in-Some.field-0.sharing) setup c.in-Err-Setup.ensures.script in
    let nothing = c.in-Err-Setup.ensures.nothing (λ write. cc) in
    let cause = c.in-Err-Setup.field-0-0 in
    (no_crew_by c.args.args.now (g.R.Read.remaining c.args.input.now) c.as_slice.result.now c.in-Ok.script.items c.in-Some.field-0 cause c.in-Some.ensures.asked c.in-Ok.ensures.whole c.as_slice.ensures.value class, nothing)
