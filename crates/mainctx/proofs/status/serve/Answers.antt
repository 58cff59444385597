use Rattle.std.proofs.Common.{◌≡◌, ◌<◌, ◌≤◌, ◌∙◌, ap, arith, subst, sym}
use Rattle.std.specs.Prelude.{Err}
use Rattle.mainctx.specs.Serving.{status_of}
use Rattle.mainctx.specs.declared.status.Refusal.{Refusal}
use Rattle.mainctx.specs.declared.status.Refusal.TheVariants.{Write}
use Rattle.mainctx.proofs.Statuses.{status_above, status_within, leaves_nothing, leaves_prefix, leaves_or_failed}
use Rattle.mainctx.proofs.status.serve.Goals as goal

pub returns-in-Err-clause-text : goal.returns-in-Err-clause-text
returns-in-Err-clause-text g c none = absurd (omega (arith, none, c.refuse.ensures, status_above c.in-Err.refusal))

pub returns-in-Err-clause-nothing : goal.returns-in-Err-clause-nothing
returns-in-Err-clause-nothing g c low high =
    leaves_nothing c.args.args.now (g.R.Read.remaining c.args.input.now) c.in-Err.refusal (g.W.Out.taken c.args.out.now) (g.W.Out.taken c.attempt.new.out) c.in-Err.ensures.refusal (subst (λ n. n ≤ 3) c.refuse.ensures high)

pub returns-in-Err-clause-prefix : goal.returns-in-Err-clause-prefix
returns-in-Err-clause-prefix g c four =
    leaves_prefix c.args.args.now (g.R.Read.remaining c.args.input.now) c.in-Err.refusal (g.W.Out.taken c.args.out.now) (g.W.Out.taken c.attempt.new.out) c.in-Err.ensures.refusal

pub returns-in-Err-clause-status : goal.returns-in-Err-clause-status
returns-in-Err-clause-status g c = subst (λ n. n ≤ 4) (sym c.refuse.ensures) (status_within c.in-Err.refusal)

pub returns-in-Err-clause-failed : goal.returns-in-Err-clause-failed
returns-in-Err-clause-failed g c rose =
    let wrote = c.in-Err.ensures.write.1 rose in
    let is : c.in-Err.refusal ≡ Write = cc in
    c.refuse.ensures ∙ ap status_of is

pub returns-in-Err-clause-rose : goal.returns-in-Err-clause-rose
returns-in-Err-clause-rose g c four =
    leaves_or_failed c.args.args.now (g.R.Read.remaining c.args.input.now) c.in-Err.refusal (g.W.Out.taken c.args.out.now) (g.W.Out.taken c.attempt.new.out)
    (g.W.Out.failures c.args.out.now < g.W.Out.failures c.attempt.new.out) c.in-Err.ensures.refusal (λ is. c.in-Err.ensures.write.0 (ap (λ (r : Refusal). Err r) is))
