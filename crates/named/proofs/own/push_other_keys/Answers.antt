use Rattle.std.proofs.Common.{◌++◌, ◌∙◌, ap, not}
use Rattle.named.specs.Faults.{where_so}
use Rattle.named.specs.declared.fault.Cause.TheVariants.{OtherKey}
use Rattle.named.proofs.Causes.{other_next}
use Rattle.named.proofs.own.push_other_keys.Goals as goal

pub loop-n-preserved : goal.loop-n-preserved
loop-n-preserved c =
    other_next c.args.allowed.now c.loop-n.n c.args.members.now c.index-members-n.result c.loop-n.causes.items c.push_cause_where.new.causes.items _ c.index-members-n.is c.loop-n-test.true
    (c.in_ok-push_cause_where.ensures ∙ ap (λ b. c.loop-n.causes.items ++ where_so (not b) (OtherKey c.loop-n.n)) c.is_allowed_key.ensures) c.loop-n.invariant
