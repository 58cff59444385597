use Rattle.std.proofs.Common.{None, subst, sym}
use Rattle.source_rows.specs.Steps.{HasLeft}
use Rattle.source_rows.proofs.Walked.{entered}
use Rattle.source_rows.proofs.candidates.Candidates.new.Goals as goal

pub walk-requires : goal.walk-requires
walk-requires c = c.requires.apart

pub invariant_of-result : goal.invariant_of-result
invariant_of-result c = record {
  step = c.requires;
  left = subst (HasLeft c.args.table.now c.args.sight None) (sym c.walk.ensures) (entered c.args.table.now c.args.sight None c.requires);
}
