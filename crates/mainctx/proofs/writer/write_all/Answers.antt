use Rattle.std.proofs.Common.{take, arith}
use Rattle.std.proofs.lemmas.Grind.{common_steps}
use Rattle.mainctx.proofs.Prefixes.{left_more}
use Rattle.mainctx.proofs.Alike.{alike_more}
use Rattle.mainctx.proofs.writer.write_all.Goals as goal

pub rest-preserved : goal.rest-preserved
rest-preserved g c = record {
  left = left_more _ _ _ _ _ c.in_ok-n.n c.rest.invariant.left c.in_ok-n.ensures.taken;
  clean = grind (arith, common_steps);
  alike = alike_more _ _ _ _ _ _ (take c.in_ok-n.n c.rest.rest.now) c.rest.invariant.alike c.in_ok-n.ensures.taken c.in_ok-n.ensures.known;
}

pub returns-clause-whole : goal.returns-clause-whole
returns-clause-whole g c = grind (arith, common_steps)
