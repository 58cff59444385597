use Rattle.std.proofs.Common.{◌≡◌, length}
use Rattle.mainctx.specs.Writing.{GrowAlike}
use Rattle.mainctx.proofs.Prefixes.{Left}
use Rattle.mainctx.proofs.writer.write_all.Given as goal

abbrev pub invariant-rest : goal.invariant-rest
invariant-rest g l = record {
  left : Left (g.W.Out.taken l.fn.out) (g.W.Out.taken l.out) l.rest l.bytes;
  clean : g.W.Out.failures l.out ≡ g.W.Out.failures l.fn.out;
  alike : GrowAlike (g.W.Out.taken l.fn.out) (g.W.Out.taken l.out) (g.W.Out.contents l.fn.out) (g.W.Out.contents l.out);
}

abbrev pub decreases-rest : goal.decreases-rest
decreases-rest g l = length l.rest
