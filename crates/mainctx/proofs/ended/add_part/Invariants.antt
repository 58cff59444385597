use Rattle.std.proofs.Common.{◌≡◌, take}
use Rattle.mainctx.specs.Text.{lane_text}
use Rattle.mainctx.specs.Writing.{GrowAlike, PassesOn}
use Rattle.mainctx.proofs.ended.add_part.Given as goal

abbrev pub invariant-loop-line : goal.invariant-loop-line
invariant-loop-line g l = record {
  passes : PassesOn (g.W.Out.taken l.fn.out) (g.W.Out.taken l.out) l.fn.buffer l.buffer (lane_text l.fn.lane (take l.line-index l.lines));
  clean : g.W.Out.failures l.out ≡ g.W.Out.failures l.fn.out;
  alike : GrowAlike (g.W.Out.taken l.fn.out) (g.W.Out.taken l.out) (g.W.Out.contents l.fn.out) (g.W.Out.contents l.out);
}
