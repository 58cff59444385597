use Rattle.std.proofs.Common.{◌≡◌, [], take}
use Rattle.std.specs.List.{flat_map}
use Rattle.mainctx.specs.Text.{part_of}
use Rattle.mainctx.specs.Writing.{GrowAlike, PassesOn}
use Rattle.mainctx.proofs.ended.Ended.write.Given as goal

abbrev pub invariant-loop-number : goal.invariant-loop-number
invariant-loop-number g l = record {
  passes : PassesOn (g.W.Out.taken l.fn.out) (g.W.Out.taken l.out) [] l.buffer (flat_map part_of (take l.number l.self-inside.stepper.lanes));
  clean : g.W.Out.failures l.out ≡ g.W.Out.failures l.fn.out;
  alike : GrowAlike (g.W.Out.taken l.fn.out) (g.W.Out.taken l.out) (g.W.Out.contents l.fn.out) (g.W.Out.contents l.out);
}
