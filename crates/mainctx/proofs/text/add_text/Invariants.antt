use Rattle.std.proofs.Common.{◌≡◌, ◌++◌, take}
use Rattle.mainctx.specs.Text.{lane_text}
use Rattle.mainctx.proofs.text.add_text.Given as goal

abbrev pub invariant-loop-line : goal.invariant-loop-line
invariant-loop-line l = l.out.items ≡ l.fn.out.items ++ lane_text l.fn.lane (take l.line-index l.lines)
