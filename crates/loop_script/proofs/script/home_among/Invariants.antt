-- the lanes that are left tell the same
use Rattle.std.proofs.Common.{◌≡◌, drop}
use Rattle.loop_script.specs.Parts.{home_in}
use Rattle.loop_script.proofs.script.home_among.Given as goal

abbrev pub invariant-loop-number : goal.invariant-loop-number
invariant-loop-number l = home_in l.number (drop l.number l.lanes) l.left ≡ home_in 0 l.lanes l.context
