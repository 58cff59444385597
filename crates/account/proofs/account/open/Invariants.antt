use Rattle.std.proofs.Common.{◌≡◌, map}
use Rattle.std.specs.List.{range_with_len}
use Rattle.lane_turn.specs.Turn.{opening}
use Rattle.tick_stepper.specs.Share.{unspent}
use Rattle.account.proofs.account.open.Given as goal

abbrev pub invariant-loop-number : goal.invariant-loop-number
invariant-loop-number l = l.lanes.items ≡ map unspent (map (opening l.script) (range_with_len 0 l.number))
