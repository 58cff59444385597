use Rattle.std.proofs.Common.{◌≡◌, map}
use Rattle.std.specs.List.{range_with_len}
use Rattle.script_report.specs.declared.order.Placed.{Placed}
use Rattle.script_report.proofs.order.place_all.Given as goal

abbrev pub invariant-loop-number : goal.invariant-loop-number
invariant-loop-number l = map (λ (one : Placed). one.fault) l.placed.items ≡ range_with_len 0 l.number
