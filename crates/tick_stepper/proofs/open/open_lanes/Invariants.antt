use Rattle.std.proofs.Common.{◌≡◌, Some, map}
use Rattle.std.specs.List.{range_with_len, AllByRecursion}
use Rattle.lane_turn.specs.Turn.{opening}
use Rattle.tick_stepper.specs.declared.rest.Resting.{Resting}
use Rattle.tick_stepper.specs.Share.{unspent_all}
use Rattle.tick_stepper.proofs.open.open_lanes.Given as goal

abbrev pub invariant-loop-number : goal.invariant-loop-number
invariant-loop-number l = record {
  lanes : map (λ (one : Resting). one.lane) l.lanes.items ≡ unspent_all (map (opening l.script) (range_with_len 0 l.number));
  due : AllByRecursion (λ (one : Resting). one.next ≡ Some 0) l.lanes.items;
}
