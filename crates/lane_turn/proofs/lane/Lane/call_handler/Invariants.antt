use Rattle.std.proofs.Common.{◌≡◌, true, drop}
use Rattle.std.specs.List.{list_all}
use Rattle.loop_script.specs.References.{sizes, action_refers}
use Rattle.lane_turn.specs.Acted.{all_acted, handled}
use Rattle.lane_turn.specs.Meaning.{lane_of}
use Rattle.lane_turn.proofs.lane.Lane.call_handler.Given as goal

abbrev pub invariant-actions : goal.invariant-actions
invariant-actions l = record {
  same : all_acted l.script l.tick (drop l.action-index l.action-items) (lane_of l.self) ≡ handled l.script l.tick l.fn.fired (lane_of l.fn.self);
  refer : list_all (action_refers (sizes l.script)) l.action-items ≡ true;
}
