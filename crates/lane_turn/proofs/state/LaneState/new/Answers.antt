use Rattle.std.proofs.Common.{sym, subst}
use Rattle.lane_turn.specs.Sound.{IsReady}
use Rattle.lane_turn.proofs.Opening.{opening_ready}
use Rattle.lane_turn.proofs.state.LaneState.new.Goals as goal

pub returns-in-Ok-clause-ready : goal.returns-in-Ok-clause-ready
returns-in-Ok-clause-ready c = subst (IsReady c.args.script.now 0 1) (sym c.in-Ok.ensures) (opening_ready c.args.script.now c.args.lane)
