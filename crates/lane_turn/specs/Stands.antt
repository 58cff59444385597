-- What an iteration leaves of standings.
use Rattle.std.specs.Prelude.{◌≡◌}
use Rattle.loop_script.specs.declared.plan.Plan.{Plan}
use Rattle.lane_turn.specs.declared.layer.Asker.{Asker}
use Rattle.lane_turn.specs.Lane.{Lane, iterating, standings}
use Rattle.loop_script.specs.Units.{Tick, ContextNumber}

-- once an iteration is begun, the standings are those by which it was begun
abbrev pub StandingsStay : Type 0
StandingsStay = (script : Plan) (tick : Tick) (context c : ContextNumber) (asker : Asker) (lane : Lane) → standings script tick context (iterating script tick c asker lane) ≡ standings script tick context lane
