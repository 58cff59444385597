use denote.Param.Send.{sendable}
use Rattle.tick_stepper.proofs.Crossing.{share_send, script_sync}
use Rattle.std.proofs.Crossing.{crosses}
use Rattle.tick_stepper.proofs.round.turn_shares.Goals as goal

pub map_side_by_side-requires-send-J : goal.map_side_by_side-requires-send-J
map_side_by_side-requires-send-J g c κs _ = search (share_send, sendable, crosses) depth 20

pub map_side_by_side-requires-send-X : goal.map_side_by_side-requires-send-X
map_side_by_side-requires-send-X g c κs _ = search (share_send, sendable, crosses) depth 20

pub map_side_by_side-requires-sync-F : goal.map_side_by_side-requires-sync-F
map_side_by_side-requires-sync-F g c κs = search (script_sync, sendable, crosses) depth 20
