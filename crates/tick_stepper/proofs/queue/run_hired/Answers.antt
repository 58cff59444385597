use denote.Param.Send.{sendable, param_sync}
use Rattle.tick_stepper.proofs.Crossing.{hired_send, haul_send, script_sync, list_sync, office_sync, captured_sync}
use Rattle.std.proofs.Crossing.{crosses}
use Rattle.tick_stepper.proofs.queue.run_hired.Lts.{arg-0-3}
use Rattle.tick_stepper.proofs.queue.run_hired.Goals as goal

pub map_side_by_side-requires-send-J : goal.map_side_by_side-requires-send-J
map_side_by_side-requires-send-J g c κs _ = search (hired_send, sendable, crosses) depth 20

pub map_side_by_side-requires-send-X : goal.map_side_by_side-requires-send-X
map_side_by_side-requires-send-X g c κs _ = search (haul_send, sendable, crosses) depth 20

pub map_side_by_side-requires-sync-F : goal.map_side_by_side-requires-sync-F
map_side_by_side-requires-sync-F g c κs _ =
    param_sync 3 (arg-0-3 g.row.R g.row.G g.R.laws g.G.laws g.R.Threads-dict g.R.Wait-dict g.G.Gate-dict κs) (search (captured_sync, script_sync, list_sync, office_sync, sendable, crosses) depth 20)
