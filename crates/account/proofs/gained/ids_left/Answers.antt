use Rattle.std.proofs.Common.{ℕ, Option, Some, None, List, [], ◌∷◌, ap, sym, ◌∙◌}
use Rattle.lane_turn.specs.declared.in_progress.Activity.{Activity}
use Rattle.lane_turn.specs.InProgress.{frame_shown}
use Rattle.account.specs.Gained.{ids_left}
use Rattle.account.proofs.Left.{left_seen}
use Rattle.account.proofs.gained.ids_left.Goals as goal

abbrev shown : Activity → Option (List ℕ)
shown one = ids_left (frame_shown one ∷ [])

pub returns-in-None : goal.returns-in-None
returns-in-None c =
    let ran = c.in-None.ensures.ran in
    sym (left_seen c.args.lane.now.lane.frames c.frames.result ran.0 None c.frames.ensures ran.1 ran.2)

pub returns-in-Some-Call : goal.returns-in-Some-Call
returns-in-Some-Call c =
    let ran = c.in-Some-Call.ensures.ran in
    sym (left_seen c.args.lane.now.lane.frames c.frames.result ran.0 (Some c.in-Some-Call.field-0) c.frames.ensures ran.1 ran.2 ∙ ap shown c.in-Some-Call.field-0-is)

pub returns-in-Some-Iteration : goal.returns-in-Some-Iteration
returns-in-Some-Iteration c =
    let ran = c.in-Some-Iteration.ensures.ran in
    sym (left_seen c.args.lane.now.lane.frames c.frames.result ran.0 (Some c.in-Some-Iteration.field-0) c.frames.ensures ran.1 ran.2 ∙ ap shown c.in-Some-Iteration.field-0-is)

pub returns-in-Some-Loop : goal.returns-in-Some-Loop
returns-in-Some-Loop c =
    let ran = c.in-Some-Loop.ensures.ran in
    sym (left_seen c.args.lane.now.lane.frames c.frames.result ran.0 (Some c.in-Some-Loop.field-0) c.frames.ensures ran.1 ran.2 ∙ ap shown c.in-Some-Loop.field-0-is)
