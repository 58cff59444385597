use Rattle.std.proofs.Common.{[], ◌∷◌, ap, sym, ◌∙◌}
use Rattle.lane_turn.specs.declared.in_progress.Activity.{Activity}
use Rattle.lane_turn.specs.Frames.{top_of}
use Rattle.lane_turn.specs.InProgress.{frame_shown}
use Rattle.account.specs.Told.{did_iteration, did_top}
use Rattle.account.proofs.Did.{nothing_seen, seen}
use Rattle.account.proofs.foreseen.foreseen.Goals as goal

pub returns-in-None : goal.returns-in-None
returns-in-None c =
    let ran = c.in-None.ensures.ran in
    let lane = c.args.lane.now.lane in
    sym (ap (did_top c.args.script.now lane) (nothing_seen lane.frames c.frames.result ran.0 c.frames.ensures ran.1 ran.2))

pub returns-in-Some-Call : goal.returns-in-Some-Call
returns-in-Some-Call c =
    let ran = c.in-Some-Call.ensures.ran in
    let lane = c.args.lane.now.lane in
    let top = seen lane.frames c.frames.result ran.0 c.in-Some-Call.field-0 c.frames.ensures ran.1 ran.2 ∙ ap (λ (a : Activity). top_of (frame_shown a ∷ [])) c.in-Some-Call.field-0-is in
    c.of_call.ensures ∙ sym (ap (did_top c.args.script.now lane) top)

pub returns-in-Some-Iteration : goal.returns-in-Some-Iteration
returns-in-Some-Iteration c =
    let ran = c.in-Some-Iteration.ensures.ran in
    let lane = c.args.lane.now.lane in
    let top = seen lane.frames c.frames.result ran.0 c.in-Some-Iteration.field-0 c.frames.ensures ran.1 ran.2 ∙ ap (λ (a : Activity). top_of (frame_shown a ∷ [])) c.in-Some-Iteration.field-0-is in
    c.of_iteration.ensures ∙ (ap (did_iteration lane c.in-Some-Iteration.context) (c.copied.ensures ∙ c.first.ensures.value) ∙ sym (ap (did_top c.args.script.now lane) top))

pub returns-in-Some-Loop : goal.returns-in-Some-Loop
returns-in-Some-Loop c =
    let ran = c.in-Some-Loop.ensures.ran in
    let lane = c.args.lane.now.lane in
    let top = seen lane.frames c.frames.result ran.0 c.in-Some-Loop.field-0 c.frames.ensures ran.1 ran.2 ∙ ap (λ (a : Activity). top_of (frame_shown a ∷ [])) c.in-Some-Loop.field-0-is in
    c.of_loop.ensures ∙ sym (ap (did_top c.args.script.now lane) top)
