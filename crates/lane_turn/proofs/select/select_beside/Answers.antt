use Rattle.std.proofs.Common.{ℕ, map, ap, ◌∙◌}
use Rattle.std.proofs.lemmas.Result.{IfOk-weaker}
use Rattle.loop_script.specs.Parts.{level_of}
use Rattle.context_core.specs.declared.interest.Interest.{Interest}
use Rattle.context_core.specs.Phases.{asked_rows}
use Rattle.context_core.specs.Ready.{in_view, own_ready, selected}
use Rattle.lane_turn.proofs.Polled.{levels_polled}
use Rattle.lane_turn.proofs.select.select_beside.Goals as goal

pub returns : goal.returns
returns c =
    let level = λ (fd : ℕ). level_of c.args.script.now fd c.args.tick in
    let rows = c.args.context.now.rows.rows in
    let seen = in_view c.args.view.now in
    let shown = ap (map (λ (i : Interest). level i.fd)) (c.deref.ensures.value ∙ c.in_ok-interests.ensures) in
    IfOk-weaker c.select.result _ _
    (λ ids i. i ∙ ap (λ (now : ℕ). selected (own_ready level seen now) c.args.busy.now rows) c.now-now.ensures.now)
    (c.select.ensures level (c.deref-2.ensures.value ∙ (c.in_ok-levels.ensures
    ∙ (shown ∙ levels_polled level (asked_rows c.ready_priority-priority.result c.args.busy.now rows)))))
