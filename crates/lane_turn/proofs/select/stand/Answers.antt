use Rattle.std.proofs.Common.{ℕ, None, map, ap, ◌∙◌}
use Rattle.std.proofs.lemmas.Result.{IfOk-weaker}
use Rattle.loop_script.specs.Parts.{level_of}
use Rattle.source_rows.specs.Rows.{in_order}
use Rattle.context_core.specs.declared.interest.Interest.{Interest}
use Rattle.context_core.specs.Phases.{asked_rows}
use Rattle.context_core.specs.Ready.{in_view}
use Rattle.context_core.specs.Standing.{standing}
use Rattle.lane_turn.proofs.Polled.{levels_polled}
use Rattle.lane_turn.proofs.select.stand.Goals as goal

pub returns : goal.returns
returns c =
    let level = λ (fd : ℕ). level_of c.args.script.now fd c.args.tick in
    let rows = c.args.context.now.rows.rows in
    let shown = ap (map (λ (i : Interest). level i.fd)) (c.deref.ensures.value ∙ c.in_ok-interests.ensures) in
    IfOk-weaker c.standings.result _ _
    (λ list i. i ∙ ap (λ (now : ℕ). map (standing level (in_view c.args.view.now) now c.args.busy.now rows) (in_order rows)) c.now.ensures.now)
    (c.standings.ensures level (c.deref-2.ensures.value ∙ (c.in_ok-levels.ensures
    ∙ (shown ∙ levels_polled level (asked_rows None c.args.busy.now rows)))))
