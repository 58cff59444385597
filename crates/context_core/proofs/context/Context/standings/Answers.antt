use Rattle.std.proofs.Common.{◌≡◌, ℕ, None, ap, ◌∙◌, List, map}
use Rattle.std.proofs.lemmas.Result.{IfOk-weaker}
use Rattle.source_rows.specs.Rows.{in_order}
use Rattle.context_core.specs.Ready.{in_view}
use Rattle.context_core.specs.Phases.{shown, handed, asked_rows}
use Rattle.context_core.specs.Standing.{standing}
use Rattle.context_core.proofs.Standings.{levels_enough}
use Rattle.context_core.proofs.context.Context.standings.Goals as goal

pub returns : goal.returns
returns c level e =
    let rows = c.args.self.now.rows.rows in
    let seen = in_view c.args.view.now in
    let same : shown c.new-polled.result ≡ shown c.deref-2.result.now = ap shown c.new-polled.ensures in
    IfOk-weaker c.all_standings.result _ _
    (λ list i. i ∙ (ap (λ (l : List ℕ). map (standing (shown c.new-polled.result) seen c.args.now l rows) (in_order rows)) c.new-busy.ensures
    ∙ (ap (λ (f : ℕ → ℕ). map (standing f seen c.args.now c.args.busy.now rows) (in_order rows)) same
    ∙ levels_enough level seen c.args.now c.args.busy.now rows c.args.levels.now c.deref-2.result.now
    c.all_standings.ensures.one_tree e (c.deref-2.ensures.value ∙ (c.in_ok-list.ensures ∙ ap (λ (l : List ℕ). handed (asked_rows None l rows) c.args.levels.now) c.new-busy.ensures)))))
    c.all_standings.ensures.list
