use Rattle.std.proofs.Common.{List, ℕ, sym, ap, ◌∙◌}
use Rattle.std.proofs.lemmas.Result.{IfOk-weaker}
use Rattle.context_core.specs.Ready.{in_view, own_ready, selected}
use Rattle.context_core.specs.Phases.{asked_rows, levels_for}
use Rattle.context_core.proofs.context.Context.check.Goals as goal

pub returns : goal.returns
returns c level e =
    let rows = c.args.self.now.rows.rows in
    IfOk-weaker c.select.result _ _
    (λ ids i. i ∙ ap (λ (l : List ℕ). selected (own_ready level (in_view c.args.view.now) c.args.now) l rows) c.new-busy.ensures)
    (c.select.ensures level (e ∙ ap (λ (l : List ℕ). levels_for level (asked_rows c.args.prepared.now.priority l rows)) (sym c.new-busy.ensures)))
