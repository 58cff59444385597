use Rattle.std.proofs.Common.{◌≡◌, ◌==◌, [], ℕ, length, true, sym, ap, ◌∙◌, rules}
use Rattle.std.proofs.lemmas.Result.{IfOk-weaker}
use Rattle.context_core.specs.Ready.{in_view, own_ready, is_ready}
use Rattle.context_core.specs.Phases.{shown, walk, handed, asked_rows}
use Rattle.source_rows.specs.Rows.{in_order}
use Rattle.context_core.proofs.Phased.{checked, handed_none}
use Rattle.context_core.proofs.Wait.{none_if}
use Rattle.context_core.proofs.context.Context.select.Goals as goal

pub returns-then-is_empty : goal.returns-then-is_empty
returns-then-is_empty c level e =
    let rows = c.args.self.now.rows.rows in
    let seen = in_view c.args.view.now in
    let asked = asked_rows c.args.least c.args.busy.now rows in
    let zero : (length c.args.levels.now == 0) ≡ true = search rules in
    let none = none_if c.args.levels.now zero in
    IfOk-weaker c.walk.result _ _
    (λ ids i. i ∙ (ap (λ (f : ℕ → ℕ). walk (is_ready (own_ready f seen c.args.now) c.args.busy.now rows) c.args.least (in_order rows)) (ap shown c.nothing.ensures)
    ∙ checked level seen c.args.now c.args.busy.now rows c.args.least c.args.levels.now []
    c.walk.ensures.one_tree c.requires.least e (sym (handed_none asked) ∙ ap (handed asked) (sym none))))
    c.walk.ensures.ids

pub returns : goal.returns
returns c level e =
    let rows = c.args.self.now.rows.rows in
    let seen = in_view c.args.view.now in
    let same : shown c.new-polled.result ≡ shown c.deref-2.result.now = ap shown c.new-polled.ensures in
    IfOk-weaker c.walk-2.result _ _
    (λ ids i. i ∙ (ap (λ (f : ℕ → ℕ). walk (is_ready (own_ready f seen c.args.now) c.args.busy.now rows) c.args.least (in_order rows)) same
    ∙ checked level seen c.args.now c.args.busy.now rows c.args.least c.args.levels.now c.deref-2.result.now
    c.walk-2.ensures.one_tree c.requires.least e (c.deref-2.ensures.value ∙ c.in_ok-list.ensures)))
    c.walk-2.ensures.ids
