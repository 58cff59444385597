use Rattle.std.proofs.Common.{◌≡◌, ◌==◌, ℕ, List, length, true, sym, ap, ◌∙◌, rules}
use Rattle.std.proofs.lemmas.Result.{IfOk-weaker}
use Rattle.context_core.specs.Ready.{selected}
use Rattle.context_core.proofs.Wait.{none_if}
use Rattle.lane_turn.specs.Sources.{own_ready_at}
use Rattle.lane_turn.proofs.select.select.Goals as goal

pub returns-then-is_empty : goal.returns-then-is_empty
returns-then-is_empty c =
    let zero : (length c.args.busy.now == 0) ≡ true = search rules in
    IfOk-weaker c.select_beside.result _ _
    (λ ids i. i ∙ ap (λ (l : List ℕ). selected (own_ready_at c.args.script.now c.args.tick c.args.view.now) l c.args.context.now.rows.rows) (c.none.ensures ∙ sym (none_if c.args.busy.now zero)))
    c.select_beside.ensures

pub returns : goal.returns
returns c =
    IfOk-weaker c.select_beside-2.result _ _
    (λ ids i. i ∙ ap (λ (l : List ℕ). selected (own_ready_at c.args.script.now c.args.tick c.args.view.now) l c.args.context.now.rows.rows) c.new-busy.ensures)
    c.select_beside-2.ensures
