use Rattle.std.proofs.Common.{◌≡◌, ℕ, ℤ, Some, List, ap, ◌∙◌, rules, w32}
use Rattle.std.proofs.lemmas.Int.{to_z-of_z}
use mir.Val.{SFits, to_z, of_z}
use Rattle.context_core.specs.Ready.{in_view}
use Rattle.context_core.specs.Phases.{least_ready}
use Rattle.context_core.proofs.context.Context.prepare.Goals as goal

pub returns-in-Some-clause-priority : goal.returns-in-Some-clause-priority
returns-in-Some-clause-priority c =
    let fits : SFits w32 c.in-Some.priority = search rules in
    let same : to_z w32 (of_z w32 c.in-Some.priority) ≡ c.in-Some.priority = simp to_z-of_z in
    ap (λ (z : ℤ). Some z) same ∙ (c.in-Some.ensures.priority ∙ ap (λ (l : List ℕ). least_ready (in_view c.args.view.now) c.args.now l c.args.self.now.rows.rows) c.new-busy.ensures)

pub returns-in-None-clause-priority : goal.returns-in-None-clause-priority
returns-in-None-clause-priority c =
    c.in-None.ensures.priority ∙ ap (λ (l : List ℕ). least_ready (in_view c.args.view.now) c.args.now l c.args.self.now.rows.rows) c.new-busy.ensures
