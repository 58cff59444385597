use Rattle.std.proofs.Common.{◌≡◌, ℤ, List, Some, ap, sym, ◌∙◌, [], filter, rules, w32}
use Rattle.std.proofs.lemmas.Int.{to_z-of_z}
use mir.Val.{SFits, to_z, of_z}
use Rattle.std.specs.List.{find}
use Rattle.source_rows.specs.Candidates.{candidates}
use Rattle.source_rows.specs.Rows.{in_order}
use Rattle.context_core.proofs.Candidates.{find_candidates, sees_quiet}
use Rattle.context_core.proofs.Unblocked.{find_free, first_here, first_none}
use Rattle.context_core.specs.Ready.{in_view, own_ready, is_callable, is_free}
use Rattle.context_core.specs.declared.interest.Shown.{Shown}
use Rattle.context_core.specs.Phases.{shown}
use Rattle.context_core.proofs.Called.{first_called}
use Rattle.context_core.proofs.Selects.{whatever_shows}
use Rattle.context_core.proofs.context.Context.ready_priority.Goals as goal

pub returns-clause-priority : goal.returns-clause-priority
returns-clause-priority c =
    let own = own_ready (shown []) (in_view c.args.view.now) c.args.now in
    first_called own c.args.busy.now c.args.self.now.rows.rows c.candidates.ensures.forest c.candidates.ensures.one_tree _
    (first_none own c.rows.row-iterator (find (is_callable own c.args.busy.now) (in_order c.args.self.now.rows.rows)) c.in-None.ensures.steps.0 c.rows.invariant)

pub returns-then-own_ready-clause-priority : goal.returns-then-own_ready-clause-priority
returns-then-own_ready-clause-priority c =
    let own = own_ready (shown []) (in_view c.args.view.now) c.args.now in
    let row = c.in-Some.row.now in
    let fits : SFits w32 row.priority = search rules in
    let same : to_z w32 (of_z w32 row.priority) ≡ row.priority = simp to_z-of_z in
    let here = ap (λ (l : List Shown). own_ready (shown l) (in_view c.args.view.now) c.args.now row) c.nothing-polled.ensures in
    ap (λ (z : ℤ). Some z) same
    ∙ first_called own c.args.busy.now c.args.self.now.rows.rows c.candidates.ensures.forest c.candidates.ensures.one_tree _
    (first_here own c.rows.row-iterator c.next.new.self row (find (is_callable own c.args.busy.now) (in_order c.args.self.now.rows.rows)) (sym here ∙ (sym c.own_ready.ensures ∙ c.if-own_ready.true)) c.in-Some.ensures.steps c.rows.invariant)

pub rows-init : goal.rows-init
rows-init c =
    let rows = c.args.self.now.rows.rows in
    let own = own_ready (shown []) (in_view c.args.view.now) c.args.now in
    let it : c.into_iter-row-iterator.result ≡ filter (is_free c.args.busy.now) (candidates c.undisturbed-sight.result rows) = search rules in
    let sees = sees_quiet c.args.view.now c.args.now c.marks.result c.undisturbed-sight.result c.marks.ensures c.undisturbed-sight.ensures in
    ap (find own) it
    ∙ (find_free own c.args.busy.now (candidates c.undisturbed-sight.result rows)
    ∙ find_candidates (shown []) (in_view c.args.view.now) c.args.now c.undisturbed-sight.result sees c.args.busy.now rows c.candidates.ensures.forest)

pub returns-then-own_ready-clause-some : goal.returns-then-own_ready-clause-some
returns-then-own_ready-clause-some c =
    whatever_shows (in_view c.args.view.now) c.args.now c.args.busy.now c.args.self.now.rows.rows _ (returns-then-own_ready-clause-priority c)
