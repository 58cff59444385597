use Rattle.std.proofs.Common.{◌≡◌, ◌==◌, [], List, filter, true, length, sym, ap, ◌∙◌, rules}
use Rattle.std.specs.Prelude.{slice_get}
use Rattle.source_rows.specs.declared.row.Row.{Row}
use Rattle.source_rows.specs.Candidates.{candidates}
use Rattle.context_core.specs.Phases.{is_asked, asked_rows, handed}
use Rattle.context_core.proofs.Candidates.{asked_candidates, sees_descriptors}
use Rattle.context_core.proofs.Unblocked.{asked_free}
use Rattle.context_core.specs.Ready.{is_free}
use Rattle.context_core.proofs.Phased.{handed_more, handed_over, handed_none}
use Rattle.context_core.proofs.Wait.{none_if}
use Rattle.context_core.proofs.context.Context.polled.Goals as goal

pub rows-preserved-in-Continue-1 : goal.rows-preserved-in-Continue-1
rows-preserved-in-Continue-1 c =
    let n : c.len.result ≡ length c.rows.list.items = search rules in
    handed_more c.args.least c.args.busy.now c.args.levels.now c.in-Some.row.now _ _ c.rows.list.items _ _ c.in-Some-interest.interest c.in-Some-level_at.level c.in-Some-interest.ensures (c.in-Some-level_at.ensures ∙ ap (slice_get c.args.levels.now) n) c.in_ok-push.ensures.items c.in-Some.ensures.steps c.rows.invariant

pub rows-preserved-in_default-level_at : goal.rows-preserved-in_default-level_at
rows-preserved-in_default-level_at c =
    let n : c.len.result ≡ length c.rows.list.items = search rules in
    handed_over c.args.least c.args.busy.now c.args.levels.now c.next.new.self c.rows.row-iterator c.rows.list.items _ (sym (c.in_default-level_at.ensures ∙ ap (slice_get c.args.levels.now) n)) c.rows.invariant

pub returns-then-is_empty : goal.returns-then-is_empty
returns-then-is_empty c =
    let zero : (length c.args.levels.now == 0) ≡ true = search rules in
    let none = none_if c.args.levels.now zero in
    c.new-list.ensures.items ∙ (sym (handed_none (asked_rows c.args.least c.args.busy.now c.args.self.now.rows.rows)) ∙ ap (handed (asked_rows c.args.least c.args.busy.now c.args.self.now.rows.rows)) (sym none))

pub rows-init : goal.rows-init
rows-init c =
    let rows = c.args.self.now.rows.rows in
    let it : c.into_iter-row-iterator.result ≡ filter (is_free c.args.busy.now) (candidates c.of_descriptors-sight.result rows) = search rules in
    let none : c.new-list.result.items ≡ [] = c.new-list.ensures.items in
    rw none (ap (λ (l : List Row). handed (filter (is_asked c.args.least c.args.busy.now) l) c.args.levels.now) it
    ∙ ap (λ (l : List Row). handed l c.args.levels.now) (asked_free c.args.least c.args.busy.now (candidates c.of_descriptors-sight.result rows) ∙ asked_candidates c.of_descriptors-sight.result (sees_descriptors c.of_descriptors-sight.result c.of_descriptors-sight.ensures) c.args.least c.args.busy.now rows c.candidates.ensures.forest))
