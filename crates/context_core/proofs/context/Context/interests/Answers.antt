use Rattle.std.proofs.Common.{◌≡◌, [], List, false, map, filter, ap, sym, ◌∙◌, rules}
use Rattle.source_rows.specs.declared.row.Row.{Row}
use Rattle.source_rows.specs.Candidates.{candidates}
use Rattle.context_core.specs.Phases.{is_asked, interest_of}
use Rattle.context_core.proofs.Candidates.{asked_candidates, sees_descriptors}
use Rattle.context_core.proofs.Unblocked.{asked_free}
use Rattle.context_core.specs.Ready.{is_free}
use Rattle.context_core.proofs.Phased.{asked_more, none_asked}
use Rattle.context_core.proofs.context.Context.interests.Goals as goal

pub returns-then-not-may_ask : goal.returns-then-not-may_ask
returns-then-not-may_ask c =
    let off : c.may_ask.result ≡ false = search rules in
    c.new-list.ensures.items ∙ sym (none_asked c.args.least c.args.busy.now c.args.self.now.rows.rows (c.may_ask.ensures off))

pub rows-preserved-in-Continue-1 : goal.rows-preserved-in-Continue-1
rows-preserved-in-Continue-1 c =
    asked_more c.args.least c.args.busy.now c.in-Some.row.now _ _ _ _ _ c.in-Some-interest.interest c.in-Some-interest.ensures c.in_ok-push.ensures.items c.in-Some.ensures.steps c.rows.invariant

pub rows-init : goal.rows-init
rows-init c =
    let rows = c.args.self.now.rows.rows in
    let it : c.into_iter-row-iterator.result ≡ filter (is_free c.args.busy.now) (candidates c.of_descriptors-sight.result rows) = search rules in
    let none : c.new-list.result.items ≡ [] = c.new-list.ensures.items in
    rw none (ap (λ (l : List Row). map interest_of (filter (is_asked c.args.least c.args.busy.now) l)) it
    ∙ ap (map interest_of) (asked_free c.args.least c.args.busy.now (candidates c.of_descriptors-sight.result rows) ∙ asked_candidates c.of_descriptors-sight.result (sees_descriptors c.of_descriptors-sight.result c.of_descriptors-sight.ensures) c.args.least c.args.busy.now rows c.candidates.ensures.forest))
