use Rattle.std.proofs.Common.{rules, ◌∙◌, ℕ, ap, sym, subst, ◌≡◌, List, Some, true}
use Rattle.std.specs.List.{find, list_any}
use Rattle.loop_script.specs.Parts.{level_of, time_of}
use Rattle.context_core.specs.Ready.{Own, is_blocked, is_callable, in_view}
use Rattle.context_core.specs.Standing.{is_in_call}
use Rattle.std.specs.Prelude.{bit_or}
use Rattle.source_rows.specs.declared.sight.Sight.{Sight}
use Rattle.source_rows.specs.Candidates.{always, candidates, descriptor}
use Rattle.context_core.proofs.Candidates.{sees_view}
use Rattle.context_core.proofs.Unblocked.{Leaves, has_blocker, some_in}
use Rattle.source_rows.specs.Rows.{RowSet}
use Rattle.source_rows.specs.Tree.{IsForest}
use Rattle.lane_turn.specs.Frames.{busy}
use Rattle.lane_turn.specs.Sources.{own_ready_at}
use Rattle.lane_turn.proofs.Waking.{any_free, any_left, fewer_behind, none_after}
use Rattle.lane_turn.proofs.Soon.{soon}
use Rattle.lane_turn.proofs.Quiet.{none_selected}
use Rattle.lane_turn.proofs.wakes.context_wake.Goals as goal

-- a row that wakes at no tick is not ready by itself
pub loop-row-preserved : goal.loop-row-preserved
loop-row-preserved c = λ k le after.
    let own : Own = own_ready_at c.args.script.now k c.args.view.now in
    let blocks : List ℕ = busy c.args.number c.args.frames.now in
    any_free own blocks c.in-Some.row.now c.next.new.self (λ free. c.row_wake-own.ensures k le (none_after k c.row_wake-own.result c.if-is_some.ensures))
    ∙ (ap (list_any (is_callable own blocks)) (sym c.in-Some.ensures.steps) ∙ c.loop-row.invariant k le after)

-- one that is blocked changes nothing, and what is left out is blocked too
pub loop-row-preserved-then-id-row : goal.loop-row-preserved-then-id-row
loop-row-preserved-then-id-row c = λ k le after.
    let own : Own = own_ready_at c.args.script.now k c.args.view.now in
    let blocks : List ℕ = busy c.args.number c.args.frames.now in
    let row = c.in-Some.row.now in
    let there : Some c.in-Some-blocker.id ≡ find (is_in_call blocks) row.lineage = c.in-Some-blocker.ensures in
    let left : Leaves blocks c.in-Some-blocker.id c.leave.result c.next.new.self c.leave.new.self = ((some_in blocks row.lineage (Some c.in-Some-blocker.id) there).0, c.leave.ensures.left, c.leave.ensures.same) in
    any_left own blocks c.in-Some-blocker.id c.leave.result c.next.new.self c.leave.new.self left
    ∙ (any_free own blocks row c.next.new.self (λ free. let no = sym (has_blocker blocks row c.in-Some-blocker.id there) ∙ free in cc)
    ∙ (ap (list_any (is_callable own blocks)) (sym c.in-Some.ensures.steps) ∙ c.loop-row.invariant k le after))

-- a row that blocks itself changes nothing
pub loop-row-preserved-else-id-row : goal.loop-row-preserved-else-id-row
loop-row-preserved-else-id-row c = λ k le after.
    let own : Own = own_ready_at c.args.script.now k c.args.view.now in
    let blocks : List ℕ = busy c.args.number c.args.frames.now in
    let row = c.in-Some.row.now in
    let there : Some c.in-Some-blocker.id ≡ find (is_in_call blocks) row.lineage = c.in-Some-blocker.ensures in
    any_free own blocks row c.next.new.self (λ free. let no = sym (has_blocker blocks row c.in-Some-blocker.id there) ∙ free in cc)
    ∙ (ap (list_any (is_callable own blocks)) (sym c.in-Some.ensures.steps) ∙ c.loop-row.invariant k le after)

pub loop-row-smaller-then-id-row : goal.loop-row-smaller-then-id-row
loop-row-smaller-then-id-row c =
    let blocks : List ℕ = busy c.args.number c.args.frames.now in
    let there : Some c.in-Some-blocker.id ≡ find (is_in_call blocks) c.in-Some.row.now.lineage = c.in-Some-blocker.ensures in
    fewer_behind blocks c.in-Some-blocker.id c.leave.result c.in-Some.row.now c.loop-row.rows c.next.new.self c.leave.new.self
    ((some_in blocks c.in-Some.row.now.lineage (Some c.in-Some-blocker.id) there).0, c.leave.ensures.left, c.leave.ensures.same) c.in-Some.ensures.steps

-- one that no call blocks is not ready by itself before its wake
pub loop-row-preserved-else-row_wake_is_by : goal.loop-row-preserved-else-row_wake_is_by
loop-row-preserved-else-row_wake_is_by c = λ k le after.
    let own : Own = own_ready_at c.args.script.now k c.args.view.now in
    let blocks : List ℕ = busy c.args.number c.args.frames.now in
    let both = c.sooner_turn-wake.ensures k after in
    any_free own blocks c.in-Some.row.now c.next.new.self (λ free. c.row_wake-own.ensures k le both.1)
    ∙ (ap (list_any (is_callable own blocks)) (sym c.in-Some.ensures.steps) ∙ c.loop-row.invariant k le both.0)

pub returns : goal.returns
returns c = λ k le after.
    let own : Own = own_ready_at c.args.script.now k c.args.view.now in
    let blocks : List ℕ = busy c.args.number c.args.frames.now in
    let rows = c.args.context.now.rows.rows in
    let same : c.rows.result.now ≡ c.args.context.now.rows = c.rows.ensures in
    let forest = subst (λ (s : RowSet). IsForest s.rows) same c.candidates-rows.ensures.forest in
    let both = c.sooner_turn.ensures k after in
    let now = time_of c.args.script.now c.args.from in
    let sees = sees_view (λ fd. level_of c.args.script.now fd k) c.args.view.now now c.marks.result c.new.result c.marks.ensures (c.new.ensures ∙ ap (λ (n : ℕ). let s : Sight = record { now = n; marks = bit_or (bit_or c.marks.result always) descriptor } in s) c.now.ensures.now) in
    let it : c.candidates-rows.result ≡ candidates c.new.result rows = search rules in
    let none = ap (list_any (is_callable own blocks)) (sym it) ∙ (sym (c.loop-row.invariant k le both.0) ∙ ap (list_any (is_callable own blocks)) c.in_default.ensures.steps.0) in
    none_selected own blocks rows
    (sym (soon (λ fd. level_of c.args.script.now fd k) (in_view c.args.view.now) now (time_of c.args.script.now k) c.new.result sees blocks rows forest (c.next_due.ensures k both.1)) ∙ none)
