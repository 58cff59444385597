use Rattle.std.proofs.Common.{◌≡◌, ℕ, ◌++◌, ◌||◌, Bool, [], List, ℤ, Some, ap, filter, sym, ◌∙◌, subst, rules, w32}
use Rattle.std.proofs.lemmas.Int.{to_z-of_z}
use mir.Val.{SFits, to_z, of_z}
use Rattle.std.specs.Ordering.{nat_cmp}
use Rattle.std.specs.BTreeSet.{contains}
use Rattle.source_rows.specs.Candidates.{candidates}
use Rattle.context_core.proofs.Candidates.{sees_view}
use Rattle.context_core.proofs.Unblocked.{AllFree, free_may, all_free, each_calls_free, free_candidates, free_here, lends_where_free, ready_where_free, walk_free}
use Rattle.source_rows.specs.declared.row.Row.{Row}
use Rattle.context_core.specs.Ready.{in_view, own_ready, is_free, is_ready}
use Rattle.context_core.specs.Phases.{shown, walk, less_urgent}
use Rattle.context_core.proofs.Lent.{stepped}
use Rattle.context_core.proofs.Phased.{walk_taken, walk_passed}
use Rattle.context_core.proofs.context.Context.walk.Goals as goal

pub rows-preserved-in-Continue-branch-3 : goal.rows-preserved-in-Continue-branch-3
rows-preserved-in-Continue-branch-3 c =
    let own = own_ready (shown c.args.polled.now) (in_view c.args.view.now) c.args.now in
    let rows = c.args.self.now.rows.rows in
    let sight = c.rows.invariant.sight in
    let sees = c.rows.invariant.sees in
    let row = c.in-Some.row.now in
    let free = free_here c.args.busy.now c.rows.row-iterator c.next.new.self row c.in-Some.ensures.steps c.rows.invariant.free in
    let fits : SFits w32 row.priority = search rules in
    let same : to_z w32 (of_z w32 row.priority) ≡ row.priority = simp to_z-of_z in
    let step = stepped own c.args.busy.now (free_may sight c.args.busy.now rows) rows c.rows.row-iterator c.next.new.self row (λ (id : ℕ). contains nat_cmp c.rows.lent id) (λ (id : ℕ). contains nat_cmp c.visit_free.new.lent id) _
    c.candidates.ensures.forest (each_calls_free (shown c.args.polled.now) (in_view c.args.view.now) c.args.now sight sees c.args.busy.now rows c.candidates.ensures.forest) c.in-Some.ensures.steps (λ id. c.in_ok-visit_free.ensures.lent id ∙ ap (λ (b : Bool). b || contains nat_cmp c.rows.lent id) (lends_where_free own c.args.busy.now id row free.0))
    (c.in_ok-visit_free.ensures.ready ∙ ready_where_free own c.args.busy.now (contains nat_cmp c.rows.lent row.id) row free.0) c.rows.invariant.passed in
    record {
      sight = sight;
      sees = sees;
      passed = step.0;
      free = free.1;
      ids = ap (λ (p : ℤ). c.push.new.self.items ++ walk (is_ready own c.args.busy.now rows) (Some p) c.next.new.self) same
          ∙ walk_taken (is_ready own c.args.busy.now rows) c.rows.bound row c.next.new.self c.rows.row-iterator c.rows.ids.items _ _
          (ap (less_urgent c.rows.bound) (sym same) ∙ (sym c.is_beyond.ensures ∙ c.if-is_beyond.false)) (step.1 ∙ c.if-branch.true) c.in-Some.ensures.steps c.in_ok-push.ensures.items c.rows.invariant.ids;
    }

pub rows-preserved : goal.rows-preserved
rows-preserved c =
    let own = own_ready (shown c.args.polled.now) (in_view c.args.view.now) c.args.now in
    let rows = c.args.self.now.rows.rows in
    let sight = c.rows.invariant.sight in
    let sees = c.rows.invariant.sees in
    let row = c.in-Some.row.now in
    let free = free_here c.args.busy.now c.rows.row-iterator c.next.new.self row c.in-Some.ensures.steps c.rows.invariant.free in
    let fits : SFits w32 row.priority = search rules in
    let same : to_z w32 (of_z w32 row.priority) ≡ row.priority = simp to_z-of_z in
    let step = stepped own c.args.busy.now (free_may sight c.args.busy.now rows) rows c.rows.row-iterator c.next.new.self row (λ (id : ℕ). contains nat_cmp c.rows.lent id) (λ (id : ℕ). contains nat_cmp c.visit_free.new.lent id) _
    c.candidates.ensures.forest (each_calls_free (shown c.args.polled.now) (in_view c.args.view.now) c.args.now sight sees c.args.busy.now rows c.candidates.ensures.forest) c.in-Some.ensures.steps (λ id. c.in_ok-visit_free.ensures.lent id ∙ ap (λ (b : Bool). b || contains nat_cmp c.rows.lent id) (lends_where_free own c.args.busy.now id row free.0))
    (c.in_ok-visit_free.ensures.ready ∙ ready_where_free own c.args.busy.now (contains nat_cmp c.rows.lent row.id) row free.0) c.rows.invariant.passed in
    record {
      sight = sight;
      sees = sees;
      passed = step.0;
      free = free.1;
      ids = walk_passed (is_ready own c.args.busy.now rows) c.rows.bound row c.next.new.self c.rows.row-iterator c.rows.ids.items _
          (ap (less_urgent c.rows.bound) (sym same) ∙ (sym c.is_beyond.ensures ∙ c.if-is_beyond.false)) (step.1 ∙ c.if-branch.false) c.in-Some.ensures.steps c.rows.invariant.ids;
    }

pub rows-init : goal.rows-init
rows-init c =
    let rows = c.args.self.now.rows.rows in
    let own = own_ready (shown c.args.polled.now) (in_view c.args.view.now) c.args.now in
    let sees = sees_view (shown c.args.polled.now) c.args.view.now c.args.now c.marks.result c.new-sight.result c.marks.ensures c.new-sight.ensures in
    let it : c.into_iter-row-iterator.result ≡ filter (is_free c.args.busy.now) (candidates c.new-sight.result rows) = search rules in
    let none = c.in_ok-ids.ensures in
    record {
      sight = c.new-sight.result;
      sees = sees;
      passed = record { seen = []; split = sym (it ∙ free_candidates c.new-sight.result c.args.busy.now rows); lends = λ id. search rules };
      free = subst (AllFree c.args.busy.now) (sym it) (all_free c.args.busy.now (candidates c.new-sight.result rows));
      ids = rw none (ap (λ (l : List Row). walk (is_ready own c.args.busy.now rows) c.args.least l) it ∙ walk_free (shown c.args.polled.now) (in_view c.args.view.now) c.args.now c.new-sight.result sees c.args.busy.now c.args.least rows);
    }
