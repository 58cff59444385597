use Rattle.std.proofs.Common.{◌≡◌, ℕ, ◌++◌, [], ◌∷◌, List, true, map, ap, sym, ◌∙◌, rules}
use Rattle.std.specs.List.{find}
use Rattle.std.specs.Ordering.{nat_cmp}
use Rattle.std.specs.BTreeSet.{contains}
use Rattle.source_rows.specs.declared.row.Row.{Row}
use Rattle.source_rows.specs.Rows.{in_order}
use Rattle.context_core.specs.declared.standing.Standing.{Standing}
use Rattle.context_core.specs.Ready.{in_view, own_ready, is_ready, is_callable}
use Rattle.context_core.specs.Phases.{shown}
use Rattle.context_core.specs.Standing.{standing}
use Rattle.context_core.proofs.Lent.{stepped}
use Rattle.context_core.proofs.Standings.{told_more, all_kept, each_kept}
use Rattle.context_core.proofs.context.Context.all_standings.Goals as goal

pub rows-preserved : goal.rows-preserved
rows-preserved c =
    let level = shown c.args.polled.now in
    let seen = in_view c.args.view.now in
    let own = own_ready level seen c.args.now in
    let busy = c.args.busy.now in
    let rows = c.args.self.now.rows.rows in
    let row = c.in-Some.row.now in
    let step = stepped own busy (λ _. true) rows c.rows.row-iterator c.next.new.self row (λ (id : ℕ). contains nat_cmp c.rows.lent id) (λ (id : ℕ). contains nat_cmp c.visit.new.lent id) _
    c.in_order-row-items.ensures.forest (each_kept (is_callable own busy) rows) c.in-Some.ensures.steps c.in_ok-ready.ensures.lent c.in_ok-ready.ensures.ready c.rows.invariant.passed in
    let more = told_more level seen c.args.now busy rows c.rows.row-iterator c.next.new.self row c.rows.first c.first_of-first.result c.in_ok-ready.ready c.rows.list.items c.push.new.self.items
    c.in-Some.ensures.steps step.1 c.first_of-first.ensures (c.in_ok-push.ensures.items ∙ ap (λ (s : Standing). c.rows.list.items ++ s ∷ []) c.stand.ensures) c.rows.invariant.first c.rows.invariant.told in
    record { passed = step.0; first = more.0; told = more.1 }

pub rows-init : goal.rows-init
rows-init c =
    let level = shown c.args.polled.now in
    let seen = in_view c.args.view.now in
    let own = own_ready level seen c.args.now in
    let rows = c.args.self.now.rows.rows in
    let it : c.into_iter-row-iterator.result ≡ in_order rows = search rules in
    let none : c.new-list.result.items ≡ [] = c.new-list.ensures.items in
    record {
      passed = record { seen = []; split = all_kept (in_order rows) ∙ sym it; lends = λ id. search rules };
      first = ap (find (is_ready own c.args.busy.now rows)) (sym it);
      told = rw none (ap (λ (l : List Row). map (standing level seen c.args.now c.args.busy.now rows) l) it);
    }
