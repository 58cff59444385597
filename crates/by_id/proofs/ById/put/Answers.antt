use Rattle.std.proofs.Common.{◌<◌, ◌∙◌, ap, sym, subst}
use Rattle.std.specs.List.{AllByRecursion}
use Rattle.std.specs.Ordering.{nat_cmp}
use Rattle.std.specs.BTreeMap.{insert_entry}
use Rattle.by_id.specs.Entries.{living, IdsRise}
use Rattle.by_id.proofs.Entries.{one_more, rises_more}
use Rattle.by_id.proofs.ById.put.Goals as goal

pub invariant_of-self-then-are_below : goal.invariant_of-self-then-are_below
invariant_of-self-then-are_below g c =
    let es = c.self.inside.entries.items in
    let below = subst (AllByRecursion (λ e. e.id < c.args.id)) c.deref.ensures.value (c.are_below.ensures c.if-are_below.true) in
    subst IdsRise (sym c.in_ok-push.ensures.items) (rises_more c.args.id c.args.value es c.self.invariant below)

pub returns-then-are_below-clause-ok : goal.returns-then-are_below-clause-ok
returns-then-are_below-clause-ok g c =
    let es = c.self.inside.entries.items in
    let below = subst (AllByRecursion (λ e. e.id < c.args.id)) c.deref.ensures.value (c.are_below.ensures c.if-are_below.true) in
    ap living c.in_ok-push.ensures.items ∙ (one_more c.args.id c.args.value es below ∙ ap (λ l. insert_entry nat_cmp l c.args.id c.args.value) c.self.view_is)
