use Rattle.std.proofs.Common.{◌≡◌, IfOk, ap, subst, ◌∙◌, rules, tests, List}
use Rattle.std.proofs.lemmas.Iterator.{YieldsList-from_slice, items_from_collect}
use Rattle.std.proofs.lemmas.Iterator.Consumers.{YieldsList-from_filter_map}
use Rattle.std.specs.List.{filter, filter_map}
use Rattle.std.specs.Prelude.{map}
use Rattle.cancel_view.specs.declared.handler.Fired.{Fired}
use Rattle.cancel_view.specs.Seen.{is_of, fired_as}
use Rattle.cancel_view.specs.Groups.{fired_at, handlers_in}
use Rattle.cancel_view.proofs.handlers.Handlers.of.Goals as goal

pub returns : goal.returns
returns c =
    let same : filter_map (fired_at c.as_slice-slots.result.now) c.ids_of.result.now ≡ map fired_as (filter (is_of c.args.c) (handlers_in c.args.self.now)) =
    ap (λ slots. filter_map (fired_at slots) c.ids_of.result.now) c.as_slice-slots.ensures.value
    ∙ (ap (filter_map (fired_at c.self.inside.slots.items)) c.ids_of.ensures
    ∙ (c.self.invariant.grouped c.args.c
    ∙ ap (λ slots. map fired_as (filter (is_of c.args.c) (handlers_in slots))) c.self.view_is)) in
    subst (λ (fs : List Fired). IfOk c.collect.result (λ v. v.items ≡ fs)) same
    (items_from_collect _ c.collect.ensures.ran (YieldsList-from_filter_map _ (fired_at c.as_slice-slots.result.now) (YieldsList-from_slice c.ids_of.result.now (cc)) c.filter_map.ensures.closure (λ x r q k. search (rules, tests))))
