use Rattle.std.proofs.Common.{ap, ◌∙◌}
use Rattle.std.specs.Prelude.{is_some}
use Rattle.cancel_view.specs.Groups.{connection_at, handlers_in}
use Rattle.cancel_view.proofs.Kept.{kept_less, found, left}
use Rattle.cancel_view.proofs.handlers.Handlers.remove.Goals as goal

pub invariant_of-self : goal.invariant_of-self
invariant_of-self c = kept_less c.args.id c.self.inside.slots.items _ _ c.self.invariant c.empty.ensures

pub returns-clause-found : goal.returns-clause-found
returns-clause-found c =
    rw (← c.self.view_is) (c.is_some-is_found.ensures ∙ (ap is_some (c.connection_at.ensures ∙ ap (λ slots. connection_at slots c.args.id) c.as_slice.ensures.value) ∙ found c.args.id c.self.inside.slots.items))

pub returns-clause-left : goal.returns-clause-left
returns-clause-left c = rw (← c.self.view_is) (ap handlers_in c.empty.ensures ∙ left c.args.id c.self.inside.slots.items)
